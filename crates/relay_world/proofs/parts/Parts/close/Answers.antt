use Rattle.std.proofs.Common.{sym, ◌∙◌, rules}
use Rattle.relay_world.proofs.Holding.{close_open}
use Rattle.relay_world.proofs.parts.Parts.close.Goals as goal

pub post-requires : goal.post-requires
post-requires c = close_open c.args.self.now c.args.sender c.args.lane c.close_refusal.ensures.kept (sym c.close_refusal.ensures.value ∙ c.in_default.is)

pub returns-clause-ok : goal.returns-clause-ok
returns-clause-ok c = search rules
