use Rattle.std.proofs.Common.{sym, ◌∙◌}
use Rattle.relay_world.proofs.Places.{minus_one}
use Rattle.relay_world.proofs.parts.Parts.request.Goals as goal

pub returns-else-request-eq0 : goal.returns-else-request-eq0
returns-else-request-eq0 c = c.sent_at.ensures ∙ sym (minus_one c.args.self.now.sent c.args.request c.if-request-eq0.false)
