use Rattle.std.proofs.Common.{◌∙◌}
use Rattle.relay_sift.proofs.Sifting.{takes_held, holds_writing}
use Rattle.relay_sift.proofs.sifted.Sifted.take_portion.Goals as goal

pub returns-in-Ok-clause-ok : goal.returns-in-Ok-clause-ok
returns-in-Ok-clause-ok g c =
    takes_held c.args.self.now _ c.args.first c.args.end c.args.count c.args.fault _ c.requires.passing c.requires.front (c.self.view_is ∙ c.in-Ok.ensures.ok) c.skip.ensures

pub returns-in-Err-clause-err : goal.returns-in-Err-clause-err
returns-in-Err-clause-err g c = holds_writing c.args.self.now _ c.in-Err.ensures.err
