use Rattle.std.proofs.Common.{◌+◌, ◌∙◌, ap, min, sym}
use Rattle.relay_delivery.specs.Lane.{backoff}
use Rattle.relay_held.specs.Operations.{back_at}
use Rattle.relay_core.specs.Walk.{back}
use Rattle.relay_core.proofs.Passing.{with_first_same}
use Rattle.relay_core.proofs.settle.land.Goals as goal

pub returns-clause-held : goal.returns-clause-held
returns-clause-held c = λ h a e.
    c.land.ensures.list
    ∙ with_first_same c.args.write.key (back_at c.saturating_add.result c.args.write) (back c.args.clock c.args.write) c.args.held.now.list h e
    (ap (λ due. back_at due c.args.write h) (c.saturating_add.ensures ∙ ap (λ n. min (c.args.clock + n) 18446744073709551615) c.pause.ensures ∙ ap (backoff c.args.clock) (sym a)))
