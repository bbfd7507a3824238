use Rattle.std.proofs.Common.{refl, sym, ap, ◌∙◌}
use Rattle.relay_core.specs.State.{Seen, next_batch}
use Rattle.relay_core.specs.Memory.{writes_in}
use Rattle.relay_core.specs.View.{state_of}
use Rattle.relay_core.proofs.Entering.{none_now}
use Rattle.relay_core.proofs.lane.Lane.is_gathering.Goals as goal

pub returns-then-is_roomy : goal.returns-then-is_roomy
returns-then-is_roomy c is =
    let i = c.self.inside in
    let roomy = sym c.is_roomy.ensures ∙ is in
    sym (none_now (state_of i) (writes_in i.flight.requests) i.held.list i.room refl roomy (c.self.invariant.quiet roomy) ∙ ap next_batch (ap (λ (v : Seen). v.state) c.self.view_is))
