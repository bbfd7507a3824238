use Rattle.std.proofs.Common.{refl, sym, ap, ◌∙◌}
use Rattle.relay_core.specs.State.{due_in}
use Rattle.relay_core.specs.Memory.{writes_in}
use Rattle.relay_core.specs.View.{state_of}
use Rattle.relay_core.proofs.Reading.{due_in_seen}
use Rattle.relay_core.specs.State.{Seen}
use Rattle.relay_core.proofs.lane.Lane.due_in.Goals as goal

pub returns : goal.returns
returns c =
    let i = c.self.inside in
    c.due_in.ensures ∙ sym (due_in_seen (state_of i) (writes_in i.flight.requests) i.held.list refl) ∙ ap due_in (ap (λ (v : Seen). v.state) c.self.view_is)
