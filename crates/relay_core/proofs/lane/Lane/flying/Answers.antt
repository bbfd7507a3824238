use Rattle.std.proofs.Common.{sym, ap, ◌∙◌, length}
use Rattle.std.proofs.lemmas.List.{length-map}
use Rattle.relay_core.specs.Memory.{flying_of}
use Rattle.relay_core.specs.State.{Seen}
use Rattle.relay_core.proofs.lane.Lane.flying.Goals as goal

pub returns : goal.returns
returns c = c.flying.ensures ∙ sym (length-map c.self.inside.flight.requests flying_of) ∙ ap (λ (v : Seen). length v.state.core.flying) c.self.view_is
