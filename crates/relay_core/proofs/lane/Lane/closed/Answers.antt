use Rattle.std.proofs.Common.{ap, ◌∙◌}
use Rattle.std.specs.Prelude.{Bool}
use Rattle.std.specs.List.{list_all}
use Rattle.relay_core.specs.State.{all_closed}
use Rattle.relay_core.specs.State.{Seen}
use Rattle.relay_core.proofs.lane.Lane.closed.Goals as goal

pub returns : goal.returns
returns c = c.are_closed.ensures ∙ ap (list_all (λ (b : Bool). b)) c.deref.ensures.value ∙ ap all_closed (ap (λ (v : Seen). v.state) c.self.view_is)
