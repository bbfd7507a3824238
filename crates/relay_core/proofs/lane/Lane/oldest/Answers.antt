use Rattle.std.proofs.Common.{ap, ◌∙◌}
use Rattle.relay_core.specs.State.{Seen, oldest}
use Rattle.relay_core.proofs.Lasting.{oldest_seen}
use Rattle.relay_core.proofs.lane.Lane.oldest.Goals as goal

pub returns : goal.returns
returns c =
    let i = c.self.inside in
    oldest_seen i.flight.max i.flight.next i.flight.requests c.oldest.result c.self.invariant.flight.numbered c.oldest.ensures ∙ ap (λ (v : Seen). oldest v.state) c.self.view_is
