use Rattle.std.proofs.Common.{◌≡◌, drop, ◌++◌, ◌∷◌, []}
use Rattle.std.specs.Prelude.{map}
use Rattle.relay_delivery.specs.Incarnations.{accepted_in}
use Rattle.relay_world.specs.State.{incarnation, incarnations_of, running}
use Rattle.relay_world.proofs.parts.Parts.accepted_in.Given as goal

-- what the incarnations that are left have of the epoch is what all of them have
abbrev pub invariant-ended : goal.invariant-ended
invariant-ended l = accepted_in (map (incarnation l.self.config) (drop l.ended-index l.self.ended ++ running l.self ∷ [])) l.epoch l.producer ≡ accepted_in (incarnations_of l.self) l.epoch l.producer
