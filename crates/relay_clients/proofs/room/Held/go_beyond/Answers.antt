use Rattle.std.proofs.Common.{rules, ap, ◌∙◌}
use Rattle.relay_clients.specs.declared.room.TheConstants.{LARGEST}
use Rattle.relay_clients.proofs.Rooms.{goes_beyond}
use Rattle.relay_clients.proofs.room.Held.go_beyond.Goals as goal

pub swap-found-requires : goal.swap-found-requires
swap-found-requires c = (search rules, search rules, goes_beyond LARGEST _ _ _ _ (ap (λ x. x.is_beyond) c.self.inside.known ∙ search rules))

pub invariant_of-self-inside : goal.invariant_of-self-inside
invariant_of-self-inside c = search rules
