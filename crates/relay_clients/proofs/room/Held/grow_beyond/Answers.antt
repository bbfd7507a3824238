use Rattle.std.proofs.Common.{rules, ap, ◌∙◌}
use Rattle.relay_clients.specs.declared.room.TheConstants.{LARGEST}
use Rattle.relay_clients.proofs.Rooms.{adds}
use Rattle.relay_clients.proofs.room.Held.grow_beyond.Goals as goal

pub fetch_add-requires : goal.fetch_add-requires
fetch_add-requires c = let known = c.self.inside.known in (
  search rules,
  search rules,
  adds LARGEST _ _ _ _ _ (ap (λ x. x.is_beyond) known ∙ search rules) (search rules) (search rules),
)

pub invariant_of-self-inside : goal.invariant_of-self-inside
invariant_of-self-inside c = search rules
