use Rattle.std.proofs.Common.{rules, ap, ◌∙◌}
use Rattle.relay_clients.specs.declared.room.TheConstants.{LARGEST}
use Rattle.relay_clients.proofs.Rooms.{grows}
use Rattle.relay_clients.proofs.room.Held.grow.Goals as goal

pub compare_exchange-found-requires : goal.compare_exchange-found-requires
compare_exchange-found-requires c = let known = c.loop.invariant.2 ∙ c.self.inside.known in (
  search rules,
  search rules,
  grows LARGEST _ _ _ _ _ _ (ap (λ x. x.is_beyond) known ∙ search rules) (search rules) (search rules),
)
