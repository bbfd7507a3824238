use Rattle.std.proofs.Common.{rules, ap, ◌∙◌}
use Rattle.relay_clients.specs.declared.room.TheConstants.{LARGEST}
use Rattle.relay_clients.proofs.Rooms.{comes_back}
use Rattle.relay_clients.proofs.room.Held.come_back.Goals as goal

pub store-requires : goal.store-requires
store-requires c = let known = c.self.inside.known in (
  search rules,
  search rules,
  comes_back LARGEST _ _ _ _ (ap (λ x. x.is_beyond) known ∙ search rules) (ap (λ x. x.bytes) known ∙ search rules),
)
