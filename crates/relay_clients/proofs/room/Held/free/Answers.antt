use Rattle.std.proofs.Common.{rules, ap}
use Rattle.relay_clients.specs.declared.room.TheConstants.{LARGEST}
use Rattle.relay_clients.proofs.Rooms.{empties}
use Rattle.relay_clients.proofs.room.Held.free.Goals as goal

pub fetch_sub-requires : goal.fetch_sub-requires
fetch_sub-requires c = (search rules, search rules, empties LARGEST _ _ _ _ _ (ap (λ x. x.bytes) c.self.inside.known))
