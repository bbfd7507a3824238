use Rattle.std.proofs.Common.{rules}
use Rattle.relay_clients.specs.declared.room.TheConstants.{LARGEST}
use Rattle.relay_clients.proofs.Rooms.{looks}
use Rattle.relay_clients.proofs.room.Room.open.Goals as goal

pub load_new_seat-open-requires : goal.load_new_seat-open-requires
load_new_seat-open-requires c = (search rules, looks LARGEST _ _)
