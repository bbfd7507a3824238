use Rattle.std.proofs.Common.{rules}
use Rattle.relay_clients.specs.declared.room.TheConstants.{LARGEST}
use Rattle.relay_clients.proofs.Rooms.{looks}
use Rattle.relay_clients.proofs.room.Room.part.Goals as goal

pub load_new_seat-seat-requires : goal.load_new_seat-seat-requires
load_new_seat-seat-requires c = (search rules, looks LARGEST _ _)
