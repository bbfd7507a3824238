use Rattle.relay_clients.proofs.Rooms.{limit}
use Rattle.relay_clients.proofs.room.sum_is_limited.Goals as goal

pub returns : goal.returns
returns c = limit
