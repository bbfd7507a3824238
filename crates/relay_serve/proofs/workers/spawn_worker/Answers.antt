use denote.Param.Send.{sendable}
use Rattle.relay_clients.proofs.Crossing.{Parking-send, Receiver-send}
use Rattle.relay_serve.proofs.Crossing.{Ended-send}
use Rattle.relay_serve.proofs.worker.Worker.TheSendSync as worker
use Rattle.relay_serve.proofs.workers.spawn_worker.Goals as goal

pub spawn_with-requires-send-F : goal.spawn_with-requires-send-F
spawn_with-requires-send-F g c κs within = search (worker.the_send, Receiver-send, Parking-send, Ended-send, sendable) depth 20
