use denote.Param.Send.{sendable}
use Rattle.std.proofs.Crossing.{crosses}
use Rattle.std.proofs.alloc.Global.TheSendSync as heap
use Rattle.relay_run.proofs.Crossing.{Keeper-send, Waiting-send}
use Rattle.relay_run.proofs.keeping.start_keeping.Goals as goal

pub spawn_with-requires-send-F : goal.spawn_with-requires-send-F
spawn_with-requires-send-F g c κs within = search (Keeper-send, Waiting-send, heap.the_send, sendable, crosses) depth 20

pub spawn_with-requires-send-T : goal.spawn_with-requires-send-T
spawn_with-requires-send-T g c κs within = search (Keeper-send, sendable, crosses) depth 20
