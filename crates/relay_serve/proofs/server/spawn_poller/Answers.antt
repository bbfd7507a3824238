use denote.Param.Send.{sendable}
use Rattle.std.proofs.Crossing.{Arc-send}
use Rattle.relay_clients.proofs.Crossing.{Poller-send}
use Rattle.relay_serve.proofs.board.Board.TheSendSync as board
use Rattle.relay_serve.proofs.server.spawn_poller.Goals as goal

pub spawn-requires-send-F : goal.spawn-requires-send-F
spawn-requires-send-F g c κs within = search (Poller-send, board.the_send, board.the_sync, Arc-send, sendable) depth 20
