-- The end of the channel that a worker's thread drops at its end may go to that thread.
use denote.Builtin.{unit}
use denote.Param.Send.{IsSend, plain_send}
use Rattle.std.proofs.Crossing.{frees}
use Rattle.std.proofs.alloc.Global.TheSendSync as heap
use Rattle.std.specs.contracts.alloc.Global as Global
use Rattle.std.specs.contracts.impls.GlobalAllocator.TheImpl.{ghosts}
use Rattle.crossbeam_channel.specs.contracts.channel.Sender as Sender
use Rattle.crossbeam_channel.proofs.channel.Sender.TheSendSync as sender

pub Ended-send : IsSend (Sender.the_row unit Global.the_row ghosts)
Ended-send = sender.the_send unit Global.the_row ghosts (plain_send _ _ _ _ _) heap.the_send heap.the_sync frees
