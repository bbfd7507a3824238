-- What may go to another thread, of what keeps a state, which holds snapshots. Rattle finds this by itself of a type below which there is
-- no snapshot; of the others a `search` runs out of steps, so their parts are named here.
use denote.Builtin.{u8, u32, unit}
use denote.Param.Send.{IsSend, view_send, recorded_send, struct_send, plain_send}
use denote.Struct.Declared.{shape}
use Rattle.std.proofs.Crossing.{crosses, Arc-send, Vec-send}
use Rattle.std.proofs.fs.File.TheSendSync as file
use Rattle.std.proofs.option.Option.TheSendSync as option
use Rattle.std.proofs.rt.LibcRuntime.TheSendSync as host
use Rattle.std.proofs.string.String.TheSendSync as text
use Rattle.std.proofs.alloc.Global.TheSendSync as heap
use Rattle.std.proofs.Crossing.{frees}
use Rattle.std.specs.contracts.alloc.Global as Global
use Rattle.std.specs.contracts.impls.GlobalAllocator.TheImpl.{ghosts}
use Rattle.std.specs.contracts.fs.File as File
use Rattle.std.specs.contracts.option.Option as Option
use Rattle.std.specs.contracts.snapshot.Snapshot as Snapshot
use Rattle.std.specs.contracts.string.String as String
use Rattle.std.specs.contracts.sync.Arc as Arc
use Rattle.std.specs.contracts.vec.Vec as Vec
use Rattle.crossbeam_channel.specs.contracts.channel.Receiver as Receiver
use Rattle.crossbeam_channel.proofs.channel.Receiver.TheSendSync as receiver
use Rattle.http_server.proofs.log.Log.TheSendSync as log
use Rattle.relay_keeping.specs.contracts.keeper.MarkKeeper as MarkKeeper
use Rattle.relay_keeping.proofs.keeper.MarkKeeper.TheSendSync as marks
use Rattle.relay_resume.specs.contracts.mark.Mark as Mark
use Rattle.relay_resume.proofs.mark.Mark.TheSendSync as mark
use Rattle.relay_resume.proofs.state.State.TheSendSync as state
use Rattle.relay_run.specs.contracts.keeping.Keeper as Keeper
use Rattle.relay_run.specs.contracts.keeping.Kept as Kept
use Rattle.relay_run.specs.contracts.keeping.Kept.TheInside as KeptInside
use Rattle.relay_run.specs.contracts.resuming.Resumed as Resumed
use Rattle.relay_run.specs.contracts.resuming.Resumed.TheInside as ResumedInside
use Rattle.relay_run.specs.contracts.state_file.StateFile as StateFile
use Rattle.relay_run.specs.contracts.state_file.StateFile.TheInside as StateFileInside
use Rattle.relay_run.specs.contracts.stopping.Stop as Stop
use Rattle.relay_run.proofs.stopping.Stop.TheSendSync as stop

String-send : IsSend (String.the_field Global.the_row ghosts).row
String-send = text.the_field_send Global.the_row ghosts heap.the_send frees

Text-send : IsSend (String.the_row Global.the_row ghosts)
Text-send = text.the_send Global.the_row ghosts heap.the_send frees

abbrev Then : denote.RattleType.RattleType
Then = Snapshot.the_row MarkKeeper.the_row

Then-send : IsSend (Option.the_row Then)
Then-send = option.the_send Then (search crosses)

StateFile-send : IsSend StateFile.the_row
StateFile-send =
    view_send StateFileInside.the_row _ _ _ _ (
    recorded_send (StateFileInside.the_field).row _ _ (StateFileInside.the_type).to_one (
    struct_send (shape StateFileInside.the_type) (
      host.the_field_send,
      (
        String-send,
        (
          String-send,
          (
            String-send,
            (
              file.the_field_send,
              (
                log.the_send (Vec.the_row u8 Global.the_row ghosts) (Option.the_row Then) (Vec-send u8 (plain_send _ _ _ _ _)) Then-send,
                tt,
              ),
            ),
          ),
        ),
      ),
    )
    )
    )

Resumed-send : IsSend Resumed.the_row
Resumed-send =
    view_send ResumedInside.the_row _ _ _ _ (
    recorded_send (ResumedInside.the_field).row _ _ (ResumedInside.the_type).to_one (
    struct_send (shape ResumedInside.the_type) (
      StateFile-send,
      (
        state.the_field_send,
        (
          option.the_field_send File.the_row file.the_send,
          (
            Vec-send u32 (plain_send _ _ _ _ _),
            (
              plain_send _ _ _ _ _,
              (Vec-send Mark.the_row mark.the_send, (search crosses, tt)),
            ),
          ),
        ),
      ),
    )
    )
    )

Kept-send : IsSend Kept.the_row
Kept-send =
    view_send KeptInside.the_row _ _ _ _ (
    recorded_send (KeptInside.the_field).row _ _ (KeptInside.the_type).to_one (struct_send (shape KeptInside.the_type) (Resumed-send, (marks.the_send, tt)))
    )

pub Keeper-send : IsSend Keeper.the_row
Keeper-send =
    recorded_send (Keeper.the_field).row _ _ (Keeper.the_type).to_one (
    struct_send (shape Keeper.the_type) (
      host.the_field_send,
      (
        option.the_field_send Kept.the_row Kept-send,
        (
          option.the_field_send (String.the_row Global.the_row ghosts) Text-send,
          (option.the_field_send (Arc.the_row Stop.the_row Global.the_row ghosts) (Arc-send Stop.the_row stop.the_send stop.the_sync), (plain_send _ _ _ _ _, tt)),
        ),
      ),
    )
    )

-- the end of the channel that ends such a thread
pub Waiting-send : IsSend (Receiver.the_row unit Global.the_row ghosts)
Waiting-send = receiver.the_send unit Global.the_row ghosts (plain_send _ _ _ _ _) heap.the_send heap.the_sync frees
