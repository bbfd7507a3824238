-- What a lane's thread promises of its end.
use Rattle.std.specs.Prelude.{◌≡◌, ◌<◌, ℕ, Bool, Option}
use Rattle.relay_results.specs.Outside.{Outside}
use Rattle.relay_queue.specs.Ends.{TakerEnd}
use Rattle.relay_queue.specs.Messages.{mail_of, HasDone, IsWellTaken}
use Rattle.relay_core.specs.declared.config.RelayConfig.{RelayConfig}
use Rattle.relay_lane.specs.Exchanges.{Exchange}
use Rattle.relay_threads.specs.declared.lane_end.LaneEnd.{LaneEnd}
use Rattle.relay_threads.specs.declared.lane_end.LaneEndKind.TheVariants.{Finished}
use Rattle.relay_threads.specs.Course.{EndsAs}
use Rattle.relay_threads.specs.Told.{Told, EndsTold}

-- a lane of this config, with this end of a queue and this wire, has ended as `run_lane` says
pub record KeepsCourse {W : Type 0} (describes : W → Bool) (fits : W → Outside → Type 0) (carries : W → Exchange → W → Type 0) (c : RelayConfig) (take : TakerEnd) (start : W) (end : LaneEnd W) : Type 0 where
  pub queue : end.taken.queue ≡ take.queue
  pub senders : end.taken.senders ≡ take.senders
  pub well_taken : IsWellTaken end.taken.senders end.taken.taken
  pub ends : EndsAs (describes start) fits carries start end.wire c end.taken.taken end.kind end.lane.state
  pub closed : end.kind ≡ Finished → (sender : ℕ) → sender < take.senders → HasDone (mail_of sender end.taken.taken)

-- a lane of this config, with this wire, that told by this at the start has ended as `run_lane` says of what it told
abbrev pub KeepsTold : {W T : Type 0} → (W → Bool) → (W → Outside → Type 0) → (W → Exchange → W → Type 0) → (T → ℕ → Option Told) → RelayConfig → W → T → T → LaneEnd W → Type 0
KeepsTold describes fits carries told c start first last end =
    EndsTold (describes start) fits carries start end.wire (told first) (told last) c end.taken.taken end.kind end.lane.state
