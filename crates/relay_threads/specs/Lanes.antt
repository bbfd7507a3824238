-- The lanes' threads, and what they ended with.
use Rattle.std.specs.Prelude.{◌≡◌, ◌+◌, ℕ, Bool, Option, List, [], ◌∷◌, map}
use Rattle.std.specs.declared.thread.PromisedHandle.{PromisedHandle}
use Rattle.relay_results.specs.Outside.{Outside}
use Rattle.relay_queue.specs.Ends.{Queue}
use Rattle.relay_core.specs.declared.config.RelayConfig.{RelayConfig}
use Rattle.relay_lane.specs.Exchanges.{Exchange}
use Rattle.relay_threads.specs.declared.lane_end.LaneEnd.{LaneEnd}
use Rattle.relay_threads.specs.declared.thread.LanePromise.{LanePromise}
use Rattle.relay_threads.specs.Promises.{KeepsCourse, KeepsTold}
use Rattle.relay_threads.specs.Told.{Told}

-- a lane's thread, which returns its end and what it told by
abbrev pub LaneHandle : Type 0 → Type 0 → Type 0
LaneHandle W T = PromisedHandle (LaneEnd W × T) (LanePromise W T)

module _ {W T : Type 0} where
  abbrev pub queues_of : List (LaneHandle W T) → List Queue
  queues_of lanes = map (λ h. h.promise.take.value.queue) lanes

  abbrev pub wires_of : List (LaneHandle W T) → List W
  wires_of lanes = map (λ h. h.promise.wire.value) lanes

  abbrev pub tells_of : List (LaneHandle W T) → List T
  tells_of lanes = map (λ h. h.promise.tell.value) lanes

  -- the lanes have this config, and each queue has its senders
  abbrev pub AreLanesOf : RelayConfig → List (LaneHandle W T) → Type 0
  AreLanesOf c [] = Unit {0}
  AreLanesOf c (h ∷ hs) = ((h.promise.config.value ≡ c) × (h.promise.take.value.senders ≡ c.producers + 1)) × AreLanesOf c hs

  -- each lane has ended as its thread promised, in order
  abbrev pub EndAsPromised : (W → Bool) → (W → Outside → Type 0) → (W → Exchange → W → Type 0) → List (LaneHandle W T) → List (LaneEnd W) → Type 0
  EndAsPromised describes fits carries [] [] = Unit {0}
  EndAsPromised describes fits carries [] (e ∷ es) = ⊥
  EndAsPromised describes fits carries (h ∷ hs) [] = ⊥
  EndAsPromised describes fits carries (h ∷ hs) (e ∷ es) =
      KeepsCourse describes fits carries h.promise.config.value h.promise.take.value h.promise.wire.value e × EndAsPromised describes fits carries hs es

  -- each lane has told what its thread promised, in order
  abbrev pub ToldAsPromised : (W → Bool) → (W → Outside → Type 0) → (W → Exchange → W → Type 0) → (T → ℕ → Option Told) → List (LaneHandle W T) → List (LaneEnd W) → List T → Type 0
  ToldAsPromised describes fits carries told [] [] [] = Unit {0}
  ToldAsPromised describes fits carries told [] [] (t ∷ ts) = ⊥
  ToldAsPromised describes fits carries told [] (e ∷ es) ts = ⊥
  ToldAsPromised describes fits carries told (h ∷ hs) [] ts = ⊥
  ToldAsPromised describes fits carries told (h ∷ hs) (e ∷ es) [] = ⊥
  ToldAsPromised describes fits carries told (h ∷ hs) (e ∷ es) (t ∷ ts) =
      KeepsTold describes fits carries told h.promise.config.value h.promise.wire.value h.promise.tell.value t e × ToldAsPromised describes fits carries told hs es ts
