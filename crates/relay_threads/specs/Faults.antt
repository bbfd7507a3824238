-- Which lane is the first that did not finish well.
use Rattle.std.specs.Prelude.{◌≡◌, ◌<◌, ℕ, zero, suc, Bool, true, false, ◌||◌, List, [], ◌∷◌, length, Option, Some, None}
use Rattle.relay_producer.specs.declared.ends.ClosedEnd.{ClosedEnd}
use Rattle.relay_producer.specs.Ends.{is_gone}
use Rattle.relay_threads.specs.declared.fault.FinishFault.{FinishFault}
use Rattle.relay_threads.specs.declared.fault.FinishFaultKind.{FinishFaultKind}
use Rattle.relay_threads.specs.declared.fault.FinishFaultKind.TheVariants as kind
use Rattle.relay_threads.specs.declared.lane_end.LaneEnd.{LaneEnd}
use Rattle.relay_threads.specs.declared.lane_end.LaneEndKind.{LaneEndKind}
use Rattle.relay_threads.specs.declared.lane_end.LaneEndKind.TheVariants.{Finished, Memory, Gone}

-- the first of the lanes 0 to n - 1 that passes the test, if one does
abbrev pub FirstOf : (ℕ → Bool) → ℕ → Option ℕ → Type 0
FirstOf test n None = (lane : ℕ) → lane < n → test lane ≡ false
FirstOf test n (Some first) = (first < n) × (test first ≡ true) × ((lane : ℕ) → lane < first → test lane ≡ false)

abbrev pub is_memory : LaneEndKind → Bool
is_memory Finished = false
is_memory Memory = true
is_memory Gone = false

abbrev pub is_gone_kind : LaneEndKind → Bool
is_gone_kind Finished = false
is_gone_kind Memory = false
is_gone_kind Gone = true

-- the lane has ended in a way that passes the test
abbrev pub ends_as : {W : Type 0} → (LaneEndKind → Bool) → List (LaneEnd W) → ℕ → Bool
ends_as test [] lane = false
ends_as test (e ∷ es) zero = test e.kind
ends_as test (e ∷ es) (suc lane) = ends_as test es lane

-- a closed handle has marked the lane
abbrev pub is_gone_in : List ClosedEnd → ℕ → Bool
is_gone_in [] lane = false
is_gone_in (e ∷ es) zero = is_gone e
is_gone_in (e ∷ es) (suc lane) = is_gone_in es lane

-- one of the closed handles has marked the lane
abbrev pub is_gone_in_any : List (List ClosedEnd) → ℕ → Bool
is_gone_in_any [] lane = false
is_gone_in_any (row ∷ rows) lane = is_gone_in row lane || is_gone_in_any rows lane

-- the lane has ended as Gone, or a closed handle has marked it
abbrev pub is_gone_lane : {W : Type 0} → List (LaneEnd W) → List (List ClosedEnd) → ℕ → Bool
is_gone_lane ends rows lane = ends_as is_gone_kind ends lane || is_gone_in_any rows lane

-- ---- faults

-- no lane ended as Memory; no lane ended as Gone or was marked
abbrev pub NoneMemory : {W : Type 0} → List (LaneEnd W) → Type 0
NoneMemory ends = FirstOf (ends_as is_memory ends) (length ends) None

abbrev pub NoneLost : {W : Type 0} → List (LaneEnd W) → List (List ClosedEnd) → Type 0
NoneLost ends rows = FirstOf (is_gone_lane ends rows) (length ends) None

-- A fault of this kind names this lane: the first that ended as Memory; if none did, the first that ended as Gone or
-- that a closed handle has marked; if there is neither, lane 0.
abbrev pub IsFaultOf : {W : Type 0} → List (LaneEnd W) → List (List ClosedEnd) → FinishFaultKind → ℕ → Type 0
IsFaultOf ends rows kind.LaneMemory lane = FirstOf (ends_as is_memory ends) (length ends) (Some lane)
IsFaultOf ends rows kind.LaneGone lane = NoneMemory ends × FirstOf (is_gone_lane ends rows) (length ends) (Some lane)
IsFaultOf ends rows kind.Memory lane = NoneMemory ends × NoneLost ends rows × (lane ≡ 0)

-- the fault of lanes that have ended, if there is one
abbrev pub TellsFault : {W : Type 0} → List (LaneEnd W) → List (List ClosedEnd) → Option FinishFault → Type 0
TellsFault ends rows None = NoneMemory ends × NoneLost ends rows
TellsFault ends rows (Some fault) = IsFaultOf ends rows fault.kind fault.lane × (fault.kind ≡ kind.Memory → ⊥)
