-- An acknowledgement is the truth: what clients are told of how their writes ended is what the lanes told of those very operations.
use Rattle.std.specs.Prelude.{◌≡◌, ℕ, ◌+◌, ◌<◌, Bool, List, [], ◌∷◌, Option, length, map}
use Rattle.relay_action.specs.declared.operation.Op.{Op}
use Rattle.relay_action.specs.Lanes.{lane_of_document}
use Rattle.relay_results.specs.declared.outcome.Outcome.{Outcome}
use Rattle.relay_results.specs.Words.{Mem}
use Rattle.relay_results.specs.Documents.{document_of, name_of, write_for}
use Rattle.relay_results.specs.Outside.{Outside}
use Rattle.relay_delivery.specs.Causes.{IsAnswered, IsTrueCause}
use Rattle.relay_delivery.specs.Delivery.{terms_of}
use Rattle.relay_delivery.specs.Machine.{Config, Report}
use Rattle.relay_core.specs.declared.config.RelayConfig.{RelayConfig}
use Rattle.relay_core.specs.declared.success.Success.{Success}
use Rattle.relay_core.specs.State.{config_of}
use Rattle.relay_core.specs.Walk.{report_of}
use Rattle.relay_lane.specs.Exchanges.{Exchange}
use Rattle.relay_producer.specs.declared.ends.ClosedEnd.{ClosedEnd}
use Rattle.relay_threads.specs.declared.summary.LaneSummary.{LaneSummary}
use Rattle.relay_threads.specs.Course.{puts_of}
use Rattle.relay_threads.specs.Told.{Told, IsToldTruly, status_told}
use Rattle.relay_threads.specs.ToldAll.{ToldOfPuts}
use Rattle.relay_telling.specs.declared.lane_tells.LaneTells.{LaneTells}
use Rattle.relay_telling.specs.Shown.{shown_at}
use Rattle.relay_common.specs.Putting.{named_ops}
use Rattle.relay_front.specs.declared.ending.End.{End}
use Rattle.relay_front.specs.declared.ending.End.TheVariants as end
use Rattle.relay_serve.specs.Serving.{Request, ops_of}

-- ---- one end

-- it says nothing of what the index did
abbrev pub IsSilent : End → Type 0
IsSilent (end.Applied version status) = ⊥
IsSilent (end.Reported cause) = ⊥
IsSilent end.Late = Unit {0}
IsSilent end.Unput = Unit {0}
IsSilent end.Gone = Unit {0}

-- A lane that told of these successes and reports told so of this very operation: that it ended as applied, with this version and
-- this status; or by a report with this cause.
abbrev pub IsTold : List Success → List Report → Op → End → Type 0
IsTold applied reported o (end.Applied version status) = Mem (record { name = name_of o; version = version; status = status }) applied
IsTold applied reported o (end.Reported cause) = (r : Report) × Mem r reported × (r.name ≡ name_of o) × (r.cause ≡ cause)
IsTold applied reported o end.Late = Unit {0}
IsTold applied reported o end.Unput = Unit {0}
IsTold applied reported o end.Gone = Unit {0}

-- the index applied the write of this operation, with this version, and answered a request with it with this status, or with a
-- conflict, if none is given
pub record IsWritten (out : Outside) (o : Op) (version : ℕ) (status : Option ℕ) : Type 0 where
  pub is_in : Mem (write_for o version) (out.applied (document_of o.key))
  pub outcome : Outcome
  pub answered : IsAnswered out (write_for o version) outcome
  pub status_is : status ≡ status_told outcome.status

-- Beside this outside the end of this operation is true, by this assignment of versions: its write was applied; or the cause of
-- the report is true of it.
abbrev pub IsTrueEnd : Config → List Op → (Op → Option ℕ) → Outside → Op → End → Type 0
IsTrueEnd g taken versions out o (end.Applied version status) = IsWritten out o version status
IsTrueEnd g taken versions out o (end.Reported cause) = IsTrueCause (terms_of g taken) out o (versions o) cause
IsTrueEnd g taken versions out o end.Late = Unit {0}
IsTrueEnd g taken versions out o end.Unput = Unit {0}
IsTrueEnd g taken versions out o end.Gone = Unit {0}

-- ---- the ends of all writes

-- This holds of each of these operations and its end, in order. The ends beyond them, of writes that were not put, say nothing of
-- what the index did.
abbrev pub HoldsOfEnds : (Op → End → Type 0) → List Op → List End → Type 0
HoldsOfEnds holds [] [] = Unit {0}
HoldsOfEnds holds [] (e ∷ es) = IsSilent e × HoldsOfEnds holds [] es
HoldsOfEnds holds (o ∷ os) [] = ⊥
HoldsOfEnds holds (o ∷ os) (e ∷ es) = holds o e × HoldsOfEnds holds os es

-- this holds of each write of these requests, put under the names of this producer in an epoch, from this number on, and its end
abbrev pub HoldsOfRequests : (Op → End → Type 0) → (epoch producer number : ℕ) → List Request → Type 0
HoldsOfRequests holds epoch p number [] = Unit {0}
HoldsOfRequests holds epoch p number (r ∷ rs) =
    HoldsOfEnds holds (named_ops epoch p number r.put) r.ends × HoldsOfRequests holds epoch p (number + length r.put) rs

-- it holds of those whose document is in this lane, for each worker
abbrev pub HoldsInLane : (Op → End → Type 0) → RelayConfig → (ℕ → List Request) → (lane : ℕ) → Type 0
HoldsInLane holds c requests lane =
    (p : ℕ) → p < c.producers → HoldsOfRequests (λ o e. lane_of_document o.key c.lanes ≡ lane → holds o e) c.epoch p 1 (requests p)

-- ---- the lanes

-- what a lane shows of what it told each producer
abbrev pub told_by : LaneTells → ℕ → Option Told
told_by t p = shown_at t.ends.items p

module _ {W : Type 0} (describes : W → Bool) (fits : W → Outside → Type 0) (carries : W → Exchange → W → Type 0) (c : RelayConfig) (requests : ℕ → List Request) where
  -- What clients were told of the writes on a lane's documents, that were put for these requests: the lane told so of that very
  -- operation; and it is true beside each outside beside which what the lane told is, as `ToldLane` says.
  pub record AcknowledgedLane (rows : List (List ClosedEnd)) (lane : ℕ) (start : W) (first last : LaneTells) (s : LaneSummary W) : Type 0 where
    pub of_puts : ToldOfPuts describes fits carries told_by c (ops_of c.epoch requests) rows lane start first last s
    pub told : HoldsInLane (IsTold of_puts.lane_told.applied (map report_of s.reports.items)) c requests lane
    pub truly : (out : Outside) → (t : IsToldTruly (config_of c) (puts_of of_puts.lane_told.messages) of_puts.lane_told.applied (map report_of s.reports.items) out) → HoldsInLane (IsTrueEnd (config_of c) (puts_of of_puts.lane_told.messages) t.versions out) c requests lane

  -- this holds for the lanes from this one on, each with its wire, and with what it told by at the start and at the end
  abbrev pub AllAcknowledged : List (List ClosedEnd) → ℕ → List W → List LaneTells → List LaneTells → List (LaneSummary W) → Type 0
  AllAcknowledged rows lane [] [] [] [] = Unit {0}
  AllAcknowledged rows lane [] [] [] (s ∷ ss) = ⊥
  AllAcknowledged rows lane [] [] (t ∷ ts) ss = ⊥
  AllAcknowledged rows lane [] (f ∷ fs) ts ss = ⊥
  AllAcknowledged rows lane (w ∷ ws) [] ts ss = ⊥
  AllAcknowledged rows lane (w ∷ ws) (f ∷ fs) [] ss = ⊥
  AllAcknowledged rows lane (w ∷ ws) (f ∷ fs) (t ∷ ts) [] = ⊥
  AllAcknowledged rows lane (w ∷ ws) (f ∷ fs) (t ∷ ts) (s ∷ ss) = AcknowledgedLane rows lane w f t s × AllAcknowledged rows (lane + 1) ws fs ts ss
