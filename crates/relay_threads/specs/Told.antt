-- What a lane's thread tells of the operations that it took.
use Rattle.std.specs.Prelude.{◌≡◌, ◌+◌, ◌==◌, ℕ, List, [], ◌∷◌, ◌++◌, Option, Some, None, Bool, IsTrue, filter, length, slice_get, if◌then◌else◌}
use Rattle.relay_action.specs.declared.mail.Mail.{Mail}
use Rattle.relay_action.specs.declared.operation.Op.{Op}
use Rattle.relay_action.specs.declared.operation.OpName.{OpName}
use Rattle.relay_results.specs.declared.outcome.Outcome.{Outcome}
use Rattle.relay_results.specs.Words.{Mem, count}
use Rattle.relay_results.specs.Documents.{document_of, name_of, write_for}
use Rattle.relay_results.specs.Verdicts.{is_conflict}
use Rattle.relay_results.specs.Numbers.{from_zero}
use Rattle.relay_results.specs.Outside.{Outside, IsOpening}
use Rattle.relay_delivery.specs.Causes.{IsAssignment, IsAnswered}
use Rattle.relay_delivery.specs.Delivery.{HasDistinctNames, IsTrueReport, assigned_at}
use Rattle.relay_delivery.specs.Explained.{Begins, Explains}
use Rattle.relay_delivery.specs.Lane as delivery
use Rattle.relay_delivery.specs.Lane.{tries_in, held_of, writes_at, fresh_state}
use Rattle.relay_delivery.specs.Machine.{Config, Report, first_in, version_at}
use Rattle.relay_delivery.specs.Reach.{Call, Takes, Ticks, Sends, Answers, call}
use Rattle.relay_delivery.specs.Stating.{BeginsBeside, StatesVersions}
use Rattle.relay_core.specs.declared.config.RelayConfig.{RelayConfig}
use Rattle.relay_core.specs.declared.success.Success.{Success}
use Rattle.relay_core.specs.Endings.{is_success_as}
use Rattle.relay_core.specs.State.{State}
use Rattle.relay_core.specs.Successes.{successes_from}
use Rattle.relay_lane.specs.Delivers.{GoesOn}
use Rattle.relay_lane.specs.Exchanges.{Exchange}
use Rattle.relay_lane.specs.Once.{is_op_as, times}
use Rattle.relay_threads.specs.declared.lane_end.LaneEndKind.{LaneEndKind}
use Rattle.relay_threads.specs.declared.lane_end.LaneEndKind.TheVariants.{Finished}
use Rattle.relay_threads.specs.Course.{puts_of, HasHeard, IsBelow, Course}

-- ---- what is told

-- what was told of the operations of one producer: those that ended as applied, and the reports on others, each in
-- order
pub record Told : Type 0 where
  pub applied : List Success
  pub reported : List Report

-- of these, those of one producer's operations
abbrev pub applied_of : ℕ → List Success → List Success
applied_of p xs = filter (λ (x : Success). x.name.producer == p) xs

abbrev pub reports_of : ℕ → List Report → List Report
reports_of p rs = filter (λ (r : Report). r.name.producer == p) rs

-- what is shown to be told was shown before, without these of this producer
abbrev pub AddsApplied : ℕ → List Success → Option Told → Option Told → Type 0
AddsApplied p xs old new =
    (all : Told) → new ≡ Some all → (before : Told) × (old ≡ Some before)
    × (all ≡ record { applied = before.applied ++ applied_of p xs; reported = before.reported })

abbrev pub AddsReport : ℕ → Report → Option Told → Option Told → Type 0
AddsReport p r old new =
    (all : Told) → new ≡ Some all → (before : Told) × (old ≡ Some before)
    × (all ≡ record { applied = before.applied; reported = before.reported ++ reports_of p (r ∷ []) })

-- what is shown to be told was shown before
abbrev pub AddsNothing : Option Told → Option Told → Type 0
AddsNothing old new = (all : Told) → new ≡ Some all → old ≡ Some all

-- what is shown to be told of each producer's operations is what was shown at the start, and then these
abbrev pub Shows : (start told : ℕ → Option Told) → List Success → List Report → Type 0
Shows start told applied reported =
    (p : ℕ) (all : Told) → told p ≡ Some all → (first : Told) × (start p ≡ Some first)
    × (all ≡ record { applied = first.applied ++ applied_of p applied; reported = first.reported ++ reports_of p reported })

-- ---- which of it is true

-- it is told of an operation that was taken, with the version assigned for its place
pub record IsOfTaken (g : Config) (taken : List Op) (x : Success) : Type 0 where
  pub op : Op
  pub place : ℕ
  pub was_taken : slice_get taken place ≡ Some op
  pub name : x.name ≡ name_of op
  pub version : x.version ≡ version_at g place

-- What a call notes of the operations that it ends as applied. Only an answer ends operations: each is noted with its
-- version, and with the status of the entry at its place, if the answer has entries that match and this request applied
-- it, or with none, if an earlier one had.
abbrev pub noted_by : Call → delivery.State → List Success
noted_by (Takes o bytes) s = []
noted_by (Ticks clock) s = []
noted_by (Sends chosen) s = []
noted_by (Answers number a) s = successes_from (tries_in s) (from_zero number) (writes_at (from_zero number) s.flying) a (held_of s.held)

-- what these calls note, one after another
abbrev pub noted_in : List Call → delivery.State → List Success
noted_in [] s = []
noted_in (c ∷ cs) s = noted_by c s ++ noted_in cs (call c s)

-- the status that is told of an operation that ended by an entry with this status: none of a conflict (409), since an
-- earlier request had applied it then
abbrev pub status_told : ℕ → Option ℕ
status_told status = if is_conflict status then None else Some status

-- The index has applied the write of the operation with this name, with this version. A request that carried that write was
-- answered with entries that match it, and the status that was told is that of the entry at its place.
pub record IsApplied (taken : List Op) (o : Outside) (x : Success) : Type 0 where
  pub op : Op
  pub was_taken : Mem op taken
  pub name : x.name ≡ name_of op
  pub is_in : Mem (write_for op x.version) (o.applied (document_of op.key))
  pub outcome : Outcome
  pub answered : IsAnswered o (write_for op x.version) outcome
  pub status : x.status ≡ status_told outcome.status

-- What was told is true beside this outside: each operation that was told of as applied was applied, with the version
-- that was told, and the status that was told is the one that a request with it was answered; and each report that was told
-- is on an operation that was taken, and has a true cause, by one assignment of versions, which follows the places of what
-- was taken.
pub record IsToldTruly (g : Config) (taken : List Op) (applied : List Success) (reported : List Report) (o : Outside) : Type 0 where
  pub each_applied : (x : Success) → Mem x applied → IsApplied taken o x
  pub versions : Op → Option ℕ
  pub assignment : IsAssignment versions
  pub assigned : (place : ℕ) (op : Op) → slice_get taken place ≡ Some op → versions op ≡ assigned_at g place
  pub each_reported : (r : Report) → Mem r reported → IsTrueReport g taken o versions r

-- ---- while the lane works

-- What a lane tells that heard these messages, and whose calls noted all of these operations: some of them ended as applied,
-- and its first reports, as many as the number says. What its calls noted it told, in order, or still notes. Of each name as
-- many operations are held, noted, reported, and told of as applied as were taken; and each of those that are noted or told
-- of has the version assigned for its place.
pub record Telling (all : List Success) (start told : ℕ → Option Told) (number : ℕ) (s : State) (heard : List Mail) : Type 0 where
  pub applied : List Success
  pub reported : List Report
  pub waiting : List Report
  pub reports : s.core.reports ≡ reported ++ waiting
  pub counted : length reported ≡ number
  pub noted : all ≡ applied ++ s.successes
  pub once : (n : OpName) → times n s + count (is_success_as n) applied ≡ count (is_op_as n) (puts_of heard)
  pub versions : (x : Success) → Mem x (applied ++ s.successes) → IsOfTaken s.core.config (puts_of heard) x
  pub shown : Shows start told applied reported

-- whatever it told before, it goes on
abbrev pub TellsMore : (old new : ℕ → Option Told) → (k l : ℕ) → State → State → Type 0
TellsMore old new k l s t = (all : List Success) (start : ℕ → Option Told) (heard : List Mail) → Telling all start old k s heard → Telling all start new l t heard

module _ {S : Type 0} (describes : Bool) (fits : S → Outside → Type 0) (carries : S → Exchange → S → Type 0) where
  -- a lane that heard these messages and came to its state by this course has told of what its calls noted
  pub record HasTold (first now : S) (c : RelayConfig) (start told : ℕ → Option Told) (number : ℕ) (s : State) (heard : List Mail) : Type 0 where
    pub course : Course describes fits carries first now c heard s
    pub telling : Telling (noted_in course.reached.core.calls (fresh_state s.core.config)) start told number s heard

  -- wherever the lane began, and whatever it told before, it goes on
  abbrev pub GoesOnTelling : (before after : S) → (old new : ℕ → Option Told) → (k l : ℕ) → State → State → List Mail → List Mail → Type 0
  GoesOnTelling before after old new k l s t heard now =
      (first : S) (c : RelayConfig) (start : ℕ → Option Told) → HasTold first before c start old k s heard → HasTold first after c start new l t now

  -- it told no more
  abbrev pub StaysTold : (before after : S) → State → State → Type 0
  StaysTold before after s t = (told : ℕ → Option Told) (k : ℕ) (heard : List Mail) → GoesOnTelling before after told told k k s t heard heard

-- ---- at the end

-- An outside fits the wire now and continues this one, as delivery promises, and explains the lane's calls (`GoesOn`); and
-- what was told is true beside it.
pub record GoesOnTruly {S : Type 0} (fits : S → Outside → Type 0) (now : S) (s : State) (taken : List Op) (calls : List Call) (applied : List Success) (reported : List Report) (before : Outside) : Type 0 where
  pub goes_on : GoesOn fits now s taken calls before
  pub truly : IsToldTruly s.core.config taken applied reported goes_on.outside

-- What a lane has told that has ended like this, of what it heard: it notes nothing, and if it finished, it told of all
-- that it reports. If no two operations that it heard have the same name, what it told is true beside each outside that
-- explains its calls, if the versions stored at the start were below those of the lane, or if the outside states the
-- stored version in each conflict and none of them is one that the lane assigns; and each opening that fitted the wire
-- at the start is continued to the end by an outside that explains these calls, beside which it is true.
pub record EndsTold {S : Type 0} (describes : Bool) (fits : S → Outside → Type 0) (carries : S → Exchange → S → Type 0) (first now : S) (start told : ℕ → Option Told) (c : RelayConfig) (taken : List Mail) (kind : LaneEndKind) (s : State) : Type 0 where
  pub messages : List Mail
  pub heard : HasHeard kind taken messages
  pub number : ℕ
  pub has_told : HasTold describes fits carries first now c start told number s messages
  pub none_noted : s.successes ≡ []
  pub all_reported : kind ≡ Finished → has_told.telling.reported ≡ s.core.reports
  pub explained : HasDistinctNames (puts_of messages) → (o p : Outside) → Begins s.core.config.first o → Explains has_told.course.reached.core.calls o p → IsToldTruly s.core.config (puts_of messages) has_told.telling.applied has_told.telling.reported p
  pub explained_if_stated : HasDistinctNames (puts_of messages) → (o p : Outside) → BeginsBeside s.core.config o → Explains has_told.course.reached.core.calls o p → StatesVersions p → IsToldTruly s.core.config (puts_of messages) has_told.telling.applied has_told.telling.reported p
  pub described : HasDistinctNames (puts_of messages) → IsTrue describes → (o : Outside) → fits first o → IsOpening o → IsBelow (first_in c.epoch) o → GoesOnTruly fits now s (puts_of messages) has_told.course.reached.core.calls has_told.telling.applied has_told.telling.reported o
