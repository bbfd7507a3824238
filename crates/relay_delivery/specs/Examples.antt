-- Worked schedules of the machine, for any document and any source: one that satisfies the promises, and those that
-- show why each condition is needed.
use Rattle.std.specs.Prelude.{◌≡◌, ℕ, List, [], ◌∷◌, Some, None, false}
use Rattle.relay_action.specs.declared.key.DocKey.{DocKey}
use Rattle.relay_action.specs.declared.action.Source.{Source}
use Rattle.relay_action.specs.declared.action.Action.TheVariants.{Index}
use Rattle.relay_action.specs.declared.operation.Op.{Op}
use Rattle.relay_action.specs.declared.write.Write.{Write}
use Rattle.relay_results.specs.Words.{Mem}
use Rattle.relay_results.specs.Documents.{Document, document_of, write_for}
use Rattle.relay_results.specs.declared.cause.Loss.TheVariants.{Closed}
use Rattle.relay_results.specs.Outside.{Outside, IsOpening, Items, Lost, Event, AllMayHappen}
use Rattle.relay_results.specs.Outside as outside
use Rattle.relay_delivery.specs.Attribution.{IsAttribution}
use Rattle.relay_delivery.specs.Machine.{Config, Core, Held, Step, Takes, Sends, Runs, Answers, steps_of, AllMayStep, send, IsFresh}
use Rattle.relay_delivery.specs.Delivery.{taken_of, applied_ops, IsComplete}
use Rattle.relay_delivery.specs.Schedules.{op, accepted_of, nothing, end_of, ran, failed_run, entry, failed_entry, conflict}

-- ---- the words of a schedule

-- versions from 1, three tries, and requests of at most two operations
abbrev pub config : Config
config = record { epoch = 0; first = 1; deals = 10; max = 3; age = None; cap = 2 }

-- a lane that took nothing, with this outside
abbrev pub begun : Outside → Core
begun out = record { taken = []; held = []; reports = []; applied = 0; already = 0; outside = out }

-- an operation as it is held, with a version and after this many sends, all of them tries
abbrev pub waiting : Op → ℕ → ℕ → Held
waiting o version sends = record { op = o; version = version; sends = sends; attempts = sends; cap = 2; flies = None }

-- taken, sent, applied and lost, sent again, and answered by a conflict
abbrev pub lost_then_conflict : Op → List Step
lost_then_conflict o =
    Takes o
    ∷ Sends (waiting o 1 0 ∷ [])
    ∷ Runs (ran 0 0 201)
    ∷ Answers 0 (Lost Closed) (λ v. false)
    ∷ Sends (waiting o 1 1 ∷ [])
    ∷ Runs (failed_run 1 0 409 conflict)
    ∷ Answers 1 (Items (failed_entry (write_for o 1) 409 conflict ∷ [])) (λ v. false)
    ∷ []

-- ---- a schedule that satisfies the promises

-- this may happen, starting from a fresh lane; then nothing is held or reported, and the one write is attributed to
-- the operation
pub record EndsAlready (key : DocKey) (o : Op) : Type 0 where
  pub fresh : IsFresh config (begun nothing)
  pub may : AllMayStep config (lost_then_conflict o) (begun nothing)
  pub none_held : (steps_of config (lost_then_conflict o) (begun nothing)).held ≡ []
  pub none_reported : (steps_of config (lost_then_conflict o) (begun nothing)).reports ≡ []
  pub already : (steps_of config (lost_then_conflict o) (begun nothing)).already ≡ 1
  pub attributed_to : applied_ops config (o ∷ []) (steps_of config (lost_then_conflict o) (begun nothing)).outside (document_of key) ≡ o ∷ []

abbrev pub MachineWorks : Type 0
MachineWorks = (key : DocKey) (source : Source) → EndsAlready key (op 1 key (Index source))

-- ---- no condition may be left out

-- Whatever operations the applied writes are attributed to, an operation that was taken is not accounted for, though
-- nothing is held.
pub record LosesOperation (c : Core) : Type 0 where
  pub none_held : c.held ≡ []
  pub lost : (ops : Document → List Op) → ((k : Document) → IsAttribution (taken_of c.taken) k (c.outside.applied k) (ops k))
      → IsComplete c.taken c.reports ops → ⊥

-- for every document this version is stored, and nothing was sent
abbrev pub stored_everywhere : ℕ → Outside
stored_everywhere version = record { requests = []; runs = []; stored = λ k. Some version; before = λ k. []; applied = λ k. [] }

-- the operation is lost, sent again, and meets a version that was stored before the lane began
abbrev pub lost_and_stale : Op → List Step
lost_and_stale o =
    Takes o
    ∷ Sends (waiting o 1 0 ∷ [])
    ∷ Answers 0 (Lost Closed) (λ v. false)
    ∷ Sends (waiting o 1 1 ∷ [])
    ∷ Runs (failed_run 1 0 409 conflict)
    ∷ Answers 1 (Items (failed_entry (write_for o 1) 409 conflict ∷ [])) (λ v. false)
    ∷ []

-- Stored versions must be below the first one assigned: from an opening in which one is not, an operation is lost.
pub record LosesBesideStored (o : Op) : Type 0 where
  pub opening : IsOpening (stored_everywhere 5)
  pub may : AllMayStep config (lost_and_stale o) (begun (stored_everywhere 5))
  pub loses : LosesOperation (steps_of config (lost_and_stale o) (begun (stored_everywhere 5)))

abbrev pub StoredVersionsBelow : Type 0
StoredVersionsBelow = (key : DocKey) (source : Source) → LosesBesideStored (op 1 key (Index source))

-- two operations of one document are taken, and the first is sent
abbrev pub first_sent : Op → Op → List Step
first_sent o p = Takes o ∷ Takes p ∷ Sends (waiting o 1 0 ∷ []) ∷ []

-- the second is sent while the first is in flight
abbrev pub both_fly : Op → Op → Core
both_fly o p = send (waiting p 2 0 ∷ []) (steps_of config (first_sent o p) (begun nothing))

-- the second is applied; the first is lost before it is run, and its repeat meets the version of the second
abbrev pub second_applied : Op → Op → List Step
second_applied o p =
    Runs (ran 1 0 201)
    ∷ Answers 1 (Items (entry (write_for p 2) 201 ∷ [])) (λ v. false)
    ∷ Answers 0 (Lost Closed) (λ v. false)
    ∷ Sends (waiting o 1 1 ∷ [])
    ∷ Runs (failed_run 2 0 409 conflict)
    ∷ Answers 2 (Items (failed_entry (write_for o 1) 409 conflict ∷ [])) (λ v. false)
    ∷ []

-- An operation must wait for the earlier ones of its document: if two are in flight at once, the first is lost.
pub record LosesFirst (o p : Op) : Type 0 where
  pub fresh : IsFresh config (begun nothing)
  pub may_before : AllMayStep config (first_sent o p) (begun nothing)
  pub waits : Mem (waiting p 2 0) (steps_of config (first_sent o p) (begun nothing)).held
  pub may_after : AllMayStep config (second_applied o p) (both_fly o p)
  pub loses : LosesOperation (steps_of config (second_applied o p) (both_fly o p))

abbrev pub EarlierOnesFirst : Type 0
EarlierOnesFirst = (key : DocKey) (source other : Source) → LosesFirst (op 1 key (Index source)) (op 2 key (Index other))

-- ---- one version for all tries

-- a repeat is sent with a fresh version; the first attempt is run late, and then the repeat
abbrev pub fresh_at_retry : Write → Write → List Event
fresh_at_retry w x =
    outside.Sends (w ∷ []) ∷ outside.Answers 0 (Lost Closed) ∷ outside.Sends (x ∷ [])
    ∷ outside.Runs (ran 0 0 201) ∷ outside.Runs (ran 1 0 200) ∷ outside.Answers 1 (Items (entry x 200 ∷ []))
    ∷ []

-- This may happen, the one operation is applied twice, and no attribution is left.
pub record AppliesTwice (key : DocKey) (o : Op) : Type 0 where
  pub may : AllMayHappen (fresh_at_retry (write_for o 1) (write_for o 2)) nothing
  pub applied : (end_of (fresh_at_retry (write_for o 1) (write_for o 2))).applied (document_of key) ≡ write_for o 1 ∷ write_for o 2 ∷ []
  pub none : (ops : List Op) → IsAttribution (accepted_of (o ∷ [])) (document_of key) (write_for o 1 ∷ write_for o 2 ∷ []) ops → ⊥

abbrev pub OneVersionForAllTries : Type 0
OneVersionForAllTries = (key : DocKey) (source : Source) → AppliesTwice key (op 1 key (Index source))
