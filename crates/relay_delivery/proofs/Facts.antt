-- What holds of a lane's core at every moment.
use Rattle.std.proofs.Common.{◌≡◌, ℕ, ◌+◌, ◌<◌, ◌≤◌, List, [], ◌∷◌, Option, Some, Bool, true}
use Rattle.std.specs.Prelude.{◌⊎◌, slice_get, length}
use Rattle.relay_action.specs.declared.write.Write.{Write}
use Rattle.relay_action.specs.declared.operation.Op.{Op}
use Rattle.relay_action.specs.declared.operation.OpName.{OpName}
use Rattle.relay_results.specs.Words.{Mem, count}
use Rattle.relay_results.specs.Documents.{Document, document_of, name_of, write_for, same_name}
use Rattle.relay_results.specs.Outside.{Unanswered, Request, Ran, stored_in, Outside, is_applied}
use Rattle.relay_results.specs.declared.cause.Cause.TheVariants.{Spent}
use Rattle.relay_delivery.specs.Causes.{carries, is_try, CarriedAt, IsTrueOf}
use Rattle.relay_results.specs.Fates.{IsRetried}
use Rattle.relay_delivery.specs.Machine.{Config, fewest, Core, Held, Place, Report, write_of}

-- the operation was assigned the version, by the place at which it was taken
pub record IsDealt (g : Config) (taken : List Op) (o : Op) (v : ℕ) : Type 0 where
  pub place : ℕ
  pub stands : slice_get taken place ≡ Some o
  pub within : place < g.deals
  pub version : v ≡ g.first + place

-- the write is that of an operation, with the version that it was assigned
pub record IsOfOne (g : Config) (taken : List Op) (w : Write) : Type 0 where
  pub op : Op
  pub write : w ≡ write_for op w.version
  pub dealt : IsDealt g taken op w.version

-- a request has the write
pub record IsSent (requests : List Request) (w : Write) : Type 0 where
  pub number : ℕ
  pub request : Request
  pub sent : slice_get requests number ≡ Some request
  pub is_in : Mem w request.writes

pub record IsFlying (requests : List Request) (w : Write) (f : Place) : Type 0 where
  pub request : Request
  pub sent : slice_get requests f.request ≡ Some request
  pub stands : slice_get request.writes f.place ≡ Some w
  pub unanswered : request.answer ≡ Unanswered

-- of a held operation
pub record HeldFact (g : Config) (taken : List Op) (requests : List Request) (h : Held) : Type 0 where
  pub dealt : IsDealt g taken h.op h.version
  pub sends : count (carries (write_of h)) requests ≡ h.sends
  pub attempts : h.attempts ≤ count (is_try (write_of h)) requests
  -- each request that carried it was answered by an answer that is retried, except the one in which
  -- it flies
  pub retried : (number place : ℕ) (q : Request) → CarriedAt requests (write_of h) number place q
      → IsRetried q.writes place q.answer ⊎ (h.flies ≡ Some (record { request = number; place = place }))
  pub flying : (f : Place) → h.flies ≡ Some f → IsFlying requests (write_of h) f
  -- the versions sent for its document do not pass its own
  pub last : (w : Write) → IsSent requests w → document_of w.key ≡ document_of h.op.key → w.version ≤ h.version

-- what there was before a lane began: the writes of earlier incarnations that requests have, and the versions that the
-- index had stored
pub record Past : Type 1 where
  pub writes : Write → Type 0
  pub versions : ℕ → Type 0

-- the version is one from before, or that of an applied write
abbrev pub IsKnown : (ℕ → Type 0) → List Write → ℕ → Type 0
IsKnown versions applied u = versions u ⊎ ((w : Write) × Mem w applied × (w.version ≡ u))

-- of a run
pub record RunFact (versions : ℕ → Type 0) (requests : List Request) (stored : Document → Option ℕ) (applied : Document → List Write) (r : Ran) : Type 0 where
  pub request : Request
  pub write : Write
  pub sent : slice_get requests r.request ≡ Some request
  pub stands : slice_get request.writes r.place ≡ Some write
  pub if_applied : is_applied write r.outcome ≡ true → Mem write (applied (document_of write.key))
  pub if_conflict : r.outcome.status ≡ 409 → (u : ℕ) × (stored (document_of write.key) ≡ Some u) × (write.version ≤ u)
  pub if_stated : r.outcome.status ≡ 409 → (u : ℕ) → stored_in r.outcome.error ≡ Some u → IsKnown versions (applied (document_of write.key)) u

abbrev pub IsRising : List Write → Type 0
IsRising [] = Unit {0}
IsRising (w ∷ ws) = ((x : Write) → Mem x ws → w.version < x.version) × IsRising ws

-- of a document in the index
pub record IndexFact (versions : ℕ → Type 0) (requests : List Request) (stored : Option ℕ) (applied : List Write) (k : Document) : Type 0 where
  pub sent : (w : Write) → Mem w applied → IsSent requests w
  pub document : (w : Write) → Mem w applied → document_of w.key ≡ k
  pub rising : IsRising applied
  pub above : (w : Write) → Mem w applied → (u : ℕ) × (stored ≡ Some u) × (w.version ≤ u)
  pub from : (u : ℕ) → stored ≡ Some u → IsKnown versions applied u

-- of a report: it is on an operation that was taken past the limit, or that was assigned a version,
-- is not held any more, and has a true cause
pub record SpentFact (g : Config) (taken : List Op) (r : Report) : Type 0 where
  pub op : Op
  pub name : r.name ≡ name_of op
  pub document : r.document ≡ document_of op.key
  pub cause : r.cause ≡ Spent
  pub place : ℕ
  pub stands : slice_get taken place ≡ Some op
  pub past : g.deals ≤ place

pub record CauseFact (g : Config) (taken : List Op) (held : List Held) (s : Outside) (r : Report) : Type 0 where
  pub op : Op
  pub name : r.name ≡ name_of op
  pub document : r.document ≡ document_of op.key
  pub version : ℕ
  pub dealt : IsDealt g taken op version
  pub settled : (h : Held) → Mem h held → h.version ≡ version → ⊥
  pub cause : IsTrueOf (fewest g) s (write_for op version) r.cause

abbrev pub ReportFact : Config → List Op → List Held → Outside → Report → Type 0
ReportFact g taken held s r = SpentFact g taken r ⊎ CauseFact g taken held s r

-- Why a conflict that may be with the own version of a repeat is: each version from before is below those that are assigned,
-- or none is one of them, and each conflict states the stored version.
abbrev pub TellsOwn : Config → Past → List Ran → Type 0
TellsOwn g past runs =
    ((u : ℕ) → past.versions u → u < g.first)
    ⊎ (((u place : ℕ) → past.versions u → place < g.deals → u ≡ g.first + place → ⊥)
    × ((r : Ran) → Mem r runs → r.outcome.status ≡ 409 → (u : ℕ) × (stored_in r.outcome.error ≡ Some u)))

-- what became of the operation at a place
pub record IsHeldAt (g : Config) (held : List Held) (place : ℕ) : Type 0 where
  pub held_op : Held
  pub is_in : Mem held_op held
  pub version : held_op.version ≡ g.first + place

pub record IsAppliedAt (g : Config) (applied : Document → List Write) (o : Op) (place : ℕ) : Type 0 where
  pub write : Write
  pub is_in : Mem write (applied (document_of o.key))
  pub version : write.version ≡ g.first + place

pub record IsReported (reports : List Report) (o : Op) : Type 0 where
  pub report : Report
  pub is_in : Mem report reports
  pub name : report.name ≡ name_of o

abbrev pub IsSomewhere : Config → Core → Op → ℕ → Type 0
IsSomewhere g c o place =
    IsHeldAt g c.held place ⊎ (IsAppliedAt g c.outside.applied o place ⊎ IsReported c.reports o)

abbrev pub is_held_as : OpName → Held → Bool
is_held_as n h = same_name n (name_of h.op)

abbrev pub is_report_as : OpName → Report → Bool
is_report_as n r = same_name n r.name

abbrev pub is_taken_as : OpName → Op → Bool
is_taken_as n o = same_name n (name_of o)

-- in the order in which they were taken, so in ascending order of version
abbrev pub AreRising : List Held → Type 0
AreRising [] = Unit {0}
AreRising (h ∷ hs) = ((j : Held) → Mem j hs → h.version < j.version) × AreRising hs

-- What holds of a lane's core, where requests may also have writes of the past: of earlier incarnations, whose versions are
-- below the first one assigned.
pub record CoreFacts (g : Config) (past : Past) (c : Core) : Type 0 where
  pub past_below : (w : Write) → past.writes w → w.version < g.first
  pub held : (h : Held) → Mem h c.held → HeldFact g c.taken c.outside.requests h
  -- one entry has a version
  pub alone : (h j : Held) → Mem h c.held → Mem j c.held → h.version ≡ j.version → h ≡ j
  pub in_rise : AreRising c.held
  pub sent : (w : Write) → IsSent c.outside.requests w → IsOfOne g c.taken w ⊎ past.writes w
  pub runs : (r : Ran) → Mem r c.outside.runs → RunFact past.versions c.outside.requests c.outside.stored c.outside.applied r
  pub index : (k : Document) → IndexFact past.versions c.outside.requests (c.outside.stored k) (c.outside.applied k) k
  pub reports : (r : Report) → Mem r c.reports → ReportFact g c.taken c.held c.outside r
  -- a name is held and reported at most as often as it was taken
  pub apart : (n : OpName) → count (is_held_as n) c.held + count (is_report_as n) c.reports ≤ count (is_taken_as n) c.taken
  -- each operation is held, done or reported, and not two of these
  pub totals : length c.held + (c.applied + c.already) + length c.reports ≡ length c.taken
  pub nothing_lost : TellsOwn g past c.outside.runs → (place : ℕ) (o : Op) → slice_get c.taken place ≡ Some o → IsSomewhere g c o place
