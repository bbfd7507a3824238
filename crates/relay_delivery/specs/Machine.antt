-- A lane as delivery sees it, and the outside: what it took, what it holds and what it reported. It has no clock,
-- batch or queue, and of all limits only the caps: the others only decide which of these steps are made, and when.
use Rattle.std.specs.Prelude.{◌≡◌, ℕ, suc, ◌+◌, ◌-◌, ◌*◌, ◌^◌, ◌<◌, ◌≤◌, List, [], ◌∷◌, ◌++◌, Option, Some, None, is_some, option_map, slice_get, Bool, true, false, ◌==◌, nat_lt, min, if◌then◌else◌, map, length}
use Rattle.relay_action.specs.Actions.{kind_of}
use Rattle.relay_action.specs.declared.write.Write.{Write}
use Rattle.relay_action.specs.declared.operation.Op.{Op}
use Rattle.relay_action.specs.declared.operation.OpName.{OpName}
use Rattle.relay_results.specs.declared.cause.Cause.{Cause}
use Rattle.relay_results.specs.declared.cause.Cause.TheVariants.{Spent}
use Rattle.relay_results.specs.Words.{Mem, AllDistinct, count}
use Rattle.relay_results.specs.Documents.{Document, document_of, name_of, write_for}
use Rattle.relay_results.specs.Outside.{Answer, Request, writes_of, Ran, Outside, IsOpening, MayRun, MayAnswer, after}
use Rattle.relay_results.specs.Outside as outside
use Rattle.relay_results.specs.Fates.{Fate, Flies, Applied, Already, Retried, Halved, Reported, fate}

-- ---- what a lane has

-- the epoch in which it runs, the first version that it assigns, how many it assigns, how many tries an operation
-- has, the age, in ticks since its first send, from which on a single one is enough, if there is one, and the cap that
-- it begins with
pub record Config : Type 0 where
  pub epoch : ℕ
  pub first : ℕ
  pub deals : ℕ
  pub max : ℕ
  pub age : Option ℕ
  pub cap : ℕ

-- the first version of an epoch: a version is the epoch times 2^40, and a count from 1
abbrev pub first_in : ℕ → ℕ
first_in epoch = epoch * 2 ^ 40 + 1

-- a lane of this epoch, with this many versions to assign, and these tries, this age and this cap for each operation
abbrev pub in_epoch : ℕ → ℕ → ℕ → Option ℕ → ℕ → Config
in_epoch epoch deals max age cap = record { epoch = epoch; first = first_in epoch; deals = deals; max = max; age = age; cap = cap }

-- the fewest tries after which an operation is given up
abbrev pub fewest : Config → ℕ
fewest g = if is_some g.age then min 1 g.max else g.max

-- the tries that an operation has, by its version, where these are old
abbrev pub tries_for : Config → (ℕ → Bool) → ℕ → ℕ
tries_for g old version = if old version then fewest g else g.max

-- the version assigned for a place of what is taken
abbrev pub version_at : Config → ℕ → ℕ
version_at g place = g.first + place

-- a place of a request; both are counted from 0
pub record Place : Type 0 where
  pub request : ℕ
  pub place : ℕ

-- an operation that is neither done nor reported: the version that it was assigned, how many requests carried it, how
-- many of them count as tries, the cap, and where it is in flight, if it is
pub record Held : Type 0 where
  pub op : Op
  pub version : ℕ
  pub sends : ℕ
  pub attempts : ℕ
  pub cap : ℕ
  pub flies : Option Place

abbrev pub write_of : Held → Write
write_of h = write_for h.op h.version

pub record Report : Type 0 where
  pub name : OpName
  pub document : Document
  pub cause : Cause

abbrev pub report_on : Op → Cause → Report
report_on o cause = record { name = name_of o; document = document_of o.key; cause = cause }

-- All operations that were taken, in order; those that are held; the reports, in order; how many ended as applied, by
-- the answered request and by an earlier one; and the outside.
pub record Core : Type 0 where
  pub taken : List Op
  pub held : List Held
  pub reports : List Report
  pub applied : ℕ
  pub already : ℕ
  pub outside : Outside

-- ---- an operation is taken

abbrev pub held_at : Config → ℕ → Op → Held
held_at g place o = record { op = o; version = version_at g place; sends = 0; attempts = 0; cap = g.cap; flies = None }

-- an operation is held if a version is left for it, and otherwise reported
abbrev pub held_if : Bool → Config → ℕ → Op → List Held
held_if true g place o = held_at g place o ∷ []
held_if false g place o = []

abbrev pub spent_if : Bool → Op → List Report
spent_if true o = []
spent_if false o = report_on o Spent ∷ []

abbrev pub take : Config → Op → Core → Core
take g o c = record {
  taken = c.taken ++ o ∷ [];
  held = c.held ++ held_if (nat_lt (length c.taken) g.deals) g (length c.taken) o;
  reports = c.reports ++ spent_if (nat_lt (length c.taken) g.deals) o;
  applied = c.applied;
  already = c.already;
  outside = c.outside;
}

-- ---- a request is sent

-- the operation waits, and no held operation of its document has a lower version
pub record IsEligible (held : List Held) (h : Held) : Type 0 where
  pub is_held : Mem h held
  pub waits : h.flies ≡ None
  pub first : (j : Held) → Mem j held → document_of j.op.key ≡ document_of h.op.key → h.version ≤ j.version

-- two or more operations in a request are within the cap of each
abbrev pub KeepsCaps : List Held → Type 0
KeepsCaps chosen = 1 < length chosen → (h : Held) → Mem h chosen → length chosen ≤ h.cap

-- any eligible operations may be sent as one request, in any order, if they keep their caps
pub record MaySend (c : Core) (chosen : List Held) : Type 0 where
  pub eligible : (h : Held) → Mem h chosen → IsEligible c.held h
  pub distinct : AllDistinct (map (λ (h : Held). h.version) chosen)
  pub caps : KeepsCaps chosen

-- the place of the operation with this version among these
abbrev pub place_of : ℕ → List Held → Option ℕ
place_of version [] = None
place_of version (h ∷ hs) = if h.version == version then Some 0 else option_map suc (place_of version hs)

-- an operation that was sent is in flight, with one more send and one more try
abbrev pub launched_at : ℕ → Held → Option ℕ → Held
launched_at number h None = h
launched_at number h (Some place) = record {
  op = h.op;
  version = h.version;
  sends = h.sends + 1;
  attempts = h.attempts + 1;
  cap = h.cap;
  flies = Some (record { request = number; place = place });
}

abbrev pub after_launch : ℕ → List Held → Held → Held
after_launch number chosen h = launched_at number h (place_of h.version chosen)

abbrev pub send : List Held → Core → Core
send chosen c = record {
  taken = c.taken;
  held = map (after_launch (length c.outside.requests) chosen) c.held;
  reports = c.reports;
  applied = c.applied;
  already = c.already;
  outside = after (outside.Sends (map write_of chosen)) c.outside;
}

-- ---- a request is answered

-- the fate of a held operation that is allowed so many tries; one that is not in flight in this request is unchanged
abbrev pub fate_of : (ℕ → ℕ) → ℕ → List Write → Answer → Held → Option Place → Fate
fate_of allowed number ws a h None = Flies
fate_of allowed number ws a h (Some f) =
    if f.request == number
    then fate (record { version = h.version; sends = h.sends; attempts = h.attempts; max = allowed h.version }) ws f.place (kind_of h.op.action) a
    else Flies

-- the operation waits to be sent again
abbrev pub back_to_wait : Held → Held
back_to_wait h = record { op = h.op; version = h.version; sends = h.sends; attempts = h.attempts; cap = h.cap; flies = None }

-- the operation waits to be sent under this cap, and its try is given back
abbrev pub with_cap : ℕ → Held → Held
with_cap cap h = record { op = h.op; version = h.version; sends = h.sends; attempts = h.attempts - 1; cap = cap; flies = None }

abbrev pub kept_one : Fate → Held → List Held
kept_one Flies h = h ∷ []
kept_one Applied h = []
kept_one Already h = []
kept_one Retried h = back_to_wait h ∷ []
kept_one (Halved cap) h = with_cap cap h ∷ []
kept_one (Reported cause) h = []

abbrev pub reported_one : Fate → Held → List Report
reported_one Flies h = []
reported_one Applied h = []
reported_one Already h = []
reported_one Retried h = []
reported_one (Halved cap) h = []
reported_one (Reported cause) h = report_on h.op cause ∷ []

abbrev pub still_held : (ℕ → ℕ) → ℕ → List Write → Answer → List Held → List Held
still_held allowed number ws a [] = []
still_held allowed number ws a (h ∷ hs) = kept_one (fate_of allowed number ws a h h.flies) h ++ still_held allowed number ws a hs

abbrev pub reports_from : (ℕ → ℕ) → ℕ → List Write → Answer → List Held → List Report
reports_from allowed number ws a [] = []
reports_from allowed number ws a (h ∷ hs) = reported_one (fate_of allowed number ws a h h.flies) h ++ reports_from allowed number ws a hs

abbrev pub is_applied_fate : Fate → Bool
is_applied_fate Flies = false
is_applied_fate Applied = true
is_applied_fate Already = false
is_applied_fate Retried = false
is_applied_fate (Halved cap) = false
is_applied_fate (Reported cause) = false

abbrev pub is_already_fate : Fate → Bool
is_already_fate Flies = false
is_already_fate Applied = false
is_already_fate Already = true
is_already_fate Retried = false
is_already_fate (Halved cap) = false
is_already_fate (Reported cause) = false

abbrev pub how_many : (Fate → Bool) → (ℕ → ℕ) → ℕ → List Write → Answer → List Held → ℕ
how_many test allowed number ws a hs = count (λ (h : Held). test (fate_of allowed number ws a h h.flies)) hs

abbrev pub writes_or : Option Request → List Write
writes_or None = []
writes_or (Some q) = writes_of q

-- the request with this number is answered, when operations of these versions are old
abbrev pub settle : Config → ℕ → Answer → (ℕ → Bool) → Core → Core
settle g number a old c = record {
  taken = c.taken;
  held = still_held (tries_for g old) number (writes_or (slice_get c.outside.requests number)) a c.held;
  reports = c.reports ++ reports_from (tries_for g old) number (writes_or (slice_get c.outside.requests number)) a c.held;
  applied = c.applied + how_many is_applied_fate (tries_for g old) number (writes_or (slice_get c.outside.requests number)) a c.held;
  already = c.already + how_many is_already_fate (tries_for g old) number (writes_or (slice_get c.outside.requests number)) a c.held;
  outside = after (outside.Answers number a) c.outside;
}

-- ---- steps

-- an operation is taken, held operations are sent as one request, an item of a request is run, or a request is
-- answered, when operations of these versions are old
pub data Step : Type 0 where
  Takes : Op → Step
  Sends : List Held → Step
  Runs : Ran → Step
  Answers : ℕ → Answer → (ℕ → Bool) → Step

abbrev pub with_outside : Core → Outside → Core
with_outside c s = record { taken = c.taken; held = c.held; reports = c.reports; applied = c.applied; already = c.already; outside = s }

abbrev pub step : Config → Step → Core → Core
step g (Takes o) c = take g o c
step g (Sends chosen) c = send chosen c
step g (Runs r) c = with_outside c (after (outside.Runs r) c.outside)
step g (Answers number a old) c = settle g number a old c

-- An operation may be taken at any time; any eligible operations may be sent; any item of any sent request may be run; and
-- a request in flight may be given an honest answer.
abbrev pub MayStep : Step → Core → Type 0
MayStep (Takes o) c = Unit {0}
MayStep (Sends chosen) c = MaySend c chosen
MayStep (Runs r) c = MayRun c.outside r
MayStep (Answers number a old) c = MayAnswer c.outside number a

-- after a sequence of steps
abbrev pub steps_of : Config → List Step → Core → Core
steps_of g [] c = c
steps_of g (s ∷ ss) c = steps_of g ss (step g s c)

abbrev pub AllMayStep : Config → List Step → Core → Type 0
AllMayStep g [] c = Unit {0}
AllMayStep g (s ∷ ss) c = MayStep s c × AllMayStep g ss (step g s c)

-- ---- a fresh lane, and what comes of it

-- nothing was taken and nothing sent
pub record IsNew (c : Core) : Type 0 where
  pub taken : c.taken ≡ []
  pub held : c.held ≡ []
  pub reports : c.reports ≡ []
  pub applied : c.applied ≡ 0
  pub already : c.already ≡ 0
  pub opening : IsOpening c.outside

-- and each stored version is below the first one assigned
pub record IsFresh (g : Config) (c : Core) : Type 0 where
  pub new : IsNew c
  pub below : (k : Document) (u : ℕ) → c.outside.stored k ≡ Some u → u < g.first

-- the core came about by steps that may happen, from a start of this kind
pub record CameAboutFrom (begin : Config → Core → Type 0) (g : Config) (c : Core) : Type 0 where
  pub start : Core
  pub fresh : begin g start
  pub steps : List Step
  pub may : AllMayStep g steps start
  pub reached : steps_of g steps start ≡ c

-- and starting from a fresh lane
abbrev pub CameAbout : Config → Core → Type 0
CameAbout = CameAboutFrom IsFresh
