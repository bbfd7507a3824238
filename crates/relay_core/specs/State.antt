-- A lane as its callers see it, and the effect of each call.
use Rattle.std.specs.Prelude.{◌≡◌, ℕ, ◌+◌, ◌-◌, ◌^◌, ◌<◌, ◌≤◌, List, [], ◌∷◌, ◌++◌, Option, Some, None, option_map, unwrap_or, Bool, not, true, false, ◌==◌, ◌&&◌, nat_lt, min, map, filter, length, replicate, slice_set, slice_index_or, if◌then◌else◌}
use Rattle.std.specs.List.{list_all, list_any}
use Rattle.relay_action.specs.declared.write.Write.{Write}
use Rattle.relay_action.specs.declared.operation.Op.{Op}
use Rattle.relay_action.specs.declared.mail.Body.{Body}
use Rattle.relay_action.specs.declared.mail.Body.TheVariants as body
use Rattle.relay_ndjson.specs.Bulk.{write_text}
use Rattle.relay_batch.specs.declared.item.BatchItem.{BatchItem}
use Rattle.relay_batch.specs.Gathering.{Gathering}
use Rattle.relay_flight.specs.Flying as flight
use Rattle.relay_results.specs.Words.{Mem}
use Rattle.relay_results.specs.Documents.{document_of, write_for}
use Rattle.relay_results.specs.Numbers.{from_one, from_zero}
use Rattle.relay_results.specs.Outside.{Answer}
use Rattle.relay_results.specs.Fates as fates
use Rattle.relay_held.specs.Queues.{distinct}
use Rattle.relay_delivery.specs.Bound.{halvings}
use Rattle.relay_delivery.specs.Machine.{Config, Held, Place, in_epoch, version_at, write_of, how_many, is_applied_fate, is_already_fate}
use Rattle.relay_delivery.specs.Lane as delivery
use Rattle.relay_core.specs.declared.config.RelayConfig.{RelayConfig}
use Rattle.relay_core.specs.declared.settled.TakeFault.{TakeFault}
use Rattle.relay_core.specs.declared.settled.TakeFault.TheVariants.{AfterClose, HeldFull}
use Rattle.relay_core.specs.declared.settled.Settled.{Settled}
use Rattle.relay_core.specs.declared.success.Success.{Success}
use Rattle.relay_core.specs.Successes.{successes_from}
use Rattle.relay_core.specs.Limits.{is_valid}
use Rattle.relay_core.specs.Walk.{explained}
use Rattle.relay_core.specs.Rule.{item_of, chosen_entries, batch_of}

-- The config; the clock, what it took, holds, sent and reported, in the words of delivery; the flush mark, which is
-- the highest version to be sent whether or not the batch is full; which senders have closed; the batches in flight;
-- and the operations that ended as applied and were not forgotten yet.
pub record State : Type 0 where
  pub config : RelayConfig
  pub core : delivery.State
  pub mark : ℕ
  pub closed : List Bool
  pub flights : flight.Flying
  pub successes : List Success

-- A lane as contracts see it, in two parts: its state, and how many held operations its requests looked at. What a
-- contract says of the state does not include the looks.
pub record Seen : Type 0 where
  pub state : State
  pub looks : ℕ

abbrev pub config_of : RelayConfig → Config
config_of c = in_epoch c.epoch c.deal c.attempts c.give_up_after c.limits.count

-- this many senders, none of which has closed
abbrev pub all_open : ℕ → List Bool
all_open n = replicate n false

-- a lane before its first call
abbrev pub fresh : RelayConfig → State
fresh c = record {
  config = c;
  core = delivery.fresh_state (config_of c);
  mark = 0;
  closed = all_open (c.producers + 1);
  flights = record { max = c.in_flight; next = 1; batches = [] };
  successes = [];
}

-- ---- take

abbrev pub all_closed : State → Bool
all_closed s = list_all (λ (b : Bool). b) s.closed

-- the last tick of a clock
abbrev pub last_tick : ℕ
last_tick = 18446744073709551615

-- the clock saturates
abbrev pub later : ℕ → ℕ
later clock = if nat_lt clock last_tick then clock + 1 else clock

abbrev pub after_tick : State → State
after_tick s = record s { core = record s.core { clock = later s.core.clock } }

-- the last version assigned; the mark is unchanged if none was
abbrev pub mark_of : State → ℕ
mark_of s = if s.core.taken == 0 then s.mark else s.core.config.first + min s.core.taken s.core.config.deals - 1

abbrev pub after_flush : State → State
after_flush s = record s { mark = mark_of s }

-- the length of an operation's lines, with the version that it is assigned
abbrev pub bytes_of : State → Op → ℕ
bytes_of s o = length (write_text (write_for o (version_at s.core.config s.core.taken)))

abbrev pub after_op : State → Op → State
after_op s o = record s { core = delivery.taken_op s.core o (bytes_of s o) }

abbrev pub after_take : State → ℕ → Body → State
after_take s sender (body.Put o) = after_op s o
after_take s sender body.Tick = after_tick s
after_take s sender body.Flush = after_flush s
after_take s sender body.Done = record s { closed = slice_set s.closed sender true }

abbrev pub is_full : State → Body → Bool
is_full s (body.Put o) = length s.core.held == s.config.max_held
is_full s body.Tick = false
is_full s body.Flush = false
is_full s body.Done = false

-- only taking an operation allocates, so nothing else is refused because an allocation failed
abbrev pub is_put : Body → Bool
is_put (body.Put o) = true
is_put body.Tick = false
is_put body.Flush = false
is_put body.Done = false

-- why a message is not taken: the first cause that applies
abbrev pub take_fault : State → ℕ → Body → Option TakeFault
take_fault s sender b =
    if slice_index_or s.closed sender false then Some AfterClose
    else if is_full s b then Some HeldFull
    else None

-- ---- request

abbrev pub gathering : State → Gathering
gathering s = record { limits = s.config.limits; items = [] }

-- the operations of the next request
abbrev pub next_entries : State → List delivery.Entry
next_entries s = chosen_entries (delivery.candidates s.core) (gathering s)

-- the batch to send now, if there is one
abbrev pub next_batch : State → Option (List BatchItem)
next_batch s =
    if nat_lt (length s.flights.batches) s.config.in_flight
    then batch_of s.core.clock s.mark (all_closed s) s.config.limits (map item_of (delivery.candidates s.core))
    else None

abbrev pub after_request : State → Option (List BatchItem) → State
after_request s None = s
after_request s (Some items) = record s { core = delivery.after_request_of s.core (next_entries s); flights = flight.with_batch items s.flights }

-- the number of documents with held operations
abbrev pub documents_of : State → ℕ
documents_of s = distinct (map (λ (h : Held). document_of h.op.key) (delivery.held_of s.core.held))

-- the looks, after one at each document
abbrev pub looks_after : Seen → ℕ
looks_after v = v.looks + documents_of v.state

-- the looks, after one at each operation of the next request; they saturate at 2^64 - 1
abbrev pub looked_at_least : Seen → ℕ
looked_at_least v = min (v.looks + length (unwrap_or (next_batch v.state) [])) 18446744073709551615

-- ---- reply, whole, lost

abbrev pub is_flying : ℕ → State → Bool
is_flying number s = delivery.is_flying number s.core

-- the writes of a request in flight
abbrev pub writes_of : ℕ → State → List Write
writes_of number s = delivery.writes_at (from_zero number) s.core.flying

-- the number of the first request in a list
abbrev pub first_number : List delivery.Flying → Option ℕ
first_number [] = None
first_number (f ∷ fs) = Some (from_one f.request)

-- the number of the oldest request in flight
abbrev pub oldest : State → Option ℕ
oldest s = first_number s.core.flying

abbrev pub after_answer_to : State → ℕ → Answer → State
after_answer_to s number a = record s {
  core = delivery.after_answer_to s.core number a;
  flights = flight.without_batch number s.flights;
  successes = s.successes ++ successes_from (delivery.tries_in s.core) (from_zero number) (writes_of number s) a (delivery.held_of s.core.held);
}

-- the report at a place has this reason
abbrev pub explained_at : ℕ → Option (List ℕ) → State → State
explained_at place given s = record s { core = record s.core { reports = explained place given s.core.reports } }

abbrev pub without_successes : State → State
without_successes s = record s { successes = [] }

abbrev pub is_reported_fate : fates.Fate → Bool
is_reported_fate fates.Flies = false
is_reported_fate fates.Applied = false
is_reported_fate fates.Already = false
is_reported_fate fates.Retried = false
is_reported_fate (fates.Halved cap) = false
is_reported_fate (fates.Reported cause) = true

abbrev pub is_retried_fate : fates.Fate → Bool
is_retried_fate fates.Flies = false
is_retried_fate fates.Applied = false
is_retried_fate fates.Already = false
is_retried_fate fates.Retried = true
is_retried_fate (fates.Halved cap) = true
is_retried_fate (fates.Reported cause) = false

-- the number of operations whose fate, by an answer, passes the test
abbrev pub count_fates : (fates.Fate → Bool) → State → ℕ → Answer → ℕ
count_fates test s number a = how_many test (delivery.tries_in s.core) (from_zero number) (writes_of number s) a (delivery.held_of s.core.held)

-- the counts are those of the operations with these fates
pub record AreCounts (s : State) (number : ℕ) (a : Answer) (c : Settled) : Type 0 where
  pub applied : c.applied ≡ count_fates is_applied_fate s number a
  pub already : c.already ≡ count_fates is_already_fate s number a
  pub reported : c.reported ≡ count_fates is_reported_fate s number a
  pub retried : c.retried ≡ count_fates is_retried_fate s number a

-- ---- looks

-- the operation waits, and no held operation of its document is older
abbrev pub is_eligible : State → delivery.Entry → Bool
is_eligible s e = delivery.waits e.held.flies && not (delivery.is_later (delivery.held_of s.core.held) e.held)

-- the lowest due tick
abbrev pub sooner : ℕ → Option ℕ → Option ℕ
sooner due None = Some due
sooner due (Some other) = Some (min due other)

abbrev pub first_due : List delivery.Entry → Option ℕ
first_due [] = None
first_due (e ∷ es) = sooner e.due (first_due es)

-- the ticks until the first eligible operation is due
abbrev pub due_in : State → Option ℕ
due_in s = option_map (λ due. due - s.core.clock) (first_due (filter (is_eligible s) s.core.held))

abbrev pub is_finished : State → Bool
is_finished s = all_closed s && (length s.core.held == 0)

-- ---- what always holds

-- the bytes of what waits are those of its lines
abbrev pub AreWeighed : List delivery.Entry → Type 0
AreWeighed es = (e : delivery.Entry) → Mem e es → e.held.flies ≡ None → e.bytes ≡ length (write_text (write_of e.held))

-- a place in a request in flight, which has at most as many writes as this cap, or a single one
pub record IsPlaceIn (fs : List delivery.Flying) (cap : ℕ) (p : Place) : Type 0 where
  pub flies : list_any (λ (f : delivery.Flying). f.request == p.request) fs ≡ true
  pub room : 1 < length (delivery.writes_at p.request fs) → length (delivery.writes_at p.request fs) ≤ cap

-- A held operation has a version that was assigned, and a due tick that is reached. While it waits it has attempts
-- left, and while it is in flight its request is. The sends that do not count as attempts are those that halved its
-- cap.
pub record IsInOrder (s : State) (e : delivery.Entry) : Type 0 where
  pub assigned : e.held.version < s.core.config.first + min s.core.taken s.core.config.deals
  pub due : e.due ≤ last_tick
  pub waits : e.held.flies ≡ None → e.held.attempts < s.core.config.max
  pub flies : (p : Place) → e.held.flies ≡ Some p → IsPlaceIn s.core.flying e.held.cap p
  pub attempts : e.held.attempts ≤ s.core.config.max
  pub halved : e.held.sends + halvings e.held.cap ≤ e.held.attempts + 14

-- each is held with a version above those of the operations before it
abbrev pub VersionsRise : List Held → Type 0
VersionsRise [] = Unit {0}
VersionsRise (h ∷ hs) = ((j : Held) → Mem j hs → h.version < j.version) × VersionsRise hs

-- the requests in flight have increasing numbers, from the lowest on and below the next
abbrev pub AreNumbered : ℕ → ℕ → List delivery.Flying → Type 0
AreNumbered least next [] = Unit {0}
AreNumbered least next (f ∷ fs) = (least ≤ f.request) × (f.request < next) × AreNumbered (f.request + 1) next fs

-- Its config is valid, it has all its senders, and what it holds and sends is within its limits; what it holds is in
-- order; requests are numbered consecutively, below 2^63, and each in flight has its batch.
pub record IsLane (s : State) : Type 0 where
  pub valid : is_valid s.config ≡ true
  pub config : s.core.config ≡ config_of s.config
  pub senders : length s.closed ≡ s.config.producers + 1
  pub clock : s.core.clock ≤ last_tick
  pub held : length s.core.held ≤ s.config.max_held
  pub assigned : length s.core.held ≤ min s.core.taken s.core.config.deals
  pub weighed : AreWeighed s.core.held
  pub in_order : (e : delivery.Entry) → Mem e s.core.held → IsInOrder s e
  pub rises : VersionsRise (delivery.held_of s.core.held)
  pub flying : length s.flights.batches ≤ s.config.in_flight
  pub beside : length s.core.flying ≡ length s.flights.batches
  pub numbered : AreNumbered 0 s.core.requests s.core.flying
  pub next : s.flights.next ≡ s.core.requests + 1
  pub numbers : s.core.requests ≤ 2 ^ 62
