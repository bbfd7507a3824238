-- What a desk keeps.
use Rattle.std.proofs.Common.{◌≡◌, ℕ, zero, suc, ◌+◌, ◌<◌, ◌≤◌, List, [], ◌∷◌, ◌++◌, length, Option, Some, None, Bool, true, false, refl, sym, ap, ◌∙◌, subst, arith}
use Rattle.std.specs.Prelude.{slice_get, slice_set, slice_index_or, option_map, unwrap_or, filter, map, replicate, not, ◌||◌, ◌==◌, OnOk, OnErr, Result, is_some}
use Rattle.std.specs.Map.{lookup}
use Rattle.std.proofs.Math.Bool.{or-false}
use Rattle.std.proofs.lemmas.List.{length-map, length-replicate}
use Rattle.relay_action.specs.Streams.{one_more}
use Rattle.relay_action.specs.declared.mail.Mail.{Mail}
use Rattle.relay_action.specs.declared.mail.Body.{Body}
use Rattle.relay_action.specs.declared.mail.Body.TheVariants as body
use Rattle.relay_batch.specs.declared.item.BatchItem.{BatchItem}
use Rattle.relay_flight.specs.Flying as flight
use Rattle.relay_results.specs.Outside.{Answer}
use Rattle.relay_results.specs.Words.{update}
use Rattle.relay_results.proofs.Lists.{equal, equal_test, length-update, filter_sub, or_right}
use Rattle.relay_core.specs.declared.config.RelayConfig.{RelayConfig}
use Rattle.relay_core.specs.State as lane
use Rattle.relay_core.specs.Rule.{item_of as of_entry}
use Rattle.relay_core.proofs.Tying.{chosen_sub}
use Rattle.relay_core.proofs.Forming.{items_of_operations as items_are}
use Rattle.relay_delivery.specs.Lane as delivery
use Rattle.relay_world.specs.declared.sender.Sender.{Sender}
use Rattle.relay_world.specs.State.{Desk, fresh_desk}
use Rattle.relay_world.specs.Changes.{after_mail, mail_of, after_post, front_taken, took_front, sent_request, answered_desk}
use Rattle.relay_world.specs.Memory.{AllKnown, AllBelow, IsDesk, IsOpenAt, closed_by, closed_after, AllOpenYet}
use Rattle.relay_world.proofs.Places.{either, set-update, length-set, length-sub}

known-push : (n : ℕ) (ms : List Mail) (m : Mail) → AllKnown n ms → m.sender < n → AllKnown n (ms ++ m ∷ [])
known-push n [] m k lt = (lt, tt)
known-push n (x ∷ ms) m k lt = (k.0, known-push n ms m k.1 lt)

-- a sender that has not closed is one of the senders
pub open_within : (ss : List Sender) (n : ℕ) → option_map (λ (s : Sender). s.closed) (slice_get ss n) ≡ Some false → n < length ss
open_within [] n e = absurd (cc)
open_within (s ∷ ss) zero e = omega arith
open_within (s ∷ ss) (suc n) e = let lt = open_within ss n e in omega (arith, lt)

-- ---- which senders have closed

closed-push : (ms : List Mail) (m : Mail) (cs : List Bool) → closed_after (ms ++ m ∷ []) cs ≡ closed_by m.sender m.body (closed_after ms cs)
closed-push [] m cs = refl
closed-push (x ∷ ms) m cs = closed-push ms m (closed_by x.sender x.body cs)

open-push : (ms : List Mail) (m : Mail) (cs : List Bool) → AllOpenYet ms cs → slice_index_or (closed_after ms cs) m.sender false ≡ false → AllOpenYet (ms ++ m ∷ []) cs
open-push [] m cs a e = (e, tt)
open-push (x ∷ ms) m cs a e = (a.0, open-push ms m (closed_by x.sender x.body cs) a.1 e)

-- a sender is open there if it is open among these
open_among : (ss : List Sender) (n : ℕ) → option_map (λ (s : Sender). s.closed) (slice_get ss n) ≡ Some false → slice_index_or (map (λ (s : Sender). s.closed) ss) n false ≡ false
open_among [] n e = absurd (cc)
open_among (s ∷ ss) zero e = let same : s.closed ≡ false = cc in same
open_among (s ∷ ss) (suc n) e = open_among ss n e

closed_same : (n : ℕ) (f : Sender → Sender) (ss : List Sender) → ((s : Sender) → (f s).closed ≡ s.closed) → map (λ (s : Sender). s.closed) (update n f ss) ≡ map (λ (s : Sender). s.closed) ss
closed_same n f [] same = refl
closed_same zero f (s ∷ ss) same = ap (λ b. b ∷ map (λ (x : Sender). x.closed) ss) (same s)
closed_same (suc n) f (s ∷ ss) same = ap (λ bs. s.closed ∷ bs) (closed_same n f ss same)

closed_there : (n : ℕ) (ss : List Sender) → map (λ (s : Sender). s.closed) (update n (after_mail body.Done) ss) ≡ slice_set (map (λ (s : Sender). s.closed) ss) n true
closed_there n [] = refl
closed_there zero (s ∷ ss) = ap (λ b. b ∷ map (λ (x : Sender). x.closed) ss) (or_right s.closed true refl)
closed_there (suc n) (s ∷ ss) = ap (λ bs. s.closed ∷ bs) (closed_there n ss)

closed_posted : (n : ℕ) (b : Body) (ss : List Sender) → map (λ (s : Sender). s.closed) (update n (after_mail b) ss) ≡ closed_by n b (map (λ (s : Sender). s.closed) ss)
closed_posted n (body.Put o) ss = closed_same n (after_mail (body.Put o)) ss (λ s. or-false s.closed)
closed_posted n body.Tick ss = closed_same n (after_mail body.Tick) ss (λ s. or-false s.closed)
closed_posted n body.Flush ss = closed_same n (after_mail body.Flush) ss (λ s. or-false s.closed)
closed_posted n body.Done ss = closed_there n ss

-- ---- at the start

abbrev silent : Sender
silent = record { count = 0; closed = false }

all_silent : (n : ℕ) → map (λ (s : Sender). s.closed) (replicate n silent) ≡ replicate n false
all_silent zero = refl
all_silent (suc n) = ap (λ bs. false ∷ bs) (all_silent n)

pub fresh_is_desk : (c : RelayConfig) → IsDesk (fresh_desk c)
fresh_is_desk c = record {
  known = tt;
  senders = length-replicate (c.producers + 1) silent ∙ sym (length-replicate (c.producers + 1) false);
  open_yet = tt;
  closed = all_silent (c.producers + 1);
  fresh = tt;
}

pub posted_keeps : (sender : ℕ) (b : Body) (d : Desk) → IsDesk d → IsOpenAt sender d → IsDesk (after_post sender b d)
posted_keeps sender b d i open_there = record {
  known = known-push (length d.lane.closed) d.queue (mail_of d sender b) i.known (let lt = open_within d.senders sender open_there in let e = i.senders in omega (arith, lt, e));
  senders = length-update sender (after_mail b) d.senders ∙ i.senders;
  open_yet = open-push d.queue (mail_of d sender b) d.lane.closed i.open_yet (ap (λ cs. slice_index_or cs sender false) (sym i.closed) ∙ open_among d.senders sender open_there);
  closed = closed_posted sender b d.senders ∙ ap (closed_by sender b) i.closed ∙ sym (closed-push d.queue (mail_of d sender b) d.lane.closed);
  fresh = i.fresh;
}

-- ---- takes

took_closed : (s : lane.State) (sender : ℕ) (b : Body) → length (lane.after_take s sender b).closed ≡ length s.closed
took_closed s sender (body.Put o) = refl
took_closed s sender body.Tick = refl
took_closed s sender body.Flush = refl
took_closed s sender body.Done = length-set s.closed sender true

took_as : (s : lane.State) (sender : ℕ) (b : Body) → (lane.after_take s sender b).closed ≡ closed_by sender b s.closed
took_as s sender (body.Put o) = refl
took_as s sender body.Tick = refl
took_as s sender body.Flush = refl
took_as s sender body.Done = refl

took_flights : (s : lane.State) (sender : ℕ) (b : Body) → (lane.after_take s sender b).flights ≡ s.flights
took_flights s sender (body.Put o) = refl
took_flights s sender body.Tick = refl
took_flights s sender body.Flush = refl
took_flights s sender body.Done = refl

pub took_config : (s : lane.State) (sender : ℕ) (b : Body) → (lane.after_take s sender b).config ≡ s.config
took_config s sender (body.Put o) = refl
took_config s sender body.Tick = refl
took_config s sender body.Flush = refl
took_config s sender body.Done = refl

front_keeps : (q : List Mail) (d : Desk) → d.queue ≡ q → IsDesk d → IsDesk (front_taken q d)
front_keeps [] d e i = i
front_keeps (m ∷ ms) d e i =
    let k = subst (AllKnown (length d.lane.closed)) e i.known in
    record {
      known = subst (λ n. AllKnown n ms) (sym (took_closed d.lane m.sender m.body)) k.1;
      senders = i.senders ∙ sym (took_closed d.lane m.sender m.body);
      open_yet = subst (AllOpenYet ms) (sym (took_as d.lane m.sender m.body)) (subst (λ q. AllOpenYet q d.lane.closed) e i.open_yet).1;
      closed = i.closed ∙ ap (λ q. closed_after q d.lane.closed) e ∙ ap (closed_after ms) (sym (took_as d.lane m.sender m.body));
      fresh = subst (λ (f : flight.Flying). AllBelow f.next f.batches) (sym (took_flights d.lane m.sender m.body)) i.fresh;
    }

pub took_keeps : (d : Desk) → IsDesk d → IsDesk (took_front d)
took_keeps d i = front_keeps d.queue d refl i

-- ---- requests

below-more : (n : ℕ) (bs : List (ℕ × List BatchItem)) (b : List BatchItem) → AllBelow n bs → AllBelow (n + 1) (bs ++ (n, b) ∷ [])
below-more n [] b a = (omega arith, tt)
below-more n (x ∷ bs) b a = (let lt = a.0 in omega (arith, lt), below-more n bs b a.1)

-- with a number that is above all others, the last batch is found
pub found_last : (n : ℕ) (bs : List (ℕ × List BatchItem)) (b : List BatchItem) → AllBelow n bs → lookup (λ k. k == n) (bs ++ (n, b) ∷ []) ≡ Some b
found_last n [] b a = by (n == n) refl
  where
    by : (t : Bool) → (n == n) ≡ t → lookup (λ k. k == n) ((n, b) ∷ []) ≡ Some b
    by true e = rw e refl
    by false e = let q = equal_test n n refl in absurd (cc)
found_last n (x ∷ bs) b a = by (x.0 == n) refl (found_last n bs b a.1)
  where
    by : (t : Bool) → (x.0 == n) ≡ t → lookup (λ k. k == n) (bs ++ (n, b) ∷ []) ≡ Some b → lookup (λ k. k == n) (x ∷ (bs ++ (n, b) ∷ [])) ≡ Some b
    by true e rest = let q = equal x.0 n e in let lt = a.0 in absurd (omega (arith, q, lt))
    by false e rest = rw e rest

requested_keeps : (d : Desk) (b : Option (List BatchItem)) → IsDesk d → IsDesk (record d { lane = lane.after_request d.lane b })
requested_keeps d None i = i
requested_keeps d (Some is) i = record { known = i.known; senders = i.senders; open_yet = i.open_yet; closed = i.closed; fresh = below-more d.lane.flights.next d.lane.flights.batches is i.fresh }

-- the batch of a request that was formed is found under its number
pub batch_found : (s t : lane.State) (number : ℕ) (o : Option (List BatchItem)) → lane.next_batch s ≡ o → true ≡ is_some o → AllBelow s.flights.next s.flights.batches
    → number ≡ s.flights.next → t ≡ lane.after_request s (lane.next_batch s) → flight.batch_at number t.flights ≡ o
batch_found s t number None e some below same after = absurd (cc)
batch_found s t number (Some b) e some below same after =
    ap (λ (x : lane.State). flight.batch_at number x.flights) (after ∙ ap (lane.after_request s) e)
    ∙ ap (λ n. lookup (λ k. k == n) (s.flights.batches ++ (s.flights.next, b) ∷ [])) same
    ∙ found_last s.flights.next s.flights.batches b below

-- it has no more items than are held
pub batch_few : (s : lane.State) (b : List BatchItem) → lane.next_batch s ≡ Some b → length b ≤ length s.core.held
batch_few s b e =
    let n = ap length (items_are s b e) in
    let m = length-map (lane.next_entries s) of_entry in
    let c = length-sub (lane.next_entries s) (delivery.candidates s.core) (chosen_sub (delivery.candidates s.core) (lane.gathering s)) in
    let h = length-sub (delivery.candidates s.core) s.core.held (filter_sub (delivery.is_candidate s.core) s.core.held) in
    omega (arith, n, m, c, h)

pub sent_keeps : (d : Desk) → IsDesk d → IsDesk (sent_request d)
sent_keeps d i = requested_keeps d (lane.next_batch d.lane) i

-- ---- answers

below-filter : (n number : ℕ) (bs : List (ℕ × List BatchItem)) → AllBelow n bs → AllBelow n (filter (λ e. not (e.0 == number)) bs)
below-filter n number [] a = tt
below-filter n number (x ∷ bs) a = by (not (x.0 == number)) refl (below-filter n number bs a.1)
  where
    by : (t : Bool) → not (x.0 == number) ≡ t → AllBelow n (filter (λ e. not (e.0 == number)) bs) → AllBelow n (filter (λ e. not (e.0 == number)) (x ∷ bs))
    by true e rest = rw e (a.0, rest)
    by false e rest = rw e rest

pub answered_keeps : (number : ℕ) (a : Answer) (d : Desk) → IsDesk d → IsDesk (answered_desk number a d)
answered_keeps number a d i = record { known = i.known; senders = i.senders; open_yet = i.open_yet; closed = i.closed; fresh = below-filter d.lane.flights.next number d.lane.flights.batches i.fresh }

-- by whether the lane took the answer
pub answer_keeps : {A E : Type 0} (r : Result A E) (number : ℕ) (a : Answer) (d : Desk) (l : lane.State) → OnOk r (l ≡ lane.after_answer_to d.lane number a) → OnErr r (l ≡ d.lane)
    → IsDesk d → IsDesk (record d { lane = l })
answer_keeps r number a d l ok err i =
    either r (l ≡ lane.after_answer_to d.lane number a) (l ≡ d.lane) (IsDesk (record d { lane = l })) ok err
    (λ e. subst (λ x. IsDesk (record d { lane = x })) (sym e) (answered_keeps number a d i))
    (λ e. subst (λ x. IsDesk (record d { lane = x })) (sym e) i)

-- ---- in memory

-- the parts of a desk after a message was put there
pub posted_is : (d : Desk) (sender : ℕ) (b : Body) (s next : Sender) (queue : List Mail) → slice_get d.senders sender ≡ Some s → next ≡ after_mail b s
    → queue ≡ d.queue ++ record { sender = sender; number = next.count; body = b } ∷ []
    → record d { queue = queue; senders = slice_set d.senders sender next } ≡ after_post sender b d
posted_is d sender b s next queue there same q =
    let count : next.count ≡ one_more (unwrap_or (option_map (λ (x : Sender). x.count) (slice_get d.senders sender)) 0) =
    ap (λ (x : Sender). x.count) same ∙ ap (λ o. one_more (unwrap_or (option_map (λ (x : Sender). x.count) o) 0)) (sym there) in
    let mails = q ∙ ap (λ n. d.queue ++ record { sender = sender; number = n; body = b } ∷ []) count in
    let senders = set-update (after_mail b) d.senders sender s next there same in
    λ i. record d { queue = mails i; senders = senders i }

-- by whether the lane formed a request
pub request_keeps : {A E : Type 0} (r : Result A E) (d : Desk) (l : lane.State) → OnOk r (l ≡ lane.after_request d.lane (lane.next_batch d.lane)) → OnErr r (l ≡ d.lane)
    → IsDesk d → IsDesk (record d { lane = l })
request_keeps r d l ok err i =
    either r (l ≡ lane.after_request d.lane (lane.next_batch d.lane)) (l ≡ d.lane) (IsDesk (record d { lane = l })) ok err
    (λ e. subst (λ x. IsDesk (record d { lane = x })) (sym e) (sent_keeps d i))
    (λ e. subst (λ x. IsDesk (record d { lane = x })) (sym e) i)
