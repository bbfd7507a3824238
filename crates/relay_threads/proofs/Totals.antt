-- Each operation that was taken is held, was applied or is reported, whatever a lane does.
use Rattle.std.proofs.Common.{◌≡◌, ℕ, ◌+◌, List, [], ◌∷◌, Option, Some, None, Bool, true, false, refl, sym, subst, arith, length, length-append}
use Rattle.std.specs.Prelude.{nat_lt, unwrap_or}
use Rattle.relay_action.specs.declared.write.Write.{Write}
use Rattle.relay_action.specs.declared.operation.Op.{Op}
use Rattle.relay_action.specs.declared.mail.Body.{Body}
use Rattle.relay_action.specs.declared.mail.Body.TheVariants as body
use Rattle.relay_batch.specs.declared.item.BatchItem.{BatchItem}
use Rattle.relay_results.specs.Numbers.{from_zero}
use Rattle.relay_results.specs.Outside.{Answer, Lost}
use Rattle.relay_results.specs.Fates.{Fate, Flies, Applied, Already, Retried, Halved, Reported}
use Rattle.relay_delivery.specs.Machine.{Config, spent_if, kept_one, still_held, reports_from, fate_of}
use Rattle.relay_delivery.specs.Lane as delivery
use Rattle.relay_delivery.specs.Lane.{tries_in, Entry, held_of, entry_if, kept_entry, kept_entries, launched_entry, after_settling, writes_at}
use Rattle.relay_delivery.proofs.Fates.{totals-settled}
use Rattle.std.proofs.lemmas.List.{length-map}
use Rattle.relay_core.specs.State.{State, after_take, after_request, next_batch, next_entries, after_answer_to, oldest, bytes_of}
use Rattle.relay_core.specs.Ties.{ops_of}
use Rattle.relay_lane.specs.Turns.{Turn, Sends, Fails, Settles, Pauses, after_send, after_ticks, after_turn, after_turns, Worked}
use Rattle.relay_threads.specs.Course.{HasTotals}

-- ---- requests and answers

one_kept : (clock : ℕ) (t : Fate) (e : Entry) → length (kept_entry clock t e) ≡ length (kept_one t e.held)
one_kept clock Flies e = refl
one_kept clock Applied e = refl
one_kept clock Already e = refl
one_kept clock Retried e = refl
one_kept clock (Halved cap) e = refl
one_kept clock (Reported cause) e = refl

all_kept : (allowed : ℕ → ℕ) (clock number : ℕ) (ws : List Write) (a : Answer) (es : List Entry) → length (kept_entries allowed clock number ws a es) ≡ length (still_held allowed number ws a (held_of es))
all_kept allowed clock number ws a [] = refl
all_kept allowed clock number ws a (e ∷ es) =
    let t = fate_of allowed number ws a e.held e.held.flies in
    let x = length-append (kept_entry clock t e) (kept_entries allowed clock number ws a es) in
    let y = length-append (kept_one t e.held) (still_held allowed number ws a (held_of es)) in
    let one = one_kept clock t e in
    let rest = all_kept allowed clock number ws a es in
    omega (arith, x, y, one, rest)

abbrev core_totals : delivery.State → Type 0
core_totals s = length s.held + (s.applied + s.already) + length s.reports ≡ s.taken

settled_totals : (s : delivery.State) (number : ℕ) (ws : List Write) (a : Answer) → core_totals s → core_totals (after_settling s number ws a)
settled_totals s number ws a t =
    let all = totals-settled (tries_in s) number ws a (held_of s.held) in
    let k = all_kept (tries_in s) s.clock number ws a s.held in
    let m = length-map s.held (λ (e : Entry). e.held) in
    let r = length-append s.reports (reports_from (tries_in s) number ws a (held_of s.held)) in
    omega (arith, t, all, k, m, r)

asked_totals : (s : State) (b : Option (List BatchItem)) → HasTotals s → HasTotals (after_request s b)
asked_totals s None t = t
asked_totals s (Some items) t =
    let m = length-map s.core.held (launched_entry s.core.clock s.core.requests (held_of (next_entries s))) in
    omega (arith, t, m)

answered_totals : (s : State) (number : ℕ) (a : Answer) → HasTotals s → HasTotals (after_answer_to s number a)
answered_totals s number a t = settled_totals s.core (from_zero number) (writes_at (from_zero number) s.core.flying) a t

-- ---- turns

turn_totals : (t : Turn) (s : State) → HasTotals s → HasTotals (after_turn t s)
turn_totals (Sends n) s h = asked_totals s (next_batch s) h
turn_totals (Fails why n) s h = answered_totals (after_ticks n (after_send s)) s.flights.next (Lost why) (asked_totals s (next_batch s) h)
turn_totals (Settles n a) s h = answered_totals (after_ticks n s) (unwrap_or (oldest s) 0) a h
turn_totals (Pauses n) s h = h

turns_totals : (ts : List Turn) (s : State) → HasTotals s → HasTotals (after_turns ts s)
turns_totals [] s h = h
turns_totals (t ∷ ts) s h = turns_totals ts (after_turn t s) (turn_totals t s h)

pub worked_totals : (going : Turn → State → Bool) (s t : State) → Worked going s t → HasTotals s → HasTotals t
worked_totals going s t w h = subst HasTotals (sym w.reached) (turns_totals w.turns s h)

-- ---- messages

one_more : (b : Bool) (s : delivery.State) (o : Op) (bytes : ℕ) → length (entry_if b s o bytes) + length (spent_if b o) ≡ 1
one_more true s o bytes = refl
one_more false s o bytes = refl

pub take_totals : (s : State) (sender : ℕ) (b : Body) → HasTotals s → HasTotals (after_take s sender b)
take_totals s sender (body.Put o) t =
    let dealt = nat_lt s.core.taken s.core.config.deals in
    let h = length-append s.core.held (entry_if dealt s.core o (bytes_of s o)) in
    let r = length-append s.core.reports (spent_if dealt o) in
    let e = one_more dealt s.core o (bytes_of s o) in
    omega (arith, t, h, r, e)
take_totals s sender body.Tick t = t
take_totals s sender body.Flush t = t
take_totals s sender body.Done t = t

pub take_counts : (s : State) (sender : ℕ) (b : Body) → (after_take s sender b).core.taken ≡ s.core.taken + length (ops_of b)
take_counts s sender (body.Put o) = refl
take_counts s sender body.Tick = omega arith
take_counts s sender body.Flush = omega arith
take_counts s sender body.Done = omega arith
