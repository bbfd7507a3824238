-- Each operation that a lane takes is held, noted as applied or reported, and only one of these.
use Rattle.std.proofs.Common.{◌≡◌, ℕ, ◌+◌, List, [], ◌∷◌, Option, Some, None, Bool, true, false, refl, ap, ◌∙◌, arith}
use Rattle.std.specs.Prelude.{map, nat_lt, unwrap_or}
use Rattle.std.proofs.lemmas.List.{map-append}
use Rattle.relay_action.specs.declared.mail.Body.TheVariants as body
use Rattle.relay_action.specs.declared.operation.Op.{Op}
use Rattle.relay_action.specs.declared.operation.OpName.{OpName}
use Rattle.relay_batch.specs.declared.item.BatchItem.{BatchItem}
use Rattle.relay_results.specs.Words.{count, one_if}
use Rattle.relay_results.specs.Documents.{name_of, same_name}
use Rattle.relay_results.specs.Outside.{Answer, Lost}
use Rattle.relay_results.proofs.Lists.{count-append}
use Rattle.relay_delivery.specs.Machine.{Held, launched_at, place_of, spent_if}
use Rattle.relay_delivery.specs.Lane as delivery
use Rattle.relay_delivery.specs.Lane.{Entry, held_of, entry_if, launched_entry}
use Rattle.relay_core.specs.Endings.{is_held_as, is_success_as, is_report_as, new_successes, new_reports}
use Rattle.relay_core.specs.State.{State, after_request, next_batch, next_entries, after_answer_to, oldest, bytes_of}
use Rattle.relay_core.proofs.Endings.{each_ends_once}
use Rattle.relay_lane.specs.Turns.{Turn, Sends, Fails, Settles, Pauses, after_send, after_ticks, after_turn, after_turns}
use Rattle.relay_lane.specs.Once.{is_op_as, times, FreshHasNone, TakeAddsOne, TurnKeepsTimes, WorkKeepsTimes, ForgettingPassesOn}

pub fresh_has_none : FreshHasNone
fresh_has_none c n = refl

-- ---- requests and answers

launched_op : (request : ℕ) (h : Held) (p : Option ℕ) → (launched_at request h p).op ≡ h.op
launched_op request h None = refl
launched_op request h (Some p) = refl

launched_times : (clock request : ℕ) (chosen : List Held) (n : OpName) (es : List Entry) → count (is_held_as n) (held_of (map (launched_entry clock request chosen) es)) ≡ count (is_held_as n) (held_of es)
launched_times clock request chosen n [] = refl
launched_times clock request chosen n (e ∷ es) =
    λ i. one_if (same_name n (name_of (launched_op request e.held (place_of e.held.version chosen) i))) + launched_times clock request chosen n es i

asked_times : (s : State) (b : Option (List BatchItem)) (n : OpName) → times n (after_request s b) ≡ times n s
asked_times s None n = refl
asked_times s (Some items) n =
    ap (λ k. k + count (is_success_as n) s.successes + count (is_report_as n) s.core.reports) (launched_times s.core.clock s.core.requests (held_of (next_entries s)) n s.core.held)

answered_times : (s : State) (number : ℕ) (a : Answer) (n : OpName) → times n (after_answer_to s number a) ≡ times n s
answered_times s number a n =
    let e = each_ends_once s number a n in
    let x = count-append (is_success_as n) s.successes (new_successes s number a) in
    let r = count-append (is_report_as n) s.core.reports (new_reports s number a) in
    omega (arith, e, x, r)

-- ---- turns

pub turn_keeps_times : TurnKeepsTimes
turn_keeps_times (Sends k) s n = asked_times s (next_batch s) n
turn_keeps_times (Fails why k) s n = answered_times (after_ticks k (after_send s)) s.flights.next (Lost why) n ∙ asked_times s (next_batch s) n
turn_keeps_times (Settles k a) s n = answered_times (after_ticks k s) (unwrap_or (oldest s) 0) a n
turn_keeps_times (Pauses k) s n = refl

turns_keep : (ts : List Turn) (s : State) (n : OpName) → times n (after_turns ts s) ≡ times n s
turns_keep [] s n = refl
turns_keep (t ∷ ts) s n = turns_keep ts (after_turn t s) n ∙ turn_keeps_times t s n

pub work_keeps_times : WorkKeepsTimes
work_keeps_times going s t n w = ap (times n) w.reached ∙ turns_keep w.turns s n

-- ---- messages

one_taken : (b : Bool) (s : delivery.State) (o : Op) (bytes : ℕ) (n : OpName)
    → count (is_held_as n) (held_of (entry_if b s o bytes)) + count (is_report_as n) (spent_if b o) ≡ count (is_op_as n) (o ∷ [])
one_taken true s o bytes n = omega arith
one_taken false s o bytes n = omega arith

pub take_adds_one : TakeAddsOne
take_adds_one s sender (body.Put o) n =
    let dealt = nat_lt s.core.taken s.core.config.deals in
    let e = one_taken dealt s.core o (bytes_of s o) n in
    let m = ap (count (is_held_as n)) (map-append (λ (x : Entry). x.held) s.core.held (entry_if dealt s.core o (bytes_of s o))) in
    let h = count-append (is_held_as n) (held_of s.core.held) (held_of (entry_if dealt s.core o (bytes_of s o))) in
    let r = count-append (is_report_as n) s.core.reports (spent_if dealt o) in
    omega (arith, e, m, h, r)
take_adds_one s sender body.Tick n = omega arith
take_adds_one s sender body.Flush n = omega arith
take_adds_one s sender body.Done n = omega arith

pub forgetting_passes_on : ForgettingPassesOn
forgetting_passes_on s n = omega arith
