-- What the calls of a lane note of the operations that they end as applied, and what it reaches by more calls.
use Rattle.std.proofs.Common.{◌≡◌, ℕ, ◌+◌, List, [], ◌∷◌, ◌++◌, Option, Some, None, Bool, true, refl, sym, ap, ◌∙◌, subst, append-nil, append_assoc}
use Rattle.std.specs.Prelude.{is_some, unwrap_or}
use Rattle.relay_action.specs.declared.operation.Op.{Op}
use Rattle.relay_batch.specs.declared.item.BatchItem.{BatchItem}
use Rattle.relay_results.specs.Outside.{Answer, Lost}
use Rattle.relay_delivery.specs.Lane.{fresh_state}
use Rattle.relay_delivery.specs.Lane as delivery
use Rattle.relay_delivery.specs.Machine.{Config}
use Rattle.relay_delivery.specs.Reach.{Call, Takes, Ticks, Sends, Answers, call, calls_of, AllMayCall, taken_in}
use Rattle.relay_core.specs.declared.success.Success.{Success}
use Rattle.relay_core.specs.State.{State, after_request, after_answer_to, next_batch, next_entries, oldest}
use Rattle.relay_lane.specs.Reach.{IsReached}
use Rattle.relay_lane.specs.Calls.{called_by, called_in}
use Rattle.relay_lane.specs.Turns.{Turn, Settles, Pauses, after_ticks, after_turn, after_turns, AllMayTurn, MayTurn, Worked}
use Rattle.relay_lane.specs.Turns as turns
use Rattle.relay_lane.proofs.Calling.{calls_on, may_on, took_on, turn_is_calls, turn_numbers}
use Rattle.relay_threads.specs.Told.{noted_by, noted_in}

-- ---- lists of calls

call_config : (c : Call) (s : delivery.State) → (call c s).config ≡ s.config
call_config (Takes o bytes) s = refl
call_config (Ticks clock) s = refl
call_config (Sends chosen) s = refl
call_config (Answers number a) s = refl

pub calls_config : (cs : List Call) (s : delivery.State) → (calls_of cs s).config ≡ s.config
calls_config [] s = refl
calls_config (c ∷ cs) s = calls_config cs (call c s) ∙ call_config c s

pub noted_on : (cs ds : List Call) (s : delivery.State) → noted_in (cs ++ ds) s ≡ noted_in cs s ++ noted_in ds (calls_of cs s)
noted_on [] ds s = refl
noted_on (c ∷ cs) ds s = ap (λ xs. noted_by c s ++ xs) (noted_on cs ds (call c s)) ∙ sym (append_assoc (noted_by c s) (noted_in cs (call c s)) (noted_in ds (calls_of cs (call c s))))

-- ---- what a lane reaches by more calls

-- the state from which these calls go on
pub from_there : (s : State) (taken : List Op) (g : Config) → (r : IsReached s taken) → g ≡ s.core.config → calls_of r.core.calls (fresh_state g) ≡ s.core
from_there s taken g r e = ap (λ x. calls_of r.core.calls (fresh_state x)) e ∙ r.core.reached

abbrev pub reached_on : (s t : State) (taken all : List Op) (cs : List Call) → IsReached s taken → t.core.config ≡ s.core.config → AllMayCall cs s.core → calls_of cs s.core ≡ t.core → taken ++ taken_in cs ≡ all → t.flights.next ≡ t.core.requests + 1 → IsReached t all
reached_on s t taken all cs r same may is took next = record {
  core = record {
    calls = r.core.calls ++ cs;
    may = may_on r.core.calls cs (fresh_state t.core.config) (subst (λ g. AllMayCall r.core.calls (fresh_state g)) (sym same) r.core.may) (subst (AllMayCall cs) (sym (from_there s taken t.core.config r same)) may);
    took = took_on r.core.calls cs ∙ ap (λ os. os ++ taken_in cs) r.core.took ∙ took;
    reached = calls_on r.core.calls cs (fresh_state t.core.config) ∙ ap (calls_of cs) (from_there s taken t.core.config r same) ∙ is;
  };
  next = next;
}

-- what the calls noted until now, and what more of them note
pub noted_more : (s : State) (taken : List Op) (cs : List Call) (g : Config) (told : List Success) (more : List Success) → (r : IsReached s taken) → g ≡ s.core.config → noted_in r.core.calls (fresh_state s.core.config) ≡ told ++ s.successes → more ≡ s.successes ++ noted_in cs s.core
    → noted_in (r.core.calls ++ cs) (fresh_state g) ≡ told ++ more
noted_more s taken cs g told more r same noted adds =
    noted_on r.core.calls cs (fresh_state g)
    ∙ (λ i. (ap (λ x. noted_in r.core.calls (fresh_state x)) same ∙ noted) i ++ noted_in cs (from_there s taken g r same i))
    ∙ append_assoc told s.successes (noted_in cs s.core)
    ∙ ap (λ xs. told ++ xs) (sym adds)

-- ---- what each turn notes

send_notes : (n : ℕ) (s : State) (b : Option (List BatchItem)) → is_some b ≡ true → (after_ticks n (after_request s b)).successes ≡ s.successes ++ []
send_notes n s None some = absurd (cc)
send_notes n s (Some items) some = sym (append-nil s.successes)

fail_notes : (n : ℕ) (s : State) (b : Option (List BatchItem)) (a : Answer) → is_some b ≡ true
    → (after_answer_to (after_ticks n (after_request s b)) s.flights.next a).successes ≡ s.successes ++ noted_in (Sends (next_entries s) ∷ Ticks (s.core.clock + n) ∷ Answers s.flights.next a ∷ []) s.core
fail_notes n s None a some = absurd (cc)
fail_notes n s (Some items) a some = ap (λ xs. s.successes ++ xs) (sym (append-nil (noted_by (Answers s.flights.next a) (after_ticks n (after_request s (Some items))).core)))

turn_notes : (t : Turn) (s : State) → MayTurn t s → (after_turn t s).successes ≡ s.successes ++ noted_in (called_by t s) s.core
turn_notes (turns.Sends n) s may = send_notes n s (next_batch s) may
turn_notes (turns.Fails why n) s may = fail_notes n s (next_batch s) (Lost why) may
turn_notes (Settles n a) s may = ap (λ xs. s.successes ++ xs) (sym (append-nil (noted_by (Answers (unwrap_or (oldest s) 0) a) (after_ticks n s).core)))
turn_notes (Pauses n) s may = sym (append-nil s.successes)

turns_note : (going : Turn → State → Bool) (ts : List Turn) (s : State) → AllMayTurn going ts s → s.flights.next ≡ s.core.requests + 1 → (after_turns ts s).successes ≡ s.successes ++ noted_in (called_in ts s) s.core
turns_note going [] s may numbers = sym (append-nil s.successes)
turns_note going (t ∷ ts) s may numbers =
    let u = after_turn t s in
    let first = called_by t s in
    let more = called_in ts u in
    let one = turn_is_calls t s may.1 numbers in
    turns_note going ts u may.2 (turn_numbers t s may.1 numbers)
    ∙ (λ i. turn_notes t s may.1 i ++ noted_in more (sym one.1 i))
    ∙ append_assoc s.successes (noted_in first s.core) (noted_in more (calls_of first s.core))
    ∙ ap (λ xs. s.successes ++ xs) (sym (noted_on first more s.core))

pub work_notes : (going : Turn → State → Bool) (s t : State) → (w : Worked going s t) → s.flights.next ≡ s.core.requests + 1 → t.successes ≡ s.successes ++ noted_in (called_in w.turns s) s.core
work_notes going s t w numbers = ap (λ (x : State). x.successes) w.reached ∙ turns_note going w.turns s w.may numbers
