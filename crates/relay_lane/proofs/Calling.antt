-- The turns of a lane are calls of its core, and an outside that explains some and then others explains all.
use Rattle.std.proofs.Common.{◌≡◌, ◌≢◌, ℕ, ◌+◌, ◌<◌, List, [], ◌∷◌, ◌++◌, length, Option, Some, None, true, Bool, ◌==◌, ◌||◌, refl, sym, ap, ◌∙◌, subst, arith, append-nil, append_assoc}
use Rattle.std.specs.Prelude.{is_some, unwrap_or}
use Rattle.std.specs.List.{list_any}
use Rattle.relay_batch.specs.declared.item.BatchItem.{BatchItem}
use Rattle.relay_results.specs.Numbers.{from_one}
use Rattle.relay_results.specs.Outside.{Outside, Lost}
use Rattle.relay_results.proofs.Lists.{equal_test, any_from, Mem-last}
use Rattle.relay_delivery.specs.Lane.{Flying, candidates, writes_of_all}
use Rattle.relay_delivery.specs.Lane as delivery
use Rattle.relay_delivery.specs.Reach.{Call, call, calls_of, AllMayCall, taken_by, taken_in}
use Rattle.relay_core.specs.State.{State, gathering, next_entries, next_batch, after_request, after_answer_to, is_flying, first_number}
use Rattle.relay_core.proofs.Batched.{next_keeps}
use Rattle.relay_core.proofs.Tying.{chosen_sub}
use Rattle.relay_results.specs.declared.cause.Loss.{Loss}
use Rattle.relay_lane.specs.Turns.{Turn, Sends, Fails, Settles, Pauses, after_ticks, after_turn, after_turns, AllMayTurn, MayTurn, Worked}
use Rattle.relay_lane.specs.Calls.{called_by, called_in, TurnIsCalls}
use Rattle.relay_lane.specs.Exchanges.{Exchange}
use Rattle.relay_lane.specs.Delivers.{Delivers, WorkedOn}
use Rattle.relay_lane.proofs.Counting.{turns_after, turns_may}
use Rattle.relay_lane.proofs.Passing.{delivers_itself, delivers_on}

-- ---- lists of calls

pub calls_on : (cs ds : List Call) (s : delivery.State) → calls_of (cs ++ ds) s ≡ calls_of ds (calls_of cs s)
calls_on [] ds s = refl
calls_on (c ∷ cs) ds s = calls_on cs ds (call c s)

pub may_on : (cs ds : List Call) (s : delivery.State) → AllMayCall cs s → AllMayCall ds (calls_of cs s) → AllMayCall (cs ++ ds) s
may_on [] ds s a b = b
may_on (c ∷ cs) ds s a b = (a.0, may_on cs ds (call c s) a.1 b)

pub took_on : (cs ds : List Call) → taken_in (cs ++ ds) ≡ taken_in cs ++ taken_in ds
took_on [] ds = refl
took_on (c ∷ cs) ds = ap (λ os. taken_by c ++ os) (took_on cs ds) ∙ sym (append_assoc (taken_by c) (taken_in cs) (taken_in ds))

-- ---- one turn

-- its next request is numbered after those sent
abbrev pub NumbersOn : State → Type 0
NumbersOn s = s.flights.next ≡ s.core.requests + 1

sent_numbers : (s : State) (b : Option (List BatchItem)) → is_some b ≡ true → NumbersOn s → NumbersOn (after_request s b)
sent_numbers s None some e = absurd (cc)
sent_numbers s (Some items) some e = ap (λ n. n + 1) e

pub turn_numbers : (t : Turn) (s : State) → MayTurn t s → NumbersOn s → NumbersOn (after_turn t s)
turn_numbers (Sends n) s may e = sent_numbers s (next_batch s) may e
turn_numbers (Fails why n) s may e = sent_numbers s (next_batch s) may e
turn_numbers (Settles n a) s may e = e
turn_numbers (Pauses n) s may e = e

-- the request that was just sent is in flight, and so is the oldest
new_flies : (s : State) (items : List BatchItem) → NumbersOn s → is_flying s.flights.next (after_request s (Some items)) ≡ true
new_flies s items e =
    let new : Flying = record { request = s.core.requests; writes = writes_of_all (next_entries s) } in
    any_from (λ (f : Flying). from_one f.request == s.flights.next) new (s.core.flying ++ new ∷ []) (Mem-last s.core.flying new) (equal_test (from_one s.core.requests) s.flights.next (sym e))

first_flies : (fs : List Flying) → 0 < length fs → list_any (λ (f : Flying). from_one f.request == unwrap_or (first_number fs) 0) fs ≡ true
first_flies [] some = absurd (omega (arith, some))
first_flies (f ∷ fs) some = ap (λ b. b || list_any (λ (x : Flying). from_one x.request == from_one f.request) fs) (equal_test (from_one f.request) (from_one f.request) refl)

-- the calls may be made, and lead to this
abbrev CallsTo : List Call → State → State → Type 0
CallsTo cs s t = AllMayCall cs s.core × (calls_of cs s.core ≡ t.core)

send_calls : (n : ℕ) (s : State) (b : Option (List BatchItem)) → next_batch s ≡ b → is_some b ≡ true → CallsTo (called_by (Sends n) s) s (after_ticks n (after_request s b))
send_calls n s None e some = absurd (cc)
send_calls n s (Some items) e some = (((chosen_sub (candidates s.core) (gathering s), next_keeps s items e), (tt, tt)), refl)

fail_calls : (why : Loss) (n : ℕ) (s : State) (b : Option (List BatchItem)) → next_batch s ≡ b → is_some b ≡ true → NumbersOn s → CallsTo (called_by (Fails why n) s) s (after_answer_to (after_ticks n (after_request s b)) s.flights.next (Lost why))
fail_calls why n s None e some numbers = absurd (cc)
fail_calls why n s (Some items) e some numbers = (((chosen_sub (candidates s.core) (gathering s), next_keeps s items e), (tt, ((new_flies s items numbers, λ same. absurd (cc)), tt))), refl)

pub turn_is_calls : TurnIsCalls
turn_is_calls (Sends n) s may numbers = send_calls n s (next_batch s) refl may
turn_is_calls (Fails why n) s may numbers = fail_calls why n s (next_batch s) refl may numbers
turn_is_calls (Settles n a) s may numbers = ((tt, ((first_flies s.core.flying may.0, may.1), tt)), refl)
turn_is_calls (Pauses n) s may numbers = ((tt, tt), refl)

pub turn_takes_none : (t : Turn) (s : State) → taken_in (called_by t s) ≡ []
turn_takes_none (Sends n) s = refl
turn_takes_none (Fails why n) s = refl
turn_takes_none (Settles n a) s = refl
turn_takes_none (Pauses n) s = refl

-- ---- turns one after another

called_on : (ts us : List Turn) (s : State) → called_in (ts ++ us) s ≡ called_in ts s ++ called_in us (after_turns ts s)
called_on [] us s = refl
called_on (t ∷ ts) us s = ap (λ cs. called_by t s ++ cs) (called_on ts us (after_turn t s)) ∙ sym (append_assoc (called_by t s) (called_in ts (after_turn t s)) (called_in us (after_turns ts (after_turn t s))))

-- what the calls of these turns are
pub record AreCalled (ts : List Turn) (s t : State) : Type 0 where
  pub may : AllMayCall (called_in ts s) s.core
  pub reached : calls_of (called_in ts s) s.core ≡ t.core
  pub none : taken_in (called_in ts s) ≡ []
  pub numbers : t.flights.next ≡ t.core.requests + 1

turns_called : (going : Turn → State → Bool) (ts : List Turn) (s : State) → AllMayTurn going ts s → NumbersOn s → AreCalled ts s (after_turns ts s)
turns_called going [] s may numbers = record { may = tt; reached = refl; none = refl; numbers = numbers }
turns_called going (t ∷ ts) s may numbers =
    let one = turn_is_calls t s may.1 numbers in
    let u = after_turn t s in
    let rest = turns_called going ts u may.2 (turn_numbers t s may.1 numbers) in
    let first = called_by t s in
    let more = called_in ts u in
    record {
      may = may_on first more s.core one.0 (subst (AllMayCall more) (sym one.1) rest.may);
      reached = calls_on first more s.core ∙ ap (calls_of more) one.1 ∙ rest.reached;
      none = took_on first more ∙ ap (λ os. os ++ taken_in more) (turn_takes_none t s) ∙ rest.none;
      numbers = rest.numbers;
    }

pub work_called : (going : Turn → State → Bool) (s t : State) → (w : Worked going s t) → s.flights.next ≡ s.core.requests + 1 → AreCalled w.turns s t
work_called going s t w numbers = subst (AreCalled w.turns s) (sym w.reached) (turns_called going w.turns s w.may numbers)

-- ---- work on a wire

module _ {S : Type 0} (d : Bool) (fits : S → Outside → Type 0) (carries : S → Exchange → S → Type 0) (going : Turn → State → Bool) where
  pub worked_on_none : (w : S) (s : State) → WorkedOn d fits carries going w w s s
  worked_on_none w s = record { worked = record { turns = []; may = tt; reached = refl }; delivers = delivers_itself d fits carries w w s s refl refl }

  -- one turn
  pub worked_on_turn : (x : Turn) (v w : S) (s t : State) → going x s ≡ true → MayTurn x s → t ≡ after_turn x s → Delivers d fits carries v w s t (called_by x s) → WorkedOn d fits carries going v w s t
  worked_on_turn x v w s t goes may e k = record { worked = record { turns = x ∷ []; may = (goes, may, tt); reached = e }; delivers = subst (λ cs. Delivers d fits carries v w s t cs) (sym (append-nil (called_by x s))) k }

  -- one after another
  pub worked_on : (e : Bool) (u v w : S) (r s t : State) → e ≡ d → WorkedOn d fits carries going u v r s → WorkedOn e fits carries going v w s t → WorkedOn d fits carries going u w r t
  worked_on e u v w r s t same a b =
      let ts = a.worked.turns in
      let us = b.worked.turns in
      let calls : called_in ts r ++ called_in us s ≡ called_in (ts ++ us) r = ap (λ z. called_in ts r ++ called_in us z) a.worked.reached ∙ sym (called_on ts us r) in
      record {
        worked = record {
          turns = ts ++ us;
          may = turns_may going ts us r a.worked.may (subst (AllMayTurn going us) a.worked.reached b.worked.may);
          reached = b.worked.reached ∙ ap (after_turns us) a.worked.reached ∙ sym (turns_after ts us r);
        };
        delivers = subst (λ cs. Delivers d fits carries u w r t cs) calls (delivers_on d e fits carries u v w r s t (called_in ts r) (called_in us s) same a.delivers b.delivers);
      }

  -- a turn more
  pub worked_on_more : (x : Turn) (e : Bool) (u v w : S) (r s t : State) → e ≡ d → WorkedOn d fits carries going u v r s → going x s ≡ true → MayTurn x s → t ≡ after_turn x s → Delivers e fits carries v w s t (called_by x s) → WorkedOn d fits carries going u w r t
  worked_on_more x e u v w r s t same a goes may is k =
      worked_on e u v w r s t same a (record { worked = record { turns = x ∷ []; may = (goes, may, tt); reached = is }; delivers = subst (λ cs. Delivers e fits carries v w s t cs) (sym (append-nil (called_by x s))) k })

  -- nothing more was called
  pub worked_on_still : (e : Bool) (u v w : S) (r s t : State) → e ≡ d → WorkedOn d fits carries going u v r s → t ≡ s → Delivers e fits carries v w s t [] → WorkedOn d fits carries going u w r t
  worked_on_still e u v w r s t same a is k = record {
    worked = record { turns = a.worked.turns; may = a.worked.may; reached = is ∙ a.worked.reached };
    delivers = subst (λ cs. Delivers d fits carries u w r t cs) (append-nil (called_in a.worked.turns r)) (delivers_on d e fits carries u v w r s t (called_in a.worked.turns r) [] same a.delivers k);
  }
