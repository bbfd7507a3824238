-- Each message and each turn leads on from what a lane came to.
use Rattle.std.proofs.Common.{◌≡◌, ◌≢◌, ℕ, ◌+◌, ◌<◌, List, [], ◌∷◌, ◌++◌, length, Option, Some, None, true, Bool, ◌==◌, ◌||◌, refl, sym, ap, subst, arith, append-nil}
use Rattle.std.specs.Prelude.{is_some, unwrap_or}
use Rattle.std.specs.List.{list_any}
use Rattle.relay_action.specs.declared.mail.Body.TheVariants as body
use Rattle.relay_action.specs.declared.operation.Op.{Op}
use Rattle.relay_batch.specs.declared.item.BatchItem.{BatchItem}
use Rattle.relay_results.specs.Numbers.{from_one}
use Rattle.relay_results.specs.Outside.{Answer, Unanswered, Lost}
use Rattle.relay_results.proofs.Lists.{equal_test, any_from, Mem-last}
use Rattle.relay_delivery.specs.Lane.{Flying, candidates, writes_of_all}
use Rattle.relay_delivery.specs.Reach.{Takes, Ticks, Sends, Answers, Reached}
use Rattle.relay_delivery.proofs.Reached.{reached_holds, fresh_reached, call_reached}
use Rattle.relay_core.specs.State.{State, config_of, later, bytes_of, gathering, next_entries, next_batch, after_request, is_flying, first_number, oldest, after_answer_to}
use Rattle.relay_core.proofs.Batched.{next_keeps}
use Rattle.relay_core.proofs.Tying.{chosen_sub}
use Rattle.relay_results.specs.declared.cause.Loss.{Loss}
use Rattle.relay_lane.specs.Turns.{Turn, Settles, Pauses, after_send, after_ticks, after_turn, after_turns, AllMayTurn}
use Rattle.relay_lane.specs.Turns as turns
use Rattle.relay_lane.specs.Reach.{IsReached, FreshIsReached, TakeIsReached, TurnIsReached, WorkIsReached, ReachedIsOrderly}

pub fresh_is_reached : FreshIsReached
fresh_is_reached c = record { core = fresh_reached (config_of c); next = refl }

pub take_is_reached : TakeIsReached
take_is_reached s sender (body.Put o) taken r = record { core = call_reached s.core (Takes o (bytes_of s o)) taken r.core tt; next = r.next }
take_is_reached s sender body.Tick taken r = record { core = call_reached s.core (Ticks (later s.core.clock)) taken r.core tt; next = r.next }
take_is_reached s sender body.Flush taken r = record { core = subst (λ os. Reached s.core os) (sym (append-nil taken)) r.core; next = r.next }
take_is_reached s sender body.Done taken r = record { core = subst (λ os. Reached s.core os) (sym (append-nil taken)) r.core; next = r.next }

-- ---- turns

-- an answer to a request in flight
answer_reached : (s : State) (number : ℕ) (a : Answer) (taken : List Op) → is_flying number s ≡ true → a ≢ Unanswered → IsReached s taken → IsReached (after_answer_to s number a) taken
answer_reached s number a taken flies given r = record {
  core = subst (λ os. Reached (after_answer_to s number a).core os) (append-nil taken) (call_reached s.core (Answers number a) taken r.core (flies, given));
  next = r.next;
}

send_reached : (s : State) (items : List BatchItem) (taken : List Op) → next_batch s ≡ Some items → IsReached s taken → IsReached (after_request s (Some items)) taken
send_reached s items taken e r = record {
  core = subst (λ os. Reached (after_request s (Some items)).core os) (append-nil taken)
      (call_reached s.core (Sends (next_entries s)) taken r.core (chosen_sub (candidates s.core) (gathering s), next_keeps s items e));
  next = ap (λ n. n + 1) r.next;
}

-- the request that was just sent is in flight
new_flies : (s : State) (items : List BatchItem) (taken : List Op) → IsReached s taken → is_flying s.flights.next (after_request s (Some items)) ≡ true
new_flies s items taken r =
    let new : Flying = record { request = s.core.requests; writes = writes_of_all (next_entries s) } in
    any_from (λ (f : Flying). from_one f.request == s.flights.next) new (s.core.flying ++ new ∷ []) (Mem-last s.core.flying new) (equal_test (from_one s.core.requests) s.flights.next (sym r.next))

sent_reached : (s : State) (b : Option (List BatchItem)) (taken : List Op) → next_batch s ≡ b → is_some b ≡ true → IsReached s taken → IsReached (after_request s b) taken
sent_reached s None taken e some r = absurd (cc)
sent_reached s (Some items) taken e some r = send_reached s items taken e r

pub ticks_reached : (n : ℕ) (s : State) (taken : List Op) → IsReached s taken → IsReached (after_ticks n s) taken
ticks_reached n s taken r = record {
  core = subst (λ os. Reached (after_ticks n s).core os) (append-nil taken) (call_reached s.core (Ticks (s.core.clock + n)) taken r.core tt);
  next = r.next;
}

failed_reached : (why : Loss) (n : ℕ) (s : State) (b : Option (List BatchItem)) (taken : List Op) → next_batch s ≡ b → is_some b ≡ true → IsReached s taken → IsReached (after_answer_to (after_ticks n (after_request s b)) s.flights.next (Lost why)) taken
failed_reached why n s None taken e some r = absurd (cc)
failed_reached why n s (Some items) taken e some r =
    answer_reached (after_ticks n (after_request s (Some items))) s.flights.next (Lost why) taken (new_flies s items taken r) (λ n. absurd (cc))
    (ticks_reached n (after_request s (Some items)) taken (send_reached s items taken e r))

first_flies : (fs : List Flying) → 0 < length fs → list_any (λ (f : Flying). from_one f.request == unwrap_or (first_number fs) 0) fs ≡ true
first_flies [] some = absurd (omega (arith, some))
first_flies (f ∷ fs) some = ap (λ b. b || list_any (λ (x : Flying). from_one x.request == from_one f.request) fs) (equal_test (from_one f.request) (from_one f.request) refl)

pub turn_is_reached : TurnIsReached
turn_is_reached (turns.Sends n) s taken may r = ticks_reached n (after_send s) taken (sent_reached s (next_batch s) taken refl may r)
turn_is_reached (turns.Fails why n) s taken may r = failed_reached why n s (next_batch s) taken refl may r
turn_is_reached (Settles n a) s taken may r = answer_reached (after_ticks n s) (unwrap_or (oldest s) 0) a taken (first_flies s.core.flying may.0) may.1 (ticks_reached n s taken r)
turn_is_reached (Pauses n) s taken may r = ticks_reached n s taken r

turns_are_reached : (going : Turn → State → Bool) (ts : List Turn) (s : State) (taken : List Op) → AllMayTurn going ts s → IsReached s taken → IsReached (after_turns ts s) taken
turns_are_reached going [] s taken may r = r
turns_are_reached going (t ∷ ts) s taken may r = turns_are_reached going ts (after_turn t s) taken may.2 (turn_is_reached t s taken may.1 r)

pub work_is_reached : WorkIsReached
work_is_reached going s t taken w r = subst (λ x. IsReached x taken) (sym w.reached) (turns_are_reached going w.turns s taken w.may r)

pub reached_is_orderly : ReachedIsOrderly
reached_is_orderly s taken r = reached_holds s.core taken r.core
