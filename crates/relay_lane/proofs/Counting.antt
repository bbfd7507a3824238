-- What turns add up to.
use Rattle.std.proofs.Common.{◌≡◌, ℕ, ◌+◌, ◌-◌, ◌*◌, ◌<◌, ◌≤◌, List, [], ◌∷◌, ◌++◌, length, Option, Some, None, Bool, true, refl, sym, ap, ◌∙◌, subst, ⊎_elim, inl, inr, arith}
use Rattle.std.specs.Prelude.{nat_lt, is_some, if◌then◌else◌}
use Rattle.std.proofs.Math.Nat.{suc-mul}
use borrow.Author.Tests.{ltb-false}
use Rattle.relay_batch.specs.declared.item.BatchItem.{BatchItem}
use Rattle.relay_results.specs.Words.{Mem}
use Rattle.relay_results.proofs.Lists.{true_or_false}
use Rattle.relay_delivery.specs.Bound.{tries_left}
use Rattle.relay_delivery.specs.Machine.{Config, Place}
use Rattle.relay_delivery.specs.Lane.{Entry, held_of}
use Rattle.relay_core.specs.State.{State, IsInOrder, next_batch, after_request}
use Rattle.relay_lane.specs.Turns.{Turn, Stays, Sends, Fails, Settles, Pauses, after_ticks, after_turn, MayTurn, after_turns, AllMayTurn, Worked, sends_in, ticks_in, requests, ticks, sends_of, sends_among}
use Rattle.relay_lane.specs.Laws.{Keeps, TurnsKeep, WorksOn, LeftAtMost, LeftIsTries}

-- ---- lists of turns

pub turns_after : (ts us : List Turn) (s : State) → after_turns (ts ++ us) s ≡ after_turns us (after_turns ts s)
turns_after [] us s = refl
turns_after (t ∷ ts) us s = turns_after ts us (after_turn t s)

pub turns_may : (going : Turn → State → Bool) (ts us : List Turn) (s : State) → AllMayTurn going ts s → AllMayTurn going us (after_turns ts s) → AllMayTurn going (ts ++ us) s
turns_may going [] us s a b = b
turns_may going (t ∷ ts) us s a b = (a.0, a.1, turns_may going ts us (after_turn t s) a.2 b)

pub works_on : WorksOn
works_on going s t u a b = record {
  turns = a.turns ++ b.turns;
  may = turns_may going a.turns b.turns s a.may (subst (AllMayTurn going b.turns) a.reached b.may);
  reached = b.reached ∙ ap (after_turns b.turns) a.reached ∙ sym (turns_after a.turns b.turns s);
}

pub worked_none : (going : Turn → State → Bool) (s t : State) → t ≡ s → Worked going s t
worked_none going s t e = record { turns = []; may = tt; reached = e }

pub worked_turn : (going : Turn → State → Bool) (x : Turn) (s t : State) → going x s ≡ true → MayTurn x s → t ≡ after_turn x s → Worked going s t
worked_turn going x s t g may e = record { turns = x ∷ []; may = (g, may, tt); reached = e }

-- ---- one turn

pub some_batch : (b : Option (List BatchItem)) → is_some b ≡ true → (items : List BatchItem) × (b ≡ Some items)
some_batch None e = absurd (cc)
some_batch (Some items) e = (items, refl)

pub stays_itself : (s : State) → Stays s s
stays_itself s = record { config = refl; closed = refl; taken = refl }

pub stays_as : (s t u : State) → Stays s t → u ≡ t → Stays s u
stays_as s t u a e = subst (Stays s) (sym e) a

pub stays_on : (s t u : State) → Stays s t → Stays t u → Stays s u
stays_on s t u a b = record { config = b.config ∙ a.config; closed = b.closed ∙ a.closed; taken = b.taken ∙ a.taken }

sent_keeps : (n : ℕ) (s : State) (b : Option (List BatchItem)) → is_some b ≡ true → Keeps 1 n s (after_ticks n (after_request s b))
sent_keeps n s None e = absurd (cc)
sent_keeps n s (Some items) e = record { requests = refl; clock = refl; stays = record { config = refl; closed = refl; taken = refl } }

pub turn_keeps : (t : Turn) (s : State) → MayTurn t s → Keeps (sends_in t) (ticks_in t) s (after_turn t s)
turn_keeps (Sends n) s may = sent_keeps n s (next_batch s) may
turn_keeps (Fails why n) s may = let k = sent_keeps n s (next_batch s) may in record { requests = k.requests; clock = k.clock; stays = record { config = k.stays.config; closed = k.stays.closed; taken = k.stays.taken } }
turn_keeps (Settles n a) s may = record { requests = omega arith; clock = refl; stays = record { config = refl; closed = refl; taken = refl } }
turn_keeps (Pauses n) s may = record { requests = omega arith; clock = refl; stays = record { config = refl; closed = refl; taken = refl } }

keeps_on : (m n p q : ℕ) (s t u : State) → Keeps m p s t → Keeps n q t u → Keeps (m + n) (p + q) s u
keeps_on m n p q s t u a b = record {
  requests = (let x = a.requests in let y = b.requests in omega (arith, x, y));
  clock = (let x = a.clock in let y = b.clock in omega (arith, x, y));
  stays = stays_on s t u a.stays b.stays;
}

all_keep : (going : Turn → State → Bool) (ts : List Turn) (s : State) → AllMayTurn going ts s → Keeps (requests ts) (ticks ts) s (after_turns ts s)
all_keep going [] s may = record { requests = omega arith; clock = omega arith; stays = stays_itself s }
all_keep going (t ∷ ts) s may = keeps_on (sends_in t) (requests ts) (ticks_in t) (ticks ts) s (after_turn t s) (after_turns ts (after_turn t s)) (turn_keeps t s may.1) (all_keep going ts (after_turn t s) may.2)

pub turns_keep : TurnsKeep
turns_keep going s t w = subst (Keeps (requests w.turns) (ticks w.turns) s) (sym w.reached) (all_keep going w.turns s w.may)

-- ---- the bound

of_waiting : (most n : ℕ) → n < most → sends_of most n None ≡ most - n
of_waiting most n lt = ⊎_elim {C = sends_of most n None ≡ most - n} (λ t. ap (λ b. if b then most - n else 1) t) (λ t. let z = ltb-false _ _ t in absurd (omega (arith, z, lt))) (true_or_false (nat_lt n most))

-- one that is in order has the attempts left that it shows
of_one : (most n : ℕ) (p : Option Place) → (p ≡ None → n < most) → sends_of most n p ≡ most - n
of_one most n None waits = of_waiting most n (waits refl)
of_one most n (Some p) waits = refl

module _ (s : State) where
  pub left_most : (es : List Entry) → ((e : Entry) → Mem e es → IsInOrder s e) → sends_among s.core.config.max es ≤ length es * (s.core.config.max + 14)
  left_most [] w = omega arith
  left_most (e ∷ es) w =
      let here = w e (inl refl) in
      let o = of_one s.core.config.max e.held.attempts e.held.flies here.waits in
      let a = here.attempts in
      let h = here.halved in
      let r = left_most es (λ x m. w x (inr m)) in
      let m = suc-mul (length es) (s.core.config.max + 14) in
      omega (arith, o, a, h, r, m)

  pub left_tries : (es : List Entry) → ((e : Entry) → Mem e es → IsInOrder s e) → sends_among s.core.config.max es ≡ tries_left s.core.config.max (held_of es)
  left_tries [] w = refl
  left_tries (e ∷ es) w =
      let o = of_one s.core.config.max e.held.attempts e.held.flies (w e (inl refl)).waits in
      let r = left_tries es (λ x m. w x (inr m)) in
      omega (arith, o, r)

pub left_at_most : LeftAtMost
left_at_most s l =
    let k = left_most s s.core.held l.in_order in
    let max = ap (λ (c : Config). c.max) l.config in
    let same : length s.core.held * (s.core.config.max + 14) ≡ length s.core.held * (s.config.attempts + 14) = ap (λ n. length s.core.held * (n + 14)) max in
    omega (arith, k, same)

pub left_is_tries : LeftIsTries
left_is_tries s l = left_tries s s.core.held l.in_order
