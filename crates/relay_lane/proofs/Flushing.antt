-- A lane that was flushed, and how far its config goes.
use Rattle.std.proofs.Common.{◌≡◌, ℕ, ◌+◌, ◌-◌, ◌<◌, List, [], ◌∷◌, length, Option, Some, None, Bool, true, refl, sym, ap, ◌∙◌, subst, ⊎_elim, inr, arith}
use Rattle.std.specs.Prelude.{◌==◌, nat_le, min, if◌then◌else◌}
use Rattle.relay_batch.specs.declared.item.BatchItem.{BatchItem}
use Rattle.relay_results.specs.Outside.{Outside}
use Rattle.relay_results.proofs.Lists.{true_or_false, equal, and_both}
use Rattle.relay_core.specs.declared.config.RelayConfig.{RelayConfig}
use Rattle.relay_results.specs.Words.{Mem}
use Rattle.relay_delivery.specs.Lane.{Entry}
use Rattle.relay_core.specs.State.{State, IsLane, next_batch, after_request, after_flush, mark_of}
use Rattle.relay_lane.specs.Turns.{Turn, Sends, Fails, Settles, Pauses, after_turn, after_turns, AllMayTurn, Worked, holds, holds_some, is_full, sends_first}
use Rattle.relay_lane.specs.Steps.{IsPressed}
use Rattle.relay_lane.specs.Exchanges.{Exchange}
use Rattle.relay_lane.specs.Delivers.{TookTurn, WorkedOn}
use Rattle.relay_lane.proofs.Waiting.{within_test}

mark_is : (s : State) → 0 < s.core.taken → mark_of s ≡ s.core.config.first + min s.core.taken s.core.config.deals - 1
mark_is s some = ⊎_elim {C = mark_of s ≡ s.core.config.first + min s.core.taken s.core.config.deals - 1}
    (λ t. let e = equal s.core.taken 0 t in absurd (omega (arith, e, some)))
    (λ t. ap (λ b. if b then s.mark else s.core.config.first + min s.core.taken s.core.config.deals - 1) t)
    (true_or_false (s.core.taken == 0))

not_empty : (e : Entry) (es : List Entry) → Mem e es → 0 < length es
not_empty e [] m = absurd m
not_empty e (x ∷ es) m = omega arith

pub flushed_pressed : (s : State) → IsLane s → IsPressed (after_flush s)
flushed_pressed s l e m =
    let d = (l.in_order e m).assigned in
    let some = l.assigned in
    let n = not_empty e s.core.held m in
    let k = mark_is s (omega (arith, some, n)) in
    inr (omega (arith, d, k))

-- ---- the config stays

asked_config : (s : State) (b : Option (List BatchItem)) → (after_request s b).config ≡ s.config
asked_config s None = refl
asked_config s (Some items) = refl

turn_config : (t : Turn) (s : State) → (after_turn t s).config ≡ s.config
turn_config (Sends n) s = asked_config s (next_batch s)
turn_config (Fails why n) s = asked_config s (next_batch s)
turn_config (Settles n a) s = refl
turn_config (Pauses n) s = refl

turns_config : (ts : List Turn) (s : State) → (after_turns ts s).config ≡ s.config
turns_config [] s = refl
turns_config (t ∷ ts) s = turns_config ts (after_turn t s) ∙ turn_config t s

pub worked_config : (going : Turn → State → Bool) (s t : State) → Worked going s t → t.config ≡ s.config
worked_config going s t w = ap (λ (x : State). x.config) w.reached ∙ turns_config w.turns s

all_full : (n : ℕ) (ts : List Turn) (s : State) → n ≡ s.config.max_held → AllMayTurn (holds n) ts s → AllMayTurn is_full ts s
all_full n [] s e may = tt
all_full n (t ∷ ts) s e may = (
  subst (λ k. holds k t s ≡ true) e may.0,
  may.1,
  all_full n ts (after_turn t s) (e ∙ sym (ap (λ (c : RelayConfig). c.max_held) (turn_config t s))) may.2,
)

pub worked_full : {S : Type 0} (d : Bool) (fits : S → Outside → Type 0) (carries : S → Exchange → S → Type 0) (v w : S) (n : ℕ) (s t : State) → n ≡ s.config.max_held → WorkedOn d fits carries (holds n) v w s t → WorkedOn d fits carries is_full v w s t
worked_full d fits carries v w n s t e x = record { worked = record { turns = x.worked.turns; may = all_full n x.worked.turns s e x.worked.may; reached = x.worked.reached }; delivers = x.delivers }

all_some : (ts : List Turn) (s : State) → AllMayTurn (holds 1) ts s → AllMayTurn holds_some ts s
all_some [] s may = tt
all_some (t ∷ ts) s may = (may.0, may.1, all_some ts (after_turn t s) may.2)

pub worked_some : {S : Type 0} (d : Bool) (fits : S → Outside → Type 0) (carries : S → Exchange → S → Type 0) (v w : S) (s t : State) → WorkedOn d fits carries (holds 1) v w s t → WorkedOn d fits carries holds_some v w s t
worked_some d fits carries v w s t x = record { worked = record { turns = x.worked.turns; may = all_some x.worked.turns s x.worked.may; reached = x.worked.reached }; delivers = x.delivers }

-- a turn of a lane that holds something
pub took_some : {S : Type 0} (d : Bool) (fits : S → Outside → Type 0) (carries : S → Exchange → S → Type 0) (v w : S) (s t : State) → 0 < length s.core.held → TookTurn d fits carries sends_first v w s t → TookTurn d fits carries holds_some v w s t
took_some d fits carries v w s t some x = record { turn = x.turn; goes = and_both (nat_le 1 (length s.core.held)) (sends_first x.turn s) (within_test 1 (length s.core.held) (omega (arith, some))) x.goes; may = x.may; reached = x.reached; delivers = x.delivers }
