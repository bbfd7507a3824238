-- Ticks, one after another.
use Rattle.std.proofs.Common.{◌≡◌, ℕ, ◌+◌, ◌-◌, ◌<◌, ◌≤◌, Option, Some, true, false, sym, ap, ◌∙◌, subst, ⊎_elim, arith}
use Rattle.std.specs.Prelude.{IfSome, nat_lt, min, if◌then◌else◌}
use Rattle.std.proofs.Math.Nat.{min-eq_left, min-eq_right}
use Rattle.std.proofs.lemmas.Bool.{cases_lt}
use borrow.Author.Tests.{ltb-true, ltb-false}
use Rattle.relay_results.proofs.Lists.{true_or_false}
use Rattle.relay_core.specs.State.{State, last_tick, after_tick}
use Rattle.relay_lane.specs.Turns.{after_ticks}

at_clock : State → ℕ → State
at_clock s clock = record s { core = record s.core { clock = clock } }

pub tick_none : (s : State) → s ≡ after_ticks 0 s
unfolding at_clock
tick_none s = let e : s.core.clock ≡ s.core.clock + 0 = omega arith in ap (at_clock s) e

pub tick_more : (s t : State) (n : ℕ) → t ≡ after_ticks n s → s.core.clock + n < last_tick → after_tick t ≡ after_ticks (n + 1) s
unfolding at_clock
tick_more s t n e lt =
    let below : nat_lt (s.core.clock + n) last_tick ≡ true = ⊎_elim {C = nat_lt (s.core.clock + n) last_tick ≡ true} (λ y. y) (λ y. let k = ltb-false _ _ y in absurd (omega (arith, k, lt))) (true_or_false (nat_lt (s.core.clock + n) last_tick)) in
    let one : s.core.clock + n + 1 ≡ s.core.clock + (n + 1) = omega arith in
    ap after_tick e
    ∙ ap (λ b. at_clock s (if b then s.core.clock + n + 1 else s.core.clock + n)) below
    ∙ ap (at_clock s) one

-- ---- as many ticks as fit

pub min_low : (a b : ℕ) → a ≤ b → min a b ≡ a
min_low a b le = min-eq_left le

pub min_high : (a b : ℕ) → b ≤ a → min a b ≡ b
min_high a b le = min-eq_right le

-- how many of these ticks fit before the clock saturates
abbrev pub fitting : ℕ → State → ℕ
fitting n s = min (s.core.clock + n) last_tick - s.core.clock

pub fitting_none : (s : State) → s.core.clock ≤ last_tick → s ≡ after_ticks (fitting 0 s) s
fitting_none s le =
    let low = min_low (s.core.clock + 0) last_tick (omega (arith, le)) in
    let e : 0 ≡ fitting 0 s = omega (arith, low) in
    tick_none s ∙ ap (λ n. after_ticks n s) e

at_end : (s t : State) (n : ℕ) → t ≡ after_ticks n s → s.core.clock + n ≡ last_tick → after_tick t ≡ after_ticks n s
unfolding at_clock
at_end s t n e last =
    let above : nat_lt (s.core.clock + n) last_tick ≡ false = ⊎_elim {C = nat_lt (s.core.clock + n) last_tick ≡ false} (λ y. let k = ltb-true _ _ y in absurd (omega (arith, k, last))) (λ y. y) (true_or_false (nat_lt (s.core.clock + n) last_tick)) in
    ap after_tick e ∙ ap (λ b. at_clock s (if b then s.core.clock + n + 1 else s.core.clock + n)) above

pub fitting_more : (s t : State) (n : ℕ) → s.core.clock ≤ last_tick → t ≡ after_ticks (fitting n s) s → after_tick t ≡ after_ticks (fitting (n + 1) s) s
fitting_more s t n le e =
    ⊎_elim {C = after_tick t ≡ after_ticks (fitting (n + 1) s) s}
    (λ lt.
    let low = min_low (s.core.clock + n) last_tick (omega (arith, lt)) in
    let next = min_low (s.core.clock + (n + 1)) last_tick (omega (arith, lt)) in
    let same : fitting n s ≡ n = omega (arith, low) in
    let more : n + 1 ≡ fitting (n + 1) s = omega (arith, next) in
    tick_more s t n (e ∙ ap (λ k. after_ticks k s) same) lt ∙ ap (λ k. after_ticks k s) more)
    (λ ge.
    let high = min_high (s.core.clock + n) last_tick ge in
    let next = min_high (s.core.clock + (n + 1)) last_tick (omega (arith, ge)) in
    let last : s.core.clock + fitting n s ≡ last_tick = omega (arith, high, le) in
    let same : fitting n s ≡ fitting (n + 1) s = omega (arith, high, next) in
    at_end s t (fitting n s) e last ∙ ap (λ k. after_ticks k s) same)
    (cases_lt (s.core.clock + n) last_tick)

pub fitting_clock : (s t : State) (n : ℕ) → s.core.clock ≤ last_tick → t ≡ after_ticks (fitting n s) s → t.core.clock ≡ min (s.core.clock + n) last_tick
fitting_clock s t n le e =
    let least : s.core.clock ≤ min (s.core.clock + n) last_tick = ⊎_elim {C = s.core.clock ≤ min (s.core.clock + n) last_tick}
    (λ lt. let low = min_low (s.core.clock + n) last_tick (omega (arith, lt)) in omega (arith, low))
    (λ ge. let high = min_high (s.core.clock + n) last_tick ge in omega (arith, high, le))
    (cases_lt (s.core.clock + n) last_tick) in
    let sum : s.core.clock + fitting n s ≡ min (s.core.clock + n) last_tick = omega (arith, least) in
    ap (λ (x : State). x.core.clock) e ∙ sum

pub some_same : (x : Option ℕ) (m n : ℕ) → x ≡ Some m → x ≡ Some n → m ≡ n
some_same x m n a b = cc

pub if_some : (x : Option ℕ) (n : ℕ) (P : ℕ → Type 0) → x ≡ Some n → P n → IfSome x P
if_some x n P e p = subst (λ y. IfSome y P) (sym e) p
