-- What an answer keeps of the invariant.
use Rattle.std.proofs.Common.{◌≡◌, ℕ, ◌+◌, ◌-◌, ◌≤◌, List, [], ◌∷◌, ◌++◌, Option, Some, None, Bool, true, false, ◌==◌, ◌||◌, refl, sym, ap, ◌∙◌, subst, ⊎_elim, arith, drop}
use Rattle.std.specs.Prelude.{if◌then◌else◌, not, map, slice_get, filter}
use Rattle.relay_action.specs.declared.write.Write.{Write}
use Rattle.relay_results.specs.declared.outcome.Outcome.{Outcome}
use Rattle.relay_results.specs.Fates.{Fate, Flies, Applied, Already, Retried, Halved, Reported}
use Rattle.relay_delivery.specs.Lane.{is_other}
use Rattle.relay_results.proofs.Lists.{true_or_false, equal, equal_test}
use Rattle.relay_held.specs.declared.kept.Kept.{Kept}
use Rattle.relay_core.specs.declared.fates.Way.{Way}
use Rattle.relay_flight.specs.declared.request.Request.{Request}
use Rattle.relay_flight.specs.InFlight.{AreNumbered, others}
use Rattle.relay_held.specs.declared.kept.Spot.{Spot}
use Rattle.relay_core.specs.Walk.{flies_here, fate_met, met_maybe, kept_walk}
use Rattle.relay_core.specs.Memory.{writes_in, flying_of, Given, further, rest_if, IsMet, Carries}

-- the writes of the other requests stay
pub without_other : (xs : List Request) (n m : ℕ) → (m == n) ≡ false → writes_in (others n xs) m ≡ writes_in xs m
without_other [] n m t = refl
without_other (x ∷ xs) n m t = ⊎_elim {C = writes_in (others n (x ∷ xs)) m ≡ writes_in (x ∷ xs) m}
    (λ u.
    let ne : (x.number == m) ≡ false = ⊎_elim {C = (x.number == m) ≡ false} (λ v. let k = equal_test m n (sym (equal x.number m v) ∙ equal x.number n u) in absurd (cc)) (λ v. v) (true_or_false (x.number == m)) in
    ap (λ b. writes_in (if not b then x ∷ others n xs else others n xs) m) u ∙ without_other xs n m t ∙ sym (ap (λ b. if b then x.writes.items else writes_in xs m) ne))
    (λ u. ap (λ b. writes_in (if not b then x ∷ others n xs else others n xs) m) u ∙ ap (λ ws. if x.number == m then x.writes.items else ws) (without_other xs n m t))
    (true_or_false (x.number == n))

pub given_any : {X : Type 0} (b : Bool) → X → Given b X
given_any true x = x
given_any false x = tt

pub elsewhere : (p : Option Spot) (n m : ℕ) → flies_here n p ≡ true → (m == n) ≡ false → flies_here m p ≡ false
elsewhere None n m t ne = refl
elsewhere (Some s) n m t ne = ⊎_elim {C = (s.request == m) ≡ false} (λ v. let k = equal_test m n (sym (equal s.request m v) ∙ equal s.request n t) in absurd (cc)) (λ v. v) (true_or_false (s.request == m))

-- a request that flies elsewhere carries what it carried
met_past : (clock n m p : ℕ) (x : Fate) (h : Kept) (w : Option Write) (rest : List Kept) (vs : List Write) → (m == n) ≡ false → flies_here n h.flies ≡ true → Carries m p rest vs
    → Carries m p (met_maybe clock x w (h ∷ []) ++ rest) vs
met_past clock n m p x h None rest vs ne t c = c
met_past clock n m p Flies h (Some w) rest vs ne t c =
    let other : flies_here m h.flies ≡ false = elsewhere h.flies n m t ne in
    subst (λ b. Given b (IsMet m p h vs) × Carries m (further b p) rest (rest_if b vs)) (sym other) (tt, c)
met_past clock n m p Applied h (Some w) rest vs ne t c = c
met_past clock n m p Already h (Some w) rest vs ne t c = c
met_past clock n m p Retried h (Some w) rest vs ne t c = (tt, c)
met_past clock n m p (Halved cap) h (Some w) rest vs ne t c = (tt, c)
met_past clock n m p (Reported cause) h (Some w) rest vs ne t c = c

pub carries_past : (allowed : Kept → ℕ) (clock n m : ℕ) (whole : Way) → (m == n) ≡ false → (hs : List Kept) (p : ℕ) (ws : List Write) (os : List Outcome) (vs : List Write) → Carries m p hs vs
    → Carries m p (kept_walk hs allowed clock n whole ws os) vs
carries_past allowed clock n m whole ne [] p ws os vs c = c
carries_past allowed clock n m whole ne (h ∷ hs) p ws os vs c = ⊎_elim {C = Carries m p (kept_walk (h ∷ hs) allowed clock n whole ws os) vs}
    (λ t.
    let other : flies_here m h.flies ≡ false = elsewhere h.flies n m t ne in
    let c1 : Carries m p hs vs = subst (λ b. Carries m (further b p) hs (rest_if b vs)) other c.1 in
    subst (λ b. Carries m p (if b then met_maybe clock (fate_met allowed whole h os) (slice_get ws 0) (h ∷ []) ++ kept_walk hs allowed clock n whole (drop 1 ws) (drop 1 os) else h ∷ kept_walk hs allowed clock n whole ws os) vs) (sym t)
    (met_past clock n m p (fate_met allowed whole h os) h (slice_get ws 0) _ vs ne t (carries_past allowed clock n m whole ne hs p (drop 1 ws) (drop 1 os) vs c1)))
    (λ t.
    subst (λ b. Carries m p (if b then met_maybe clock (fate_met allowed whole h os) (slice_get ws 0) (h ∷ []) ++ kept_walk hs allowed clock n whole (drop 1 ws) (drop 1 os) else h ∷ kept_walk hs allowed clock n whole ws os) vs) (sym t)
    (c.0, carries_past allowed clock n m whole ne hs (further (flies_here m h.flies) p) ws os (rest_if (flies_here m h.flies) vs) c.1))
    (true_or_false (flies_here n h.flies))

pub or_false : (a b : Bool) → (a || b) ≡ false → (a ≡ false) × (b ≡ false)
or_false true b e = absurd (cc)
or_false false b e = (refl, e)

-- numbers from 1 are the same if they are the same from 0
pub one_less : (a b : ℕ) → 1 ≤ a → 1 ≤ b → (a - 1 == b - 1) ≡ (a == b)
one_less a b le le' = ⊎_elim {C = (a - 1 == b - 1) ≡ (a == b)}
    (λ t. let e = equal a b t in equal_test (a - 1) (b - 1) (ap (λ k. k - 1) e) ∙ sym t)
    (λ t. ⊎_elim {C = (a - 1 == b - 1) ≡ (a == b)} (λ u. let e = equal (a - 1) (b - 1) u in let k = equal_test a b (omega (arith, e, le, le')) in absurd (cc)) (λ u. u ∙ sym t) (true_or_false (a - 1 == b - 1)))
    (true_or_false (a == b))

-- without one number, as the state has it
pub without_seen : (least next : ℕ) (xs : List Request) (n : ℕ) → 1 ≤ least → AreNumbered least next xs → 1 ≤ n → map flying_of (others n xs) ≡ filter (is_other (n - 1)) (map flying_of xs)
without_seen least next [] n from a le = refl
without_seen least next (x ∷ xs) n from a le =
    let low = a.0 in
    let ih = without_seen (x.number + 1) next xs n (omega arith) a.2 le in
    let same = one_less x.number n (omega (arith, from, low)) le in
    ⊎_elim {C = map flying_of (others n (x ∷ xs)) ≡ filter (is_other (n - 1)) (map flying_of (x ∷ xs))}
    (λ u.
    ap (λ b. map flying_of (if not b then x ∷ others n xs else others n xs)) u ∙ ih
    ∙ sym (ap (λ b. if not b then flying_of x ∷ filter (is_other (n - 1)) (map flying_of xs) else filter (is_other (n - 1)) (map flying_of xs)) (same ∙ u)))
    (λ u.
    ap (λ b. map flying_of (if not b then x ∷ others n xs else others n xs)) u ∙ ap (λ ys. flying_of x ∷ ys) ih
    ∙ sym (ap (λ b. if not b then flying_of x ∷ filter (is_other (n - 1)) (map flying_of xs) else filter (is_other (n - 1)) (map flying_of xs)) (same ∙ u)))
    (true_or_false (x.number == n))
