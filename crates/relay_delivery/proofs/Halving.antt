-- How often a number can be halved.
use Rattle.std.proofs.Common.{◌≡◌, ◌≢◌, ⊎_elim, ℕ, zero, suc, ◌+◌, ◌/◌, ◌^◌, ◌<◌, ◌≤◌, Bool, true, false, ◌==◌, refl, sym, ap, subst, arith}
use Rattle.std.specs.Prelude.{if◌then◌else◌, nat_le}
use Rattle.std.proofs.lemmas.Bool.{leb-true, leb-false, eqb-false}
use Rattle.std.proofs.Math.Nat.{pow-succ'}
use Rattle.relay_delivery.specs.Bound.{halvings_in, halvings}
use Rattle.relay_results.proofs.Lists.{true_or_false, equal}

not_zero : (n : ℕ) → n ≢ 0 → 1 ≤ n
not_zero zero ne = absurd (ne refl)
not_zero (suc n) ne = omega arith

-- by whether it is 0
by_zero : (n : ℕ) (P : Bool → Type 0) → (n ≡ 0 → P true) → (1 ≤ n → P false) → P (n == 0)
by_zero n P z s = ⊎_elim {C = P (n == 0)}
    (λ t. subst P (sym t) (z (equal n 0 t)))
    (λ f. subst P (sym f) (s (not_zero n (eqb-false n 0 f))))
    (true_or_false (n == 0))

-- no more looks are needed than the number is
looks_enough : (k l n : ℕ) → n ≤ k → n ≤ l → halvings_in k n ≡ halvings_in l n
looks_enough zero zero n a b = refl
looks_enough zero (suc l) n a b = by_zero n (λ t. 0 ≡ (if t then 0 else suc (halvings_in l (n / 2)))) (λ _. refl) (λ s. absurd (omega (arith, a, s)))
looks_enough (suc k) zero n a b = by_zero n (λ t. (if t then 0 else suc (halvings_in k (n / 2))) ≡ 0) (λ _. refl) (λ s. absurd (omega (arith, b, s)))
looks_enough (suc k) (suc l) n a b = by_zero n (λ t. (if t then 0 else suc (halvings_in k (n / 2))) ≡ (if t then 0 else suc (halvings_in l (n / 2)))) (λ _. refl)
    (λ s. ap suc (looks_enough k l (n / 2) (omega (arith, a, s)) (omega (arith, b, s))))

-- half of it can be halved once less
halved_once : (n : ℕ) → 1 ≤ n → halvings n ≡ halvings (n / 2) + 1
halved_once zero s = absurd (omega (arith, s))
halved_once (suc n) s = by_zero (suc n) (λ t. (if t then 0 else suc (halvings_in n (suc n / 2))) ≡ halvings_in (suc n / 2) (suc n / 2) + 1)
    (λ z. absurd (omega (arith, s, z)))
    (λ _. let e = looks_enough n (suc n / 2) (suc n / 2) (omega arith) (omega arith) in omega (arith, e))

-- a smaller one cannot be halved more often
looks-less : (k m n : ℕ) → m ≤ n → halvings_in k m ≤ halvings_in k n
looks-less zero m n le = omega arith
looks-less (suc k) m n le = by_zero m (λ t. (if t then 0 else suc (halvings_in k (m / 2))) ≤ (if n == 0 then 0 else suc (halvings_in k (n / 2)))) (λ _. omega arith)
    (λ s. by_zero n (λ t. suc (halvings_in k (m / 2)) ≤ (if t then 0 else suc (halvings_in k (n / 2)))) (λ z. absurd (omega (arith, le, s, z)))
    (λ _. let r = looks-less k (m / 2) (n / 2) (omega (arith, le)) in omega (arith, r)))

pub halvings-less : (m n : ℕ) → m ≤ n → halvings m ≤ halvings n
halvings-less m n le = let e = looks_enough m n m (omega arith) le in let l = looks-less n m n le in omega (arith, e, l)

-- so a half of what is no greater can be halved once less
pub halvings-half : (n cap : ℕ) → 2 ≤ n → n ≤ cap → halvings (n / 2) + 1 ≤ halvings cap
halvings-half n cap some le = let e = halved_once n (omega (arith, some)) in let l = halvings-less n cap le in omega (arith, e, l)

below_by : (b : Bool) (m n : ℕ) → halvings m + 1 ≤ halvings n → nat_le m n ≡ b → m ≤ n
below_by true m n lt e = leb-true m n e
below_by false m n lt e = let g = leb-false m n e in let l = halvings-less n m (omega (arith, g)) in absurd (omega (arith, lt, l))

-- what can be halved less often is smaller
pub halvings-below : (m n : ℕ) → halvings m + 1 ≤ halvings n → m ≤ n
halvings-below m n lt = below_by (nat_le m n) m n lt refl

-- a number below 2 to the j can be halved j times at most
few_looks : (j k n : ℕ) → n < 2 ^ j → halvings_in k n ≤ j
few_looks j zero n lt = omega arith
few_looks zero (suc k) n lt = by_zero n (λ t. (if t then 0 else suc (halvings_in k (n / 2))) ≤ 0) (λ _. omega arith) (λ s. let p : 2 ^ 0 ≡ 1 = refl in absurd (omega (arith, lt, s, p)))
few_looks (suc j) (suc k) n lt = by_zero n (λ t. (if t then 0 else suc (halvings_in k (n / 2))) ≤ suc j) (λ _. omega arith)
    (λ s. let p = pow-succ' 2 j in let r = few_looks j k (n / 2) (omega (arith, lt, p)) in omega (arith, r))

pub halvings_few : (j n : ℕ) → n < 2 ^ j → halvings n ≤ j
halvings_few j n lt = few_looks j n n lt
