-- Results of calls, and of calls whose error was mapped.
use Rattle.std.proofs.Common.{◌≡◌, true, false, Result, Ok, Err, refl, ap}
use Rattle.std.specs.Prelude.{MatchResult, is_ok}

-- ---- what a call says of its result, by cases

pub by_cases : {T E : Type 0} (P : T → Type 0) (Q : E → Type 0) (r : Result T E) → ((x : T) → r ≡ Ok x → P x) → ((e : E) → r ≡ Err e → Q e) → MatchResult r P Q
by_cases P Q (Ok x) p q = p x refl
by_cases P Q (Err e) p q = q e refl

pub err_of : {T E : Type 0} (P : T → Type 0) (Q : E → Type 0) (r : Result T E) → MatchResult r P Q → false ≡ is_ok r → (e : E) × (r ≡ Err e) × Q e
err_of P Q (Ok x) h ok = absurd (cc)
err_of P Q (Err e) h ok = (e, refl, h)

-- ---- a result whose error was mapped

-- it was the same value before
pub same_ok : {T E F : Type 0} (Q : E → Type 0) (r : Result T E) (s : Result T F) (x : T) → MatchResult r (λ y. s ≡ Ok y) Q → true ≡ is_ok r → s ≡ Ok x → r ≡ Ok x
same_ok Q (Ok y) s x h ok is = let same : y ≡ x = cc in ap Ok same
same_ok Q (Err e) s x h ok is = absurd (cc)
