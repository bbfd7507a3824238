-- A call whose error was mapped.
use Rattle.std.proofs.Common.{◌≡◌, true, Result, Ok, Err, ap}
use Rattle.std.specs.Prelude.{MatchResult, is_ok}

-- it returned the same value before
pub same_ok : {T E F : Type 0} (Q : E → Type 0) (r : Result T E) (s : Result T F) (x : T) → MatchResult r (λ y. s ≡ Ok y) Q → true ≡ is_ok r → s ≡ Ok x → r ≡ Ok x
same_ok Q (Ok y) s x h ok is = let same : y ≡ x = cc in ap Ok same
same_ok Q (Err e) s x h ok is = absurd (cc)
