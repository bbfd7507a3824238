-- Texts that are added piece by piece.
use Rattle.std.proofs.Common.{◌≡◌, ℕ, if◌then◌else◌, Ok, Err, OnOk, List, ◌++◌, ap, sym, ◌∙◌, append_assoc}
use Rattle.std.specs.Prelude.{Result, is_ok}
use Rattle.std.specs.declared.alloc.AllocError.{AllocError}

-- two more pieces
pub more : (new mid text a b : List ℕ) → new ≡ mid ++ b → mid ≡ text ++ a → new ≡ text ++ (a ++ b)
more new mid text a b n m = n ∙ ap (λ t. t ++ b) m ∙ append_assoc text a b

-- a text whose front was added, and its last part unless an allocation failed
pub with_end : (r : Result Unit AllocError) (new mid text front end : List ℕ) → new ≡ (if is_ok r then mid ++ end else mid) → mid ≡ text ++ front → OnOk r (new ≡ text ++ (front ++ end))
with_end (Ok x) new mid text front end n m = n ∙ ap (λ t. t ++ end) m ∙ append_assoc text front end
with_end (Err e) new mid text front end n m = tt

-- the same if the last part was added by a call that says so
pub with_last : (r : Result Unit AllocError) (new mid text front end : List ℕ) → OnOk r (new ≡ mid ++ end) → mid ≡ text ++ front → OnOk r (new ≡ text ++ (front ++ end))
with_last (Ok x) new mid text front end n m = n ∙ ap (λ t. t ++ end) m ∙ append_assoc text front end
with_last (Err e) new mid text front end n m = tt

-- words and a number more
pub two_more : (new mid text front words number : List ℕ) → new ≡ mid ++ (words ++ number) → mid ≡ text ++ front → new ≡ text ++ ((front ++ words) ++ number)
two_more new mid text front words number n m = n ∙ sym (append_assoc mid words number) ∙ ap (λ t. (t ++ words) ++ number) m ∙ ap (λ t. t ++ number) (append_assoc text front words) ∙ append_assoc text (front ++ words) number

-- the same if they were added last
pub with_count : (r : Result Unit AllocError) (new mid text front words number : List ℕ) → OnOk r (new ≡ mid ++ (words ++ number)) → mid ≡ text ++ front → OnOk r (new ≡ text ++ ((front ++ words) ++ number))
with_count (Ok x) new mid text front words number n m = two_more new mid text front words number n m
with_count (Err e) new mid text front words number n m = tt
