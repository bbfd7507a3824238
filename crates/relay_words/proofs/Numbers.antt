-- A word has one number.
use Rattle.std.proofs.Common.{◌≡◌, ℕ, List, sym, ◌∙◌}
use Rattle.relay_words.specs.Numbers.{IsNumber}

pub one_number : (text : List ℕ) (n m : ℕ) → IsNumber text n → IsNumber text m → n ≡ m
one_number text n m h k = sym h.value ∙ k.value
