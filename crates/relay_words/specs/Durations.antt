-- Words that are lengths of time: a number and a unit, `ms`, `s`, `m` or `h`.
use Rattle.std.specs.Prelude.{◌≡◌, ℕ, ◌*◌, ◌<◌, ◌≤◌, ◌+◌, ◌^◌, ◌⊎◌, List, ◌++◌, Option, None, Some, codes}
use Rattle.relay_words.specs.Numbers.{IsNumber}

-- the word does not end like this
abbrev pub EndsOtherwise : List ℕ → List ℕ → Type 0
EndsOtherwise word end = (front : List ℕ) → word ≡ front ++ end → ⊥

-- the number in a word, and how many milliseconds it counts: those of the unit after it, or of `unit` if none is named
abbrev pub SplitsUnit : ℕ → List ℕ → List ℕ → ℕ → Type 0
SplitsUnit unit word number scale =
    ((word ≡ number ++ codes "ms") × (scale ≡ 1))
    ⊎ ((word ≡ number ++ codes "s") × (scale ≡ 1000) × EndsOtherwise word (codes "ms"))
    ⊎ ((word ≡ number ++ codes "m") × (scale ≡ 60000))
    ⊎ ((word ≡ number ++ codes "h") × (scale ≡ 3600000))
    ⊎ ((word ≡ number) × (scale ≡ unit) × EndsOtherwise word (codes "s") × EndsOtherwise word (codes "m") × EndsOtherwise word (codes "h"))

-- the least number of units that cover so many milliseconds
pub record Covers (unit time k : ℕ) : Type 0 where
  pub enough : time ≤ k * unit
  pub least : k * unit < time + unit

-- a number was read, of less than 2^64 milliseconds; or there is none
abbrev pub ReadsNumber : ℕ → List ℕ → ℕ → Option ℕ → Type 0
ReadsNumber unit number scale (Some k) = (n : ℕ) × IsNumber number n × (n * scale < 2 ^ 64) × Covers unit (n * scale) k
ReadsNumber unit number scale None = (n : ℕ) → IsNumber number n → n * scale < 2 ^ 64 → ⊥

abbrev pub ReadsDuration : ℕ → List ℕ → Option ℕ → Type 0
ReadsDuration unit word result = (number : List ℕ) × (scale : ℕ) × SplitsUnit unit word number scale × ReadsNumber unit number scale result
