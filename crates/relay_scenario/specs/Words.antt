-- The words of a line: they are separated by one space (the byte 32), and contain none.
use Rattle.std.specs.Prelude.{◌≡◌, ℕ, List, ◌∷◌, ◌++◌, ◌==◌, false}
use Rattle.std.specs.List.{list_any}

-- the text contains no space
abbrev pub IsWord : List ℕ → Type 0
IsWord text = list_any (λ b. b == 32) text ≡ false

-- the text is a word, a space and the rest
pub record Begins (text word rest : List ℕ) : Type 0 where
  pub is_word : IsWord word
  pub whole : text ≡ word ++ 32 ∷ rest
