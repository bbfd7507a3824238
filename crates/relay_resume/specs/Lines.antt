-- The lines of a text.
use Rattle.std.specs.Prelude.{ℕ, zero, suc, ◌+◌, ◌==◌, List, [], ◌∷◌, if◌then◌else◌}

-- how many bytes the first lines of a text have, with their line feeds: all, if it has no more lines
abbrev pub lines_length : ℕ → List ℕ → ℕ
lines_length zero text = 0
lines_length (suc n) [] = 0
lines_length (suc n) (b ∷ bs) = if b == 10 then 1 + lines_length n bs else 1 + lines_length (suc n) bs
