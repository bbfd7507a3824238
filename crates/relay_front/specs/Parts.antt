-- Texts in parts.
use Rattle.std.specs.Prelude.{ℕ, List, ◌==◌}
use Rattle.std.specs.List.{slice_split}

-- the parts of a text around each byte `c`: one more than there are of these bytes
abbrev pub parts_at : ℕ → List ℕ → List (List ℕ)
parts_at c bytes = slice_split (λ b. b == c) bytes
