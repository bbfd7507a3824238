-- Places of an input that is read from a mark on.
use Rattle.std.specs.Prelude.{ℕ, ◌+◌, ◌^◌, ◌-◌, min, List}
use Rattle.relay_resume.specs.declared.mark.Mark.{Mark}
use Rattle.relay_resume.specs.declared.mark.Place.{Place}
use Rattle.relay_resume.specs.Lines.{lines_length}

-- a number of 64 bits, which saturates
abbrev pub saturating : ℕ → ℕ
saturating n = min n (2 ^ 64 - 1)

-- the place so many lines, which have so many bytes, behind a mark
abbrev pub place_behind : Mark → (line used : ℕ) → Place
place_behind start line used = record { offset = saturating (start.offset + used); line = saturating (start.line + line) }

-- the place after the first lines of what is read from a mark on
abbrev pub place_after : Mark → ℕ → List ℕ → Place
place_after start line text = place_behind start line (lines_length line text)
