use Rattle.std.proofs.Common.{◌≡◌, drop}
use Rattle.relay_sift.specs.Texts.{lines_of}
use Rattle.relay_sift.proofs.kept.after_lines.Given as goal

-- the lines so far are those before the rest
abbrev pub invariant-lines : goal.invariant-lines
invariant-lines l = lines_of l.rest ≡ drop l._line (lines_of l.bytes)
