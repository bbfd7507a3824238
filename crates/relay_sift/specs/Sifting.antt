-- A sifted reader: what it passes on, and what it has still to write.
use Rattle.std.specs.Prelude.{◌≡◌, ℕ, List, [], ◌++◌, drop, Bool, false, Option, option_map, if◌then◌else◌}
use Rattle.relay_action.specs.Streams.{one_more}
use Rattle.std.specs.Io.KnownBytes.{append_known, prepend_known, IsAtEnd}
use Rattle.relay_ndjson.specs.declared.kind.InputFault.{InputFault}
use Rattle.relay_sift.specs.Portions.{left_out_by, passed_of, sifted, sifted_out}

-- what the reader inside has left, if it shows that, and what the file was given; the position of the input among
-- several, and its default index; what was read and not used yet, the number of lines before that, and whether the
-- reader has ended; whether all that follows is passed on; what is passed on next; and the number of failed calls
pub record Sifting : Type 0 where
  pub left : Option (List ℕ)
  pub given : Option (List ℕ)
  pub producer : ℕ
  pub default : Option (List ℕ)
  pub held : List ℕ
  pub count : ℕ
  pub ended : Bool
  pub passing : Bool
  pub out : List ℕ
  pub failed : ℕ

-- a sifted reader that has read nothing
abbrev pub start : Option (List ℕ) → Option (List ℕ) → ℕ → Option (List ℕ) → Sifting
start left given producer default =
    record { left = left; given = given; producer = producer; default = default; held = []; count = 0; ended = false; passing = false; out = []; failed = 0 }

-- what is passed on if the reader inside has this left
abbrev pub coming_with : Sifting → List ℕ → List ℕ
coming_with s left = s.out ++ (if s.passing then s.held ++ left else sifted s.default s.count (s.held ++ left))

-- what is written until then
abbrev pub owed_with : Sifting → List ℕ → List ℕ
owed_with s left = if s.passing then [] else sifted_out s.producer s.default s.count (s.held ++ left)

-- what is passed on, and what is written until then, if the reader inside shows what it has left
abbrev pub coming : Sifting → Option (List ℕ)
coming s = option_map (λ left. coming_with s left) s.left

abbrev pub owed : Sifting → Option (List ℕ)
owed s = option_map (λ left. owed_with s left) s.left

-- nothing is passed on any more, and nothing is written
abbrev pub IsOver : Sifting → Type 0
IsOver s = IsAtEnd (coming s) × IsAtEnd (owed s)

-- what was written is what is no longer owed
pub record Pays (old new : Sifting) : Type 0 where
  pub text : List ℕ
  pub paid : owed old ≡ prepend_known text (owed new)
  pub written : new.given ≡ append_known old.given text

-- ---- private steps

-- nothing was passed on, and what was written is paid
pub record Advances (old new : Sifting) : Type 0 where
  pub same : coming new ≡ coming old
  pub pays : Pays old new
  pub failed : new.failed ≡ old.failed

-- nothing was passed on; what was written is not said
abbrev pub Holds : Sifting → Sifting → Type 0
Holds old new = (coming new ≡ coming old) × (new.failed ≡ old.failed)

-- a text was written; or some part of it was
abbrev pub after_text : List ℕ → Sifting → Sifting
after_text text s = record s { given = append_known s.given text }

abbrev pub after_writing : Sifting → Option (List ℕ) → Sifting
after_writing s given = record s { given = given }

-- what becomes of the lines of a portion was passed on and written
abbrev pub after_portion : List ℕ → Option InputFault → Sifting → Sifting
after_portion lines fault s =
    record s { out = s.out ++ passed_of lines fault; given = append_known s.given (left_out_by s.producer lines fault) }

-- this many bytes were passed on
abbrev pub after_out : ℕ → Sifting → Sifting
after_out n s = record s { out = drop n s.out }

abbrev pub after_failure : Sifting → Sifting
after_failure s = record s { failed = one_more s.failed }
