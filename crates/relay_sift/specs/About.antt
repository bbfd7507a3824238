-- What a fault of an action line is about, in words.
use Rattle.std.specs.Prelude.{◌≡◌, List, [], ◌++◌, ℕ, codes}
use Rattle.relay_ndjson.specs.declared.kind.LineKind.{LineKind}
use Rattle.relay_sift.specs.declared.asking.Subject.{Subject}
use Rattle.relay_sift.specs.declared.asking.Subject.TheVariants as subject
use Rattle.relay_sift.specs.Asking.{IsSubject}

-- a line, or nothing if there is no name
abbrev pub subject_line : Subject → List ℕ
subject_line subject.None = []
subject_line (subject.Action name) = codes "  the action " ++ name.now ++ codes " is not supported: index and delete are\n"
subject_line (subject.Member name) = codes "  the member " ++ name.now ++ codes " is not supported\n"

-- what is said beneath a fault of this kind, of this line
abbrev pub IsSaid : LineKind → List ℕ → List ℕ → Type 0
IsSaid k line text = (about : Subject) × IsSubject k line about × (text ≡ subject_line about)
