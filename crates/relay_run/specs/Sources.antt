-- Where the operations of a producer are read from.
use Rattle.std.specs.Prelude.{ℕ, ◌==◌, List, Bool, true, false, not, ◌&&◌, Option, None, Some, is_some, nat_le, length, codes, bytes_eq, count_by}
use Rattle.relay_run.specs.declared.source.Source.{Source}
use Rattle.relay_run.specs.declared.source.Source.TheVariants as source

-- the name of standard input
abbrev pub standard_name : List ℕ
standard_name = codes "-"

-- whether a source is standard input
abbrev pub is_standard : Source → Bool
is_standard (source.File f) = false
is_standard (source.Pipe p) = false
is_standard (source.Standard s) = true

-- how many of these names equal this one
abbrev pub named_count : List ℕ → List (List ℕ) → ℕ
named_count wanted names = count_by (λ name. bytes_eq name wanted) names

-- whether a path, if there is one, is neither one of these nor that of standard input
abbrev pub stands_apart : Option (List ℕ) → List (List ℕ) → Bool
stands_apart None names = true
stands_apart (Some path) names = not (bytes_eq path standard_name) && (named_count path names == 0)

-- whether a path, if there is one, is this
abbrev pub is_given : List ℕ → Option (List ℕ) → Bool
is_given name None = false
is_given name (Some path) = bytes_eq path name

-- whether the path for the lines of invalid operations is neither one of these, nor that of standard input, nor that for
-- the reports
abbrev pub leaves_apart : Option (List ℕ) → Option (List ℕ) → List (List ℕ) → Bool
leaves_apart None report names = true
leaves_apart (Some path) report names = stands_apart (Some path) names && not (is_given path report)

-- whether a run may have a state at this path, if it has one: there is a file for the reports, neither are invalid operations
-- left out nor is the epoch taken from the index, there are at most 16 files, and no two of these paths are the same
abbrev pub may_resume : Option (List ℕ) → Option (List ℕ) → Bool → List (List ℕ) → Bool
may_resume None report differs names = true
may_resume (Some path) report differs names = not differs && is_some report && nat_le (length names) 16 && leaves_apart (Some path) report names
