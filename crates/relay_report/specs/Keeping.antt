-- For the steps that tell which named operations are current: how many had been found when an operation that is not
-- named came last on a document.
use Rattle.std.specs.Prelude.{◌≡◌, ℕ, ◌≤◌, suc, nat_le, List, [], ◌∷◌, ◌++◌, length, if◌then◌else◌, None, false, unwrap_or}
use Rattle.std.specs.List.{list_any}
use Rattle.indexmap.specs.IndexMap.{IndexMap, get}
use Rattle.relay_action.specs.declared.key.DocKey.{DocKey}
use Rattle.relay_report.specs.declared.names.Named.{Named}
use Rattle.relay_report.specs.Current.{Seen, current, named, same_key}

-- those at or after the mark of their document; the first is at this place
abbrev pub alive : (DocKey → ℕ) → ℕ → List (DocKey × Named) → List (DocKey × Named)
alive mark i [] = []
alive mark i (p ∷ ps) = (if nat_le (mark p.0) i then p ∷ [] else []) ++ alive mark (suc i) ps

module _ {S : Type 0} where
  -- the mark of a document, 0 if it has none
  abbrev pub mark_of : IndexMap DocKey ℕ S → DocKey → ℕ
  mark_of marks key = unwrap_or (get same_key marks key) 0

  -- a document was given a mark, unless it had one; this changes no mark
  pub record GivesMark (old new : IndexMap DocKey ℕ S) (key : DocKey) : Type 0 where
    pub same : (other : DocKey) → mark_of new other ≡ mark_of old other
    pub marked : (other : DocKey) → get same_key new other ≡ None → (get same_key old other ≡ None) × (same_key other key ≡ false)

  -- of these operations, the named ones were found, and the marks tell which of them are current
  pub record Notes (marks : IndexMap DocKey ℕ S) (found : List (DocKey × Named)) (ops : List Seen) : Type 0 where
    pub found_are : found ≡ named ops
    pub alive_are : alive (mark_of marks) 0 found ≡ current ops
    pub within : (key : DocKey) → mark_of marks key ≤ length found
    pub marked : (key : DocKey) → get same_key marks key ≡ None → list_any (λ p. same_key key p.0) found ≡ false
