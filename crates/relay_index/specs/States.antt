-- What an index has: for each document the writes that it applied, and their number over all documents.
use Rattle.std.specs.Prelude.{◌≡◌, ◌≢◌, ℕ, ◌+◌, ◌-◌, min, ◌<◌, ◌≤◌, List, [], ◌∷◌, length, slice_get, Option, None, Some, is_some, option_map, option_and_then, unwrap_or, Bool, false}
use Rattle.std.specs.Map.{lookup}
use Rattle.relay_action.specs.Streams.{most}
use Rattle.relay_action.specs.declared.key.DocKey.{DocKey}
use Rattle.relay_action.specs.declared.write.Write.{Write}
use Rattle.relay_results.specs.Documents.{Document, document_of, same_document, source_of}

-- Each document to which a write was applied, with those writes, in order; the number of applied writes, over all
-- documents, which saturates at 2^64 - 1; and whether conflicts state their versions.
pub record State : Type 0 where
  pub documents : List (DocKey × List Write)
  pub count : ℕ
  pub states : Bool

-- nothing was applied
abbrev pub fresh : State
fresh = record { documents = []; count = 0; states = false }

-- the list of a document: the writes that were applied to it, in order
abbrev pub applied_among : List (DocKey × List Write) → Document → List Write
applied_among documents k = unwrap_or (lookup (λ key. same_document k (document_of key)) documents) []

abbrev pub applied_writes : State → Document → List Write
applied_writes s k = applied_among s.documents k

-- the last write of a list
abbrev pub last_of : List Write → Option Write
last_of ws = slice_get ws (length ws - 1)

-- the stored version of a document: that of the last write applied to it. A deleted document keeps its version
-- forever.
abbrev pub stored_version : State → Document → Option ℕ
stored_version s k = option_map (λ (w : Write). w.version) (last_of (applied_writes s k))

-- the source of a document: that of the last write applied to it; none if that was a delete, or if no write was
-- applied
abbrev pub live : State → Document → Option (List ℕ)
live s k = option_and_then (λ (w : Write). source_of w.action) (last_of (applied_writes s k))

abbrev pub is_live : State → Document → Bool
is_live s k = is_some (live s k)

-- ---- what every index keeps

-- each of the writes is of this document
abbrev pub AreOf : Document → List Write → Type 0
AreOf k [] = Unit {0}
AreOf k (w ∷ ws) = (document_of w.key ≡ k) × AreOf k ws

-- the versions of the writes increase strictly, each above this one, if one is given
abbrev pub RiseFrom : Option ℕ → List Write → Type 0
RiseFrom low [] = Unit {0}
RiseFrom None (w ∷ ws) = RiseFrom (Some w.version) ws
RiseFrom (Some low) (w ∷ ws) = (low < w.version) × RiseFrom (Some w.version) ws

-- no list is empty
abbrev pub NoneEmpty : List (DocKey × List Write) → Type 0
NoneEmpty [] = Unit {0}
NoneEmpty (e ∷ es) = (e.1 ≢ []) × NoneEmpty es

-- how many writes the lists have, over all documents
abbrev pub total : List (DocKey × List Write) → ℕ
total [] = 0
total (e ∷ es) = length e.1 + total es

-- a document's list has writes of that document alone, at least one, and their versions rise strictly; the count is
-- that of the writes in all lists, and saturates at 2^64 - 1
pub record IsIndex (s : State) : Type 0 where
  pub begun : NoneEmpty s.documents
  pub of_document : (k : Document) → AreOf k (applied_writes s k)
  pub rising : (k : Document) → RiseFrom None (applied_writes s k)
  pub counted : s.count ≡ min (total s.documents) most

-- the highest stored version: some document has it and none has a higher one; none if no version is stored
abbrev pub IsHighest : State → Option ℕ → Type 0
IsHighest s None = (k : Document) → stored_version s k ≡ None
IsHighest s (Some version) =
    ((k : Document) × (stored_version s k ≡ Some version)) × ((k : Document) (v : ℕ) → stored_version s k ≡ Some v → v ≤ version)
