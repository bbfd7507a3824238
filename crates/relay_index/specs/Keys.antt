-- The documents of an index, listed.
use Rattle.std.specs.Prelude.{◌≡◌, List, is_some, Bool}
use Rattle.std.specs.declared.cmp.Ordering.{Ordering}
use Rattle.std.specs.Ordering.{nat_cmp, ordering_then}
use Rattle.std.specs.Cmp.Lexicographic.{slice_cmp}
use Rattle.std.specs.List.{list_any}
use Rattle.std.specs.List.Sorted.{IsStrictlySortedBy}
use Rattle.relay_action.specs.declared.key.DocKey.{DocKey}
use Rattle.relay_results.specs.Documents.{Document, document_of, same_document}
use Rattle.relay_index.specs.States.{State, stored_version}

-- the order of documents: by the bytes of their index names, then of their ids
abbrev pub document_order : Document → Document → Ordering
document_order a b = ordering_then (slice_cmp nat_cmp a.index b.index) (slice_cmp nat_cmp a.id b.id)

abbrev pub key_order : DocKey → DocKey → Ordering
key_order a b = document_order (document_of a) (document_of b)

-- the two keys are of the same document
abbrev pub same_key : DocKey → DocKey → Bool
same_key a b = same_document (document_of a) (document_of b)

-- the document is that of one of these keys
abbrev pub is_among : Document → List DocKey → Bool
is_among k keys = list_any (λ key. same_document k (document_of key)) keys

-- The keys are exactly those of the documents to which a write was applied, including deleted ones, in order and
-- without repetition.
pub record AreKeys (s : State) (keys : List DocKey) : Type 0 where
  pub rising : IsStrictlySortedBy key_order keys
  pub written : (k : Document) → is_among k keys ≡ is_some (stored_version s k)
