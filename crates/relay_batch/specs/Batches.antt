-- What a batch is.
use Rattle.std.specs.Prelude.{◌≢◌, ℕ, ◌<◌, ◌≤◌, List, [], ◌∷◌, length, min, sum_by, AllPairs}
use Rattle.relay_batch.specs.declared.item.Limits.{Limits}
use Rattle.relay_batch.specs.declared.item.BatchItem.{BatchItem}

-- the bytes of all items, without an upper bound
abbrev pub bytes_of : List BatchItem → ℕ
bytes_of items = sum_by (λ i. i.bytes) items

-- no two items are of the same document
abbrev pub HasDistinctDocuments : List BatchItem → Type 0
HasDistinctDocuments items = AllPairs (λ x y. x.doc ≢ y.doc) items

-- the maximum number of items if there are two or more: the lowest of this count and their caps
abbrev pub count_of : ℕ → List BatchItem → ℕ
count_of count [] = count
count_of count (i ∷ is) = min i.cap (count_of count is)

-- a batch is within its limits: its documents are distinct, and two or more items are within the limit's count, the cap
-- of each, and the limit's bytes; a single item may exceed any of them
pub record IsBatch (limits : Limits) (items : List BatchItem) : Type 0 where
  pub distinct : HasDistinctDocuments items
  pub counted : 1 < length items → length items ≤ count_of limits.count items
  pub weighed : 1 < length items → bytes_of items ≤ limits.bytes
