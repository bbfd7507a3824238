-- The held list, and the queues of documents that it is made of.
use Rattle.std.specs.Prelude.{◌≡◌, ℕ, ◌+◌, ◌<◌, List, [], ◌∷◌, Option, Some, None, unwrap_or, option_map, Bool, cond, not, ◌&&◌, nat_lt, nat_le, min, map, filter, length, drop, slice_get, if◌then◌else◌}
use Rattle.std.specs.List.{list_any}
use Rattle.std.specs.Map.{lookup}
use Rattle.relay_action.specs.declared.key.DocKey.{DocKey}
use Rattle.relay_action.specs.declared.operation.OpName.{OpName}
use Rattle.relay_results.specs.Documents.{Document, document_of, same_document}
use Rattle.relay_held.specs.declared.kept.Kept.{Kept}
use Rattle.relay_held.specs.declared.kept.Candidate.{Candidate}
use Rattle.relay_held.specs.Operations.{waits_here}

-- ---- the held list

abbrev pub AllAbove : ℕ → List Kept → Type 0
AllAbove v [] = Unit {0}
AllAbove v (h ∷ hs) = (v < h.version) × AllAbove v hs

-- versions increase
abbrev pub Rises : List Kept → Type 0
Rises [] = Unit {0}
Rises (h ∷ hs) = AllAbove h.version hs × Rises hs

abbrev pub AllUnder : ℕ → List Kept → Type 0
AllUnder v [] = Unit {0}
AllUnder v (h ∷ hs) = (h.version < v) × AllUnder v hs

abbrev pub same_key : DocKey → DocKey → Bool
same_key a b = same_document (document_of a) (document_of b)

-- this is an operation on the document
abbrev pub is_of : DocKey → Kept → Bool
is_of k h = same_key k h.key

-- the first of a document
abbrev pub first_of : DocKey → List Kept → Option Kept
first_of k [] = None
first_of k (h ∷ hs) = if is_of k h then Some h else first_of k hs

-- the first of a document is changed
abbrev pub with_first : DocKey → (Kept → Kept) → List Kept → List Kept
with_first k f [] = []
with_first k f (h ∷ hs) = if is_of k h then f h ∷ hs else h ∷ with_first k f hs

-- the first of a document is gone
abbrev pub without_first : DocKey → List Kept → List Kept
without_first k [] = []
without_first k (h ∷ hs) = if is_of k h then hs else h ∷ without_first k hs

abbrev pub on_first : (Kept → Kept) → List Kept → List Kept
on_first f [] = []
on_first f (h ∷ hs) = f h ∷ hs

-- the name of an operation, if there is one
abbrev pub name_in : Option Kept → Option OpName
name_in o = option_map (λ (h : Kept). h.name) o

-- the name of the first of a queue
abbrev pub first_name : List Kept → Option OpName
first_name q = name_in (slice_get q 0)

abbrev pub is_later_kept : List Kept → Document → ℕ → Bool
is_later_kept hs k version = list_any (λ (h : Kept). same_document (document_of h.key) k && nat_lt h.version version) hs

abbrev pub is_candidate_kept : List Kept → ℕ → Kept → Bool
is_candidate_kept hs clock h = waits_here h.flies && (nat_le h.due clock && not (is_later_kept hs (document_of h.key) h.version))

abbrev pub is_eligible_kept : List Kept → Kept → Bool
is_eligible_kept hs h = waits_here h.flies && not (is_later_kept hs (document_of h.key) h.version)

abbrev pub sooner : ℕ → Option ℕ → Option ℕ
sooner due None = Some due
sooner due (Some other) = Some (min due other)

abbrev pub first_due_kept : List Kept → Option ℕ
first_due_kept [] = None
first_due_kept (h ∷ hs) = sooner h.due (first_due_kept hs)

abbrev pub AllWait : List Kept → Type 0
AllWait [] = Unit {0}
AllWait (h ∷ hs) = (h.flies ≡ None) × AllWait hs

-- everything after the first of a document waits
abbrev pub OnlyFirstsFly : List Kept → Type 0
OnlyFirstsFly hs = (k : DocKey) → AllWait (drop 1 (filter (is_of k) hs))

-- the number of distinct documents
abbrev pub distinct : List Document → ℕ
distinct [] = 0
distinct (d ∷ ds) = if list_any (same_document d) ds then distinct ds else distinct ds + 1

abbrev pub documents : List Kept → List Document
documents hs = map (λ (h : Kept). document_of h.key) hs

-- ---- what callers see

-- what is held, in ascending order of version; the clock, in ticks; and how many held operations were looked at, to see
-- whether they may be sent
pub record Holding : Type 0 where
  pub list : List Kept
  pub clock : ℕ
  pub looks : ℕ

-- the looks after this result: one more if an operation was found; the count saturates
abbrev pub looked : Option Candidate → ℕ → ℕ
looked (Some one) looks = if nat_lt looks 18446744073709551615 then looks + 1 else looks
looked None looks = looks

-- a tick later; the clock saturates
abbrev pub later : ℕ → ℕ
later clock = if nat_lt clock 18446744073709551615 then clock + 1 else clock

abbrev pub candidates_kept : List Kept → ℕ → List Kept
candidates_kept hs clock = filter (is_candidate_kept hs clock) hs

-- ---- private: the queues

-- the first operations of their documents that wait
abbrev pub eligible : List Kept → List Kept
eligible hs = filter (is_eligible_kept hs) hs

abbrev pub insert_one : Kept → List Kept → List Kept
insert_one x [] = x ∷ []
insert_one x (h ∷ hs) = if nat_lt x.version h.version then x ∷ h ∷ hs else h ∷ insert_one x hs

abbrev pub insert_all : List Kept → List Kept → List Kept
insert_all [] hs = hs
insert_all (x ∷ xs) hs = insert_one x (insert_all xs hs)

-- all queues together, in ascending order of version
abbrev pub merge_of : List (DocKey × List Kept) → List Kept
merge_of [] = []
merge_of (e ∷ es) = insert_all e.1 (merge_of es)

abbrev pub queue_of : List (DocKey × List Kept) → DocKey → List Kept
queue_of es k = unwrap_or (lookup (same_key k) es) []

-- the queue of each document is what is held of it
pub record IsMerge (es : List (DocKey × List Kept)) (hs : List Kept) : Type 0 where
  pub rises : Rises hs
  pub queues : (k : DocKey) → queue_of es k ≡ filter (is_of k) hs

-- no queue is empty
pub record NoneEmpty (es : List (DocKey × List Kept)) : Type 0 where
  pub filled : (k : DocKey) (q : List Kept) → lookup (same_key k) es ≡ Some q → 0 < length q

pub record IsHolding (es : List (DocKey × List Kept)) (n : ℕ) : Type 0 where
  pub merge : IsMerge es (merge_of es)
  pub counted : n ≡ length (merge_of es)
  pub behind : OnlyFirstsFly (merge_of es)

-- the queue of one document has changed, and each other document has the queue that it had
pub record Changes (es fs : List (DocKey × List Kept)) (key : DocKey) (q : List Kept) : Type 0 where
  pub queues : (k : DocKey) → queue_of fs k ≡ cond (same_key key k) q (queue_of es k)
