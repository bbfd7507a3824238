-- Which of the operations that a report names are still current: a later operation of their document, unless it is
-- named too, supersedes them.
use Rattle.std.specs.Prelude.{◌≡◌, ◌≢◌, ℕ, ◌^◌, ◌⊎◌, ◌==◌, ◌&&◌, suc, not, List, [], ◌∷◌, ◌++◌, length, map, Bool, if◌then◌else◌, Option, None, Some, is_some}
use Rattle.std.specs.List.{list_any}
use Rattle.std.specs.Option.{option_or}
use Rattle.relay_action.specs.declared.key.DocKey.{DocKey}
use Rattle.relay_results.specs.Documents.{document_of, same_document}
use Rattle.relay_ndjson.specs.Operations.{Operation}
use Rattle.relay_ndjson.specs.Reading.{Reading, Ends, Fails, fresh}
use Rattle.relay_ndjson.specs.declared.kind.InputFault.{InputFault}
use Rattle.relay_ndjson.specs.declared.kind.LineKind.TheVariants as kind
use Rattle.relay_words.specs.Taken.{TakesAll}
use Rattle.relay_report.specs.declared.names.Named.{Named}
use Rattle.relay_report.specs.declared.keeping.InputEnd.{InputEnd}

-- the name of a producer's operation with this number; if there are several, the last one
abbrev pub name_at : List Named → ℕ → ℕ → Option Named
name_at [] producer k = None
name_at (n ∷ more) producer k = option_or (name_at more producer k) (if (n.producer == producer) && (n.number == k) then Some n else None)

-- an operation of the inputs: its name, if the report names it, and its document
abbrev pub Seen : Type 0
Seen = Option Named × DocKey

-- the operations of one input, of which the first has this number
abbrev pub seen : (ℕ → Option Named) → ℕ → List Operation → List Seen
seen name k [] = []
seen name k (op ∷ ops) = (name k, op.0) ∷ seen name (suc k) ops

-- the operations of the inputs from this one on, one input after another
abbrev pub seen_in : List Named → ℕ → List (List Operation) → List Seen
seen_in names producer [] = []
seen_in names producer (ops ∷ more) = seen (name_at names producer) 1 ops ++ seen_in names (suc producer) more

-- the two keys are of the same document
abbrev pub same_key : DocKey → DocKey → Bool
same_key a b = same_document (document_of a) (document_of b)

-- an operation on this document that the report does not name is among these
abbrev pub is_superseded : DocKey → List Seen → Bool
is_superseded key later = list_any (λ op. same_key op.1 key && not (is_some op.0)) later

-- a named operation, with its document
abbrev pub if_named : Seen → List (DocKey × Named)
if_named (None, key) = []
if_named (Some name, key) = (key, name) ∷ []

-- the operations that the report names
abbrev pub named : List Seen → List (DocKey × Named)
named [] = []
named (op ∷ later) = if_named op ++ named later

-- those of them that no later operation supersedes
abbrev pub current : List Seen → List (DocKey × Named)
current [] = []
current (op ∷ later) = (if is_superseded op.1 later then [] else if_named op) ++ current later

-- Operations were taken, one after another. Then the input has ended, or what follows has a fault, or as many were
-- taken as a producer may put.
abbrev pub StopsReading : Reading → ℕ → Option InputFault → Type 0
StopsReading rest count None = ((new : Reading) × Ends rest new) ⊎ (count ≡ 2 ^ 40)
StopsReading rest count (Some e) = ((new : Reading) × Fails rest new e) × (e.kind ≢ kind.Memory)

pub record ReadsOperations (old : Reading) (ops : List Operation) (end : InputEnd) : Type 0 where
  pub rest : Reading
  pub taken : TakesAll old rest ops
  pub count : end.count ≡ length ops
  pub stops : StopsReading rest (length ops) end.fault

module _ {S : Type 0} (left : S → Option (List ℕ)) (failed : S → ℕ) where
  -- these are the operations of the inputs, and how far each of them was read
  abbrev pub AreRead : Option (List ℕ) → List S → List (List Operation) → List InputEnd → Type 0
  AreRead default [] [] [] = Unit {0}
  AreRead default [] [] (e ∷ es) = ⊥
  AreRead default [] (o ∷ os) ends = ⊥
  AreRead default (s ∷ ss) [] ends = ⊥
  AreRead default (s ∷ ss) (o ∷ os) [] = ⊥
  AreRead default (s ∷ ss) (o ∷ os) (e ∷ es) = ReadsOperations (fresh (left s) (failed s) default) o e × AreRead default ss os es

  -- the inputs were read; these are the names of the current operations, in their order, and how many operations are
  -- named
  pub record Keeps (names : List Named) (default : Option (List ℕ)) (inputs : List S) (kept : List Named) (found : ℕ) (ends : List InputEnd) : Type 0 where
    pub ops : List (List Operation)
    pub read : AreRead default inputs ops ends
    pub are : kept ≡ map (λ p. p.1) (current (seen_in names 0 ops))
    pub many : found ≡ length (named (seen_in names 0 ops))
