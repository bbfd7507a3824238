-- The grammars and the faults exclude each other, and each is unique.
use Rattle.std.specs.Prelude.{◌≡◌, ◌↔◌, ◌⊎◌, ◌≤◌, ℕ, List, ◌++◌, Option, None, Some}
use Rattle.relay_action.specs.Faults.{key_fault}
use Rattle.relay_action.specs.declared.action.ActionKind.{ActionKind}
use Rattle.relay_action.specs.declared.action.ActionKind.TheVariants as action
use Rattle.relay_action.specs.declared.write.Write.{Write}
use Rattle.relay_ndjson.specs.declared.kind.InputFault.{InputFault}
use Rattle.relay_ndjson.specs.declared.kind.LineKind.{LineKind}
use Rattle.relay_ndjson.specs.declared.kind.LineKind.TheVariants as kind
use Rattle.relay_ndjson.specs.Lines.{TakesText, TakesBlank}
use Rattle.relay_ndjson.specs.Metadata.{Says, line_fault, source_line_fault}
use Rattle.relay_ndjson.specs.Operations.{Operation, blank_limit, TakesOperation, HoldsNoMore, Breaks, Position, Stops}
use Rattle.relay_ndjson.specs.Bulk.{text_of}
use Rattle.relay_ndjson.specs.VersionedLines.{SaysVersioned, write_line_fault}
use Rattle.relay_ndjson.specs.Bodies.{AreDealt, IsBulk, BreaksBulk}

-- a text has no fault exactly if it asks for an action on a valid document
abbrev pub TextDecides : Type 0
TextDecides = (default : Option (List ℕ)) (text : List ℕ) →
    (line_fault default text ≡ None) ↔ ((a : ActionKind) × (index : List ℕ) × (id : List ℕ) × Says default text a index id × (key_fault index id ≡ None))

-- if there is a fault, no operation begins
abbrev pub NoOperationAtFault : Type 0
NoOperationAtFault = (default new : Option (List ℕ)) (bytes : List ℕ) (n at : ℕ) (op : Operation) (k : LineKind) →
    TakesOperation default (Some bytes) new n op → Breaks default (Some bytes) at k → ⊥

abbrev pub NoEndAtFault : Type 0
NoEndAtFault = (default : Option (List ℕ)) (bytes : List ℕ) (at : ℕ) (k : LineKind) → HoldsNoMore (Some bytes) → Breaks default (Some bytes) at k → ⊥

abbrev pub NoOperationAtEnd : Type 0
NoOperationAtEnd = (default new : Option (List ℕ)) (bytes : List ℕ) (n : ℕ) (op : Operation) → TakesOperation default (Some bytes) new n op → HoldsNoMore (Some bytes) → ⊥

-- there is only one first fault
abbrev pub OneFault : Type 0
OneFault = (default : Option (List ℕ)) (bytes : List ℕ) (at place : ℕ) (k l : LineKind) → Breaks default (Some bytes) at k → Breaks default (Some bytes) place l → (at ≡ place) × (k ≡ l)

-- there is only one operation at the front of a stream
abbrev pub OneOperation : Type 0
OneOperation = (default new other : Option (List ℕ)) (bytes : List ℕ) (n m : ℕ) (op next : Operation) →
    TakesOperation default (Some bytes) new n op → TakesOperation default (Some bytes) other m next → (new ≡ other) × (n ≡ m) × (op ≡ next)

-- there is a whole operation at the front of these bytes, whatever follows them
abbrev pub HoldsOperation : Option (List ℕ) → List ℕ → Type 0
HoldsOperation default bytes =
    (n : ℕ) × (op : Operation) × (rest : List ℕ) × ((more : List ℕ) → TakesOperation default (Some (bytes ++ more)) (Some (rest ++ more)) n op)

-- if a read failed, the bytes that had been read do not hold a whole operation
abbrev pub NoOperationAtRead : Type 0
NoOperationAtRead = (default : Option (List ℕ)) (bytes later : List ℕ) (old new : Position) (e : InputFault) →
    old.ahead ≡ Some (bytes ++ later) → new.ahead ≡ Some later → Stops default old new e → e.kind ≡ kind.Read → HoldsOperation default bytes → ⊥

-- ---- one of them always holds

-- a source line follows, if the action needs one
abbrev pub HasSource : ActionKind → Option (List ℕ) → Type 0
HasSource action.Index rest = (source : List ℕ) × (new : Option (List ℕ)) × TakesText rest new source × (source_line_fault source ≡ None)
HasSource action.Delete rest = Unit {0}

-- the lines of an operation are at the front
abbrev pub HasLines : Option (List ℕ) → Option (List ℕ) → Type 0
HasLines default old =
    (a : ActionKind) × (index : List ℕ) × (id : List ℕ) × (text : List ℕ) × (rest : Option (List ℕ)) × TakesText old rest text
    × Says default text a index id × (key_fault index id ≡ None) × HasSource a rest

abbrev pub BeginsOperation : Option (List ℕ) → Option (List ℕ) → Type 0
BeginsOperation default old = (n : ℕ) × (mid : Option (List ℕ)) × (n ≤ blank_limit) × TakesBlank n old mid × HasLines default mid

abbrev pub AlwaysDecided : Type 0
AlwaysDecided = (default : Option (List ℕ)) (bytes : List ℕ) →
    BeginsOperation default (Some bytes) ⊎ HoldsNoMore (Some bytes) ⊎ ((at : ℕ) × (k : LineKind) × Breaks default (Some bytes) at k)

-- ---- bodies of the index side

-- a text has no fault exactly if it asks for an action on a valid document, at a version
abbrev pub VersionedTextDecides : Type 0
VersionedTextDecides = (text : List ℕ) →
    (write_line_fault text ≡ None) ↔ ((a : ActionKind) × (index : List ℕ) × (id : List ℕ) × (version : ℕ) × SaysVersioned text a index id version × (key_fault index id ≡ None))

-- the bulk text of writes is a body of exactly these
abbrev pub BulkTextIsBulk : Type 0
BulkTextIsBulk = (ws : List Write) → AreDealt ws → IsBulk (text_of ws) ws

-- a body has only one list of writes
abbrev pub OneBulk : Type 0
OneBulk = (bytes : List ℕ) (ws vs : List Write) → IsBulk bytes ws → IsBulk bytes vs → ws ≡ vs

-- a body with a list of writes has no fault
abbrev pub NoFaultInBulk : Type 0
NoFaultInBulk = (bytes : List ℕ) (ws : List Write) (at : ℕ) (k : LineKind) → IsBulk bytes ws → BreaksBulk bytes at k → ⊥

-- there is only one first fault
abbrev pub OneBulkFault : Type 0
OneBulkFault = (bytes : List ℕ) (at place : ℕ) (k l : LineKind) → BreaksBulk bytes at k → BreaksBulk bytes place l → (at ≡ place) × (k ≡ l)
