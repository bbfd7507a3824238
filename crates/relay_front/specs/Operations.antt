-- The operations that the body of a bulk request asks for (OpenSearch, bulk API): each action line with the source on the
-- line after it, if its action has one. An operation that is refused alone has an item and no write, and the others go on.
use Rattle.std.specs.Prelude.{◌≡◌, ◌≢◌, ◌⊎◌, ℕ, ◌+◌, min, Bool, true, false, not, List, [], ◌∷◌, ◌++◌, length, flat_map, codes, if◌then◌else◌, Option, None, Some, is_some, ok_or, option_map, option_and_then, Result, Ok, Err, All, IsUtf8}
use denote.Ref.{Bor}
use Rattle.std.specs.Str.{is_utf8}
use Rattle.serde_json.specs.Data.{Data, object, Members}
use Rattle.serde_json.specs.Find.{as_str}
use Rattle.serde_json.specs.Read.{read}
use Rattle.relay_action.specs.Actions.{IsIndexOf}
use Rattle.relay_action.specs.Faults.{key_fault, source_fault}
use Rattle.relay_action.specs.declared.action.Action.{Action}
use Rattle.relay_action.specs.declared.action.Action.TheVariants as action
use Rattle.relay_action.specs.declared.action.ActionKind.{ActionKind}
use Rattle.relay_action.specs.declared.action.ActionKind.TheVariants as asks
use Rattle.relay_action.specs.declared.fault.ActionFault.{ActionFault}
use Rattle.relay_action.specs.declared.key.DocKey.{DocKey}
use Rattle.relay_json.specs.Sole.{sole_object}
use Rattle.relay_ndjson.specs.Metadata.{id_text, text_or}
use Rattle.relay_results.specs.Replies.{IsTruncated}
use Rattle.relay_front.specs.declared.operation.AskedKind.{AskedKind}
use Rattle.relay_front.specs.declared.operation.AskedKind.TheVariants as kind
use Rattle.relay_front.specs.declared.operation.Item.{Item}
use Rattle.relay_front.specs.declared.operation.Item.TheVariants as item
use Rattle.relay_front.specs.declared.operation.ItemFault.{ItemFault}
use Rattle.relay_front.specs.declared.operation.ItemFault.TheVariants as fault
use Rattle.relay_action.specs.Streams.{most}
use Rattle.relay_ndjson.specs.Lines.{IsUnbroken}
use Rattle.relay_front.specs.declared.lines.BodyFault.{BodyFault}
use Rattle.relay_front.specs.declared.lines.BodyFaultKind.{BodyFaultKind}
use Rattle.relay_front.specs.declared.lines.BodyFaultKind.TheVariants as body
use Rattle.relay_front.specs.declared.lines.Unread.{Unread}
use Rattle.relay_front.specs.declared.lines.Unread.TheVariants as unread
use Rattle.relay_front.specs.declared.operation.Operations.{Operations}
use Rattle.relay_front.specs.Bodies.{BeginsWithLine, is_blank}
use Rattle.relay_front.specs.Kinds.{name_of, kind_named, has_source}
use Rattle.relay_front.specs.Metadata.{given, has_no_other, IsOther}

-- a write: a document, and the action on it
abbrev pub Write : Type 0
Write = DocKey × Action

-- ---- the document of an action line

abbrev pub and_then : {A B : Type 0} → Result A ItemFault → (A → Result B ItemFault) → Result B ItemFault
and_then (Err f) next = Err f
and_then (Ok a) next = next a

-- what has no fault
abbrev pub unless : {A : Type 0} → Option ActionFault → A → Result A ItemFault
unless None a = Ok a
unless (Some f) a = Err (fault.Action f)

-- the index name: that of the line, or else that of the path
abbrev pub index_by : Option (List ℕ) → Option Data → Result (List ℕ) ItemFault
index_by default None = ok_or default fault.NoIndex
index_by default (Some d) = ok_or (as_str d) fault.IndexForm

-- a document by its index name and id, and whether the relay made the id
abbrev pub Named : Type 0
Named = List ℕ × List ℕ × Bool

-- the same, within the limits of a document
abbrev pub key_by : List ℕ → Bool → List ℕ → Result Named ItemFault
key_by index made id = unless (key_fault index id) (index, id, made)

-- without an id a delete is refused, and another action gets one of the relay's making
abbrev pub without_id : AskedKind → List ℕ → List ℕ → Result Named ItemFault
without_id kind.Delete made index = Err fault.NoId
without_id other made index = key_by index true made

-- the document with this value of its id
abbrev pub document_at : AskedKind → List ℕ → Option Data → List ℕ → Result Named ItemFault
document_at k made None index = without_id k made index
document_at k made (Some d) index = and_then (ok_or (id_text d) fault.IdForm) (key_by index false)

abbrev pub document_by : Option (List ℕ) → AskedKind → List ℕ → Members → Result Named ItemFault
document_by default k made ms = and_then (index_by default (given (codes "_index") ms)) (document_at k made (given (codes "_id") ms))

-- ---- the item of an action line

-- a client asks for these actions under the same names
abbrev pub asked_kind : ActionKind → AskedKind
asked_kind asks.Index = kind.Index
asked_kind asks.Delete = kind.Delete

-- the relay updates nothing, and creates only under an id of its making
abbrev pub is_allowed : AskedKind → Option Data → Bool
is_allowed kind.Update id = false
is_allowed kind.Create id = not (is_some id)
is_allowed kind.Index id = true
is_allowed kind.Delete id = true

abbrev pub not_allowed : AskedKind → ItemFault
not_allowed kind.Update = fault.Update
not_allowed other = fault.CreateWithId

-- the first that is wrong with a line
abbrev pub IsRefusedFor : Option (List ℕ) → AskedKind → List ℕ → Members → ItemFault → Type 0
IsRefusedFor default k made ms f =
    ((is_allowed k (given (codes "_id") ms) ≡ false) × (f ≡ not_allowed k))
    ⊎ ((is_allowed k (given (codes "_id") ms) ≡ true) × (name : List ℕ) × (front : List ℕ) × IsOther ms name × IsTruncated 255 name front × (f ≡ fault.Member front))
    ⊎ ((is_allowed k (given (codes "_id") ms) ≡ true) × (has_no_other ms ≡ true) × (document_by default k made ms ≡ Err f))

-- the item of a line with this action and these members, if `made` is the id that the relay makes
abbrev pub IsItem : Option (List ℕ) → AskedKind → List ℕ → Members → Item → Type 0
IsItem default k made ms (item.Asked asked key own) =
    (asked ≡ k) × (is_allowed k (given (codes "_id") ms) ≡ true) × (has_no_other ms ≡ true) × (document_by default k made ms ≡ Ok (key.index, key.id, own))
IsItem default k made ms (item.Refused asked index id f) =
    (asked ≡ k) × (index ≡ text_or default (given (codes "_index") ms)) × (id ≡ option_and_then as_str (given (codes "_id") ms))
    × IsRefusedFor default k made ms f

-- the document of a line, or why the line is refused
abbrev pub IsAsked : Option (List ℕ) → AskedKind → Members → Result (DocKey × Bool) ItemFault → Type 0
IsAsked default k ms (Ok asked) =
    (is_allowed k (given (codes "_id") ms) ≡ true) × (has_no_other ms ≡ true) × (made : List ℕ) × (document_by default k made ms ≡ Ok (asked.0.index, asked.0.id, asked.1))
IsAsked default k ms (Err f) = (made : List ℕ) × IsRefusedFor default k made ms f

-- the line asks for an operation, of which this is the item
abbrev pub AsksFor : Option (List ℕ) → List ℕ → Item → Type 0
AsksFor default line i =
    IsUtf8 line × (d : Data) × (read line ≡ Some d) × (k : AskedKind) × (ms : Members) × (sole_object d ≡ Some (name_of k, object ms))
    × (made : List ℕ) × IsItem default k made ms i

abbrev pub kind_of : Item → AskedKind
kind_of (item.Asked k key made) = k
kind_of (item.Refused k index id f) = k

-- ---- sources

-- why a source refuses its operation
abbrev pub source_reason : List ℕ → Option ItemFault
source_reason source = if is_utf8 source then option_map fault.Action (source_fault source) else Some fault.SourceForm

-- the item and the write of an operation with this source
abbrev pub IsPut : AskedKind → DocKey → Bool → List ℕ → Item → List Write → Type 0
IsPut k key made source i ws =
    ((source_reason source ≡ None) × (i ≡ item.Asked k key made) × (stored : Action) × IsIndexOf source stored × (ws ≡ (key, stored) ∷ []))
    ⊎ ((f : ItemFault) × (source_reason source ≡ Some f) × (i ≡ item.Refused k (Some key.index) (Some key.id) f) × (ws ≡ []))

-- the same, of what an action line asks for; `None` is no source
abbrev pub Completes : Item → Option (List ℕ) → Item → List Write → Type 0
Completes (item.Asked k key made) None i ws = (i ≡ item.Asked k key made) × (ws ≡ (key, action.Delete) ∷ [])
Completes (item.Asked k key made) (Some source) i ws = IsPut k key made source i ws
Completes (item.Refused k index id f) source i ws = (i ≡ item.Refused k index id f) × (ws ≡ [])

-- ---- bodies

-- the body begins with these lines, and `rest` follows them
abbrev pub TakesLines : List ℕ → List (List ℕ) → List ℕ → Type 0
TakesLines body [] rest = body ≡ rest
TakesLines body (text ∷ texts) rest = (mid : List ℕ) × BeginsWithLine body mid text × TakesLines mid texts rest

-- a part of a body: a blank line, or the lines of one operation
pub record Part : Type 0 where
  pub lines : List (List ℕ)
  pub items : List Item
  pub writes : List Write

abbrev pub IsBlankPart : Part → Type 0
IsBlankPart p = (text : List ℕ) × (is_blank text ≡ true) × (p ≡ record { lines = text ∷ []; items = []; writes = [] })

-- an action line that is not blank
abbrev pub Asks : Option (List ℕ) → List ℕ → Item → Bool → Type 0
Asks default text asked sourced = (is_blank text ≡ false) × AsksFor default text asked × (has_source (kind_of asked) ≡ sourced)

abbrev pub IsPart : Option (List ℕ) → Part → Type 0
IsPart default p =
    IsBlankPart p
    ⊎ ((text : List ℕ) × (asked : Item) × (i : Item) × (ws : List Write) × Asks default text asked false × Completes asked None i ws
    × (p ≡ record { lines = text ∷ []; items = i ∷ []; writes = ws }))
    ⊎ ((text : List ℕ) × (source : List ℕ) × (asked : Item) × (i : Item) × (ws : List Write) × Asks default text asked true × Completes asked (Some source) i ws
    × (p ≡ record { lines = text ∷ source ∷ []; items = i ∷ []; writes = ws }))

-- the lines ask for these operations: an item for each, and the writes of those that are not refused, in order
pub record AskFor (default : Option (List ℕ)) (lines : List (List ℕ)) (items : List Item) (writes : List Write) : Type 0 where
  pub parts : List Part
  pub each : All (IsPart default) parts
  pub lines_of : lines ≡ flat_map (λ p. p.lines) parts
  pub items_of : items ≡ flat_map (λ p. p.items) parts
  pub writes_of : writes ≡ flat_map (λ p. p.writes) parts

-- ---- faults of a body

-- what is wrong with an action line whose operation cannot be told
abbrev pub action_fault : Option (List ℕ × Data) → Option BodyFaultKind
action_fault None = Some body.NotOneAction
action_fault (Some a) = if is_some (kind_named a.0) then None else Some body.UnknownAction

abbrev pub value_fault : Option Data → Option BodyFaultKind
value_fault None = Some body.NotJson
value_fault (Some d) = action_fault (sole_object d)

abbrev pub line_fault : List ℕ → Option BodyFaultKind
line_fault line = if is_utf8 line then value_fault (read line) else Some body.NotJson

-- there is no line at the front: its end is missing
abbrev pub LacksEnd : List ℕ → Type 0
LacksEnd bytes = (bytes ≢ []) × IsUnbroken bytes

-- after an action line whose source is wanted; the fault is that of the action line or of the next
abbrev pub LacksSource : List ℕ → ℕ → BodyFaultKind → Type 0
LacksSource bytes place k =
    ((bytes ≡ []) × (k ≡ body.SourceMissing) × (place ≡ 1)) ⊎ (LacksEnd bytes × (k ≡ body.NoFinalNewline) × (place ≡ 2))

-- the line at this place is where the next operation cannot be told
abbrev pub BreaksAt : Option (List ℕ) → List ℕ → ℕ → BodyFaultKind → Type 0
BreaksAt default bytes place k =
    (LacksEnd bytes × (k ≡ body.NoFinalNewline) × (place ≡ 1))
    ⊎ ((text : List ℕ) × (rest : List ℕ) × BeginsWithLine bytes rest text × (is_blank text ≡ false) × (line_fault text ≡ Some k) × (place ≡ 1))
    ⊎ ((text : List ℕ) × (rest : List ℕ) × (asked : Item) × BeginsWithLine bytes rest text × Asks default text asked true × LacksSource rest place k)

-- these lines of a body ask for these operations, and `rest` follows them
pub record HasRead (default : Option (List ℕ)) (whole rest : List ℕ) (items : List Item) (writes : List Write) : Type 0 where
  pub lines : List (List ℕ)
  pub taken : TakesLines whole lines rest
  pub asked : AskFor default lines items writes

-- a body has no operation, or its fault names the first line from which on operations cannot be told apart
pub record BreaksBody (default : Option (List ℕ)) (whole : List ℕ) (f : BodyFault) : Type 0 where
  pub rest : List ℕ
  pub items : List Item
  pub writes : List Write
  pub front : HasRead default whole rest items writes
  pub place : ℕ
  pub breaks : BreaksAt default rest place f.kind ⊎ ((rest ≡ []) × (items ≡ []) × (f.kind ≡ body.Empty) × (place ≡ 0))
  pub line : f.line ≡ min (length front.lines + place) most

-- ---- for private clauses

abbrev pub bytes_found : Result (Bor (List ℕ)) ItemFault → Result (List ℕ) ItemFault
bytes_found (Ok text) = Ok text.now
bytes_found (Err f) = Err f

abbrev pub bytes_shown : Option (Bor (List ℕ)) → Option (List ℕ)
bytes_shown bytes = option_map (λ b. b.now) bytes

abbrev pub named : Result (DocKey × Bool) ItemFault → Result Named ItemFault
named (Ok key) = Ok (key.0.index, key.0.id, key.1)
named (Err f) = Err f

-- what is added for an operation
abbrev pub IsAdded : Operations → Operations → Item → Option (List ℕ) → Type 0
IsAdded old new asked source =
    (i : Item) × (ws : List Write) × Completes asked source i ws × (new.items.items ≡ old.items.items ++ i ∷ []) × (new.writes.items ≡ old.writes.items ++ ws)

-- the part at the front was taken
abbrev pub TakesPart : Option (List ℕ) → List ℕ → List ℕ → ℕ → Operations → Operations → Type 0
TakesPart default bytes rest count old new =
    (p : Part) × IsPart default p × TakesLines bytes p.lines rest × (count ≡ length p.lines) × (new.items.items ≡ old.items.items ++ p.items)
    × (new.writes.items ≡ old.writes.items ++ p.writes)

-- a fault whose line is relative to what follows so many lines
abbrev pub after_lines : ℕ → Unread → Unread
after_lines count (unread.Body f) = unread.Body (record { line = min (count + f.line) most; kind = f.kind })
after_lines count unread.Memory = unread.Memory
