-- What an action line asks for, and its first fault.
use Rattle.std.specs.Prelude.{◌≡◌, ℕ, Bool, true, not, ◌||◌, bytes_eq, List, codes, decimal, if◌then◌else◌, Option, None, Some, is_some, option_map, option_and_then, IsUtf8}
use denote.Ref.{Bor}
use Rattle.std.specs.Str.{is_utf8}
use Rattle.std.specs.Fmt.{signed_decimal}
use Rattle.serde_json.specs.Data.{Num, unsigned, negative, float, Data, null, boolean, number, string, array, object, Members, member, no_members}
use Rattle.serde_json.specs.Find.{get, as_object, as_str}
use Rattle.serde_json.specs.Read.{read}
use Rattle.relay_ndjson.specs.Names.{has_only}
use Rattle.relay_json.specs.Sole.{sole}
use Rattle.relay_action.specs.Actions.{kind_name, kind_named}
use Rattle.relay_action.specs.Faults.{key_fault, source_fault}
use Rattle.relay_action.specs.declared.action.ActionKind.{ActionKind}
use Rattle.relay_ndjson.specs.declared.kind.LineKind.{LineKind}
use Rattle.relay_ndjson.specs.declared.kind.LineKind.TheVariants as kind

-- the bytes of an optional text
abbrev pub bytes_given : Option (Bor (List ℕ)) → Option (List ℕ)
bytes_given text = option_map (λ t. t.now) text

-- the members of metadata
abbrev pub is_document : List ℕ → Bool
is_document name = bytes_eq name (codes "_id") || bytes_eq name (codes "_index")

abbrev pub is_version : List ℕ → Bool
is_version name = bytes_eq name (codes "version") || bytes_eq name (codes "version_type")

abbrev pub is_field : List ℕ → Bool
is_field name = is_document name || is_version name

-- an id is a string, or an integer, which means its decimal text
abbrev pub number_text : Num → Option (List ℕ)
number_text (unsigned n) = Some (decimal n)
number_text (negative z) = Some (signed_decimal z)
number_text (float x) = None

abbrev pub id_text : Data → Option (List ℕ)
id_text null = None
id_text (boolean b) = None
id_text (number n) = number_text n
id_text (string s) = Some s
id_text (array ds) = None
id_text (object ms) = None

abbrev pub id_of : Data → Option (List ℕ)
id_of metadata = option_and_then id_text (get (codes "_id") metadata)

-- the default applies if no index is given
abbrev pub text_or : Option (List ℕ) → Option Data → Option (List ℕ)
text_or default None = default
text_or default (Some d) = as_str d

abbrev pub index_of : Option (List ℕ) → Data → Option (List ℕ)
index_of default metadata = text_or default (get (codes "_index") metadata)

-- ---- the grammar

-- the metadata names a document
abbrev pub IsDocument : Option (List ℕ) → Data → List ℕ → List ℕ → Type 0
IsDocument default m index id = (has_only is_document m ≡ true) × (index_of default m ≡ Some index) × (id_of m ≡ Some id)

-- the value asks for an action on a document
abbrev pub Asks : Option (List ℕ) → Data → ActionKind → List ℕ → List ℕ → Type 0
Asks default d a index id =
    (ms : Members) × (d ≡ object (member (kind_name a) (object ms) no_members)) × IsDocument default (object ms) index id

-- the text asks for an action on a document
abbrev pub Says : Option (List ℕ) → List ℕ → ActionKind → List ℕ → List ℕ → Type 0
Says default text a index id = IsUtf8 text × (d : Data) × (read text ≡ Some d) × Asks default d a index id

-- ---- the first fault, in the order of the table

-- a fault if the value is missing, otherwise the fault of the value
abbrev pub fault_or : {A : Type 0} → LineKind → (A → Option LineKind) → Option A → Option LineKind
fault_or k f None = Some k
fault_or k f (Some a) = f a

-- the fault of an id, or that it is missing
abbrev pub id_fault : List ℕ → Option (List ℕ) → Option LineKind
id_fault index = fault_or kind.MissingId (λ id. option_map kind.Action (key_fault index id))

-- the fault of metadata whose members are allowed
abbrev pub document_fault : Option (List ℕ) → Data → Option LineKind
document_fault default m = fault_or kind.MissingIndex (λ index. id_fault index (id_of m)) (index_of default m)

abbrev pub metadata_fault : Option (List ℕ) → Data → Option LineKind
metadata_fault default m =
    if not (has_only is_field m) then Some kind.UnsupportedField
    else if not (has_only is_document m) then Some kind.VersionGiven
    else document_fault default m

-- the name and the metadata of an action
abbrev pub action_of : Data → Option (List ℕ × Data)
action_of d = option_and_then (λ ms. option_and_then (λ a. if is_some (as_object a.1) then Some a else None) (sole ms)) (as_object d)

abbrev pub value_fault : Option (List ℕ) → Data → Option LineKind
value_fault default d =
    fault_or kind.NotOneAction (λ a. fault_or kind.UnsupportedAction (λ k. metadata_fault default a.1) (kind_named a.0)) (action_of d)

abbrev pub line_fault : Option (List ℕ) → List ℕ → Option LineKind
line_fault default text = if is_utf8 text then fault_or kind.NotJson (value_fault default) (read text) else Some kind.NotJson

-- the first fault of a source line
abbrev pub source_line_fault : List ℕ → Option LineKind
source_line_fault text = if is_utf8 text then option_map kind.Action (source_fault text) else Some kind.NotJson
