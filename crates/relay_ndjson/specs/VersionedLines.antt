-- What an action line on the index side asks for, and its first fault: as in the OpenSearch bulk API, with an
-- external version for each action.
use Rattle.std.specs.Prelude.{◌≡◌, ℕ, ◌&&◌, Bool, true, false, not, nat_le, bytes_eq, is_some, List, codes, Option, None, Some, option_map, option_and_then, unwrap_or, if◌then◌else◌, IsUtf8}
use Rattle.std.specs.Str.{is_utf8}
use Rattle.serde_json.specs.Data.{Data, object, Members, member, no_members}
use Rattle.serde_json.specs.Find.{get, as_str, as_number, as_u64}
use Rattle.serde_json.specs.Read.{read}
use Rattle.relay_action.specs.Actions.{kind_of, kind_name, kind_named}
use Rattle.relay_action.specs.declared.action.ActionKind.{ActionKind}
use Rattle.relay_action.specs.declared.write.Write.{Write}
use Rattle.relay_ndjson.specs.declared.kind.LineKind.{LineKind}
use Rattle.relay_ndjson.specs.declared.kind.LineKind.TheVariants as kind
use Rattle.relay_action.specs.Limits.{last_version}
use Rattle.relay_ndjson.specs.Names.{has_only}
use Rattle.relay_ndjson.specs.Metadata.{is_field, index_of, id_of, fault_or, document_fault, action_of}

-- a version that the index accepts
abbrev pub within_last : ℕ → Option ℕ
within_last n = if nat_le n last_version then Some n else None

-- the version in the metadata: an unsigned 64-bit integer up to the last version
abbrev pub version_of : Data → Option ℕ
version_of m = option_and_then within_last (option_and_then as_u64 (option_and_then as_number (get (codes "version") m)))

-- `version_type` is `external`
abbrev pub is_external : Data → Bool
is_external m = unwrap_or (option_map (λ t. bytes_eq t (codes "external")) (option_and_then as_str (get (codes "version_type") m))) false

-- ---- the grammar

-- the metadata names a document and an external version for it
abbrev pub IsVersioned : Data → List ℕ → List ℕ → ℕ → Type 0
IsVersioned m index id version =
    (has_only is_field m ≡ true) × (version_of m ≡ Some version) × (is_external m ≡ true) × (index_of None m ≡ Some index) × (id_of m ≡ Some id)

-- the value asks for an action on a document, at a version
abbrev pub AsksVersioned : Data → ActionKind → List ℕ → List ℕ → ℕ → Type 0
AsksVersioned d a index id version =
    (ms : Members) × (d ≡ object (member (kind_name a) (object ms) no_members)) × IsVersioned (object ms) index id version

-- the text asks for an action on a document, at a version
abbrev pub SaysVersioned : List ℕ → ActionKind → List ℕ → List ℕ → ℕ → Type 0
SaysVersioned text a index id version = IsUtf8 text × (d : Data) × (read text ≡ Some d) × AsksVersioned d a index id version

-- the text is the action line of this write, whatever its source
abbrev pub SaysWrite : List ℕ → Write → Type 0
SaysWrite text w = SaysVersioned text (kind_of w.action) w.key.index w.key.id w.version

-- ---- the first fault, in the order of the table

abbrev pub versioned_fault : Data → Option LineKind
versioned_fault m =
    if not (has_only is_field m) then Some kind.UnsupportedField
    else if not (is_some (version_of m) && is_external m) then Some kind.VersionMissing
    else document_fault None m

abbrev pub write_fault : Data → Option LineKind
write_fault d =
    fault_or kind.NotOneAction (λ a. fault_or kind.UnsupportedAction (λ k. versioned_fault a.1) (kind_named a.0)) (action_of d)

-- the first fault of an action line
abbrev pub write_line_fault : List ℕ → Option LineKind
write_line_fault text = if is_utf8 text then fault_or kind.NotJson write_fault (read text) else Some kind.NotJson
