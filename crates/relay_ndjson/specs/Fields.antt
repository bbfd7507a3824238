-- What is kept of the metadata of an action line. No public contract refers to it.
use Rattle.std.specs.Prelude.{◌≡◌, ℕ, not, List, codes, Option, None, Some, IsUtf8, if◌then◌else◌}
use Rattle.std.specs.Str.{is_utf8}
use Rattle.serde_json.specs.Data.{Data, object, Members, member, no_members}
use Rattle.serde_json.specs.Find.{get_member}
use Rattle.serde_json.specs.Read.{read}
use Rattle.relay_json.specs.Walks.{IsLeaf}
use Rattle.relay_json.specs.declared.leaf.Leaf.{Leaf}
use Rattle.relay_action.specs.Actions.{kind_name, kind_named}
use Rattle.relay_action.specs.declared.action.ActionKind.{ActionKind}
use Rattle.relay_ndjson.specs.declared.kind.LineKind.{LineKind}
use Rattle.relay_ndjson.specs.declared.kind.LineKind.TheVariants as kind
use Rattle.relay_ndjson.specs.declared.metadata.Metadata.{Metadata}
use Rattle.relay_ndjson.specs.Names.{all_names}
use Rattle.relay_ndjson.specs.Metadata.{is_field, fault_or, action_of}

-- the top level of the value, if there is one
abbrev pub IsLeafOf : Option Leaf → Option Data → Type 0
IsLeafOf None value = value ≡ None
IsLeafOf (Some leaf) value = (d : Data) × (value ≡ Some d) × IsLeaf leaf d

-- what is kept of these members
pub record HoldsMembers (m : Metadata) (ms : Members) : Type 0 where
  pub index : IsLeafOf m.index (get_member (codes "_index") ms)
  pub id : IsLeafOf m.id (get_member (codes "_id") ms)
  pub version : IsLeafOf m.version (get_member (codes "version") ms)
  pub version_type : IsLeafOf m.version_type (get_member (codes "version_type") ms)
  pub has_other : m.has_other ≡ not (all_names is_field ms)

-- the text says this action, with this metadata
abbrev pub SaysAction : List ℕ → ActionKind → Metadata → Type 0
SaysAction text a m =
    IsUtf8 text × (d : Data) × (read text ≡ Some d) × (ms : Members) × (d ≡ object (member (kind_name a) (object ms) no_members)) × HoldsMembers m ms

-- the first fault of a text, given that of an action's metadata
abbrev pub action_fault : (Data → Option LineKind) → List ℕ → Option LineKind
action_fault of_metadata text =
    if is_utf8 text then fault_or kind.NotJson (λ d. fault_or kind.NotOneAction (λ a. fault_or kind.UnsupportedAction (λ k. of_metadata a.1) (kind_named a.0)) (action_of d)) (read text)
    else Some kind.NotJson
