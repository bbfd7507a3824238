-- Documents, actions, writes and operations as plain data, and when two of them are the same.
use Rattle.std.specs.Prelude.{ℕ, ◌%◌, ◌++◌, ◌∷◌, List, Option, Some, None, Bool, true, false, ◌==◌, ◌&&◌, bytes_eq}
use Rattle.relay_action.specs.Lanes.{fnv1a}
use Rattle.relay_action.specs.declared.key.DocKey.{DocKey}
use Rattle.relay_action.specs.declared.action.Action.{Action}
use Rattle.relay_action.specs.declared.action.Action.TheVariants.{Index, Delete}
use Rattle.relay_action.specs.declared.action.ActionKind.{ActionKind}
use Rattle.relay_action.specs.declared.action.ActionKind.TheVariants as kind
use Rattle.relay_action.specs.declared.write.Write.{Write}
use Rattle.relay_action.specs.declared.operation.Op.{Op}
use Rattle.relay_action.specs.declared.operation.OpName.{OpName}

-- a document: the name of its index, and its id
pub record Document : Type 0 where
  pub index : List ℕ
  pub id : List ℕ

abbrev pub document_of : DocKey → Document
document_of key = record { index = key.index; id = key.id }

-- the lane of a document, given the number of lanes
abbrev pub lane_of : ℕ → Document → ℕ
lane_of lanes k = fnv1a (k.index ++ 255 ∷ k.id) % lanes

-- the two documents are the same
abbrev pub same_document : Document → Document → Bool
same_document a b = bytes_eq a.index b.index && bytes_eq a.id b.id

-- what an action stores: the text of its source, or nothing if it deletes
abbrev pub source_of : Action → Option (List ℕ)
source_of (Index source) = Some source.text
source_of Delete = None

abbrev pub same_source : Option (List ℕ) → Option (List ℕ) → Bool
same_source None None = true
same_source None (Some t) = false
same_source (Some s) None = false
same_source (Some s) (Some t) = bytes_eq s t

-- an action of this kind deletes
abbrev pub is_delete : ActionKind → Bool
is_delete kind.Index = false
is_delete kind.Delete = true

-- the two kinds are the same
abbrev pub same_kind : ActionKind → ActionKind → Bool
same_kind kind.Index kind.Index = true
same_kind kind.Index kind.Delete = false
same_kind kind.Delete kind.Index = false
same_kind kind.Delete kind.Delete = true

-- the two writes have the same version, document and action
abbrev pub same_write : Write → Write → Bool
same_write x y =
    (x.version == y.version)
    && (same_document (document_of x.key) (document_of y.key) && same_source (source_of x.action) (source_of y.action))

-- the name of an operation
abbrev pub name_of : Op → OpName
name_of o = record { epoch = o.epoch; producer = o.producer; number = o.number }

-- the two names are the same
abbrev pub same_name : OpName → OpName → Bool
same_name a b = (a.epoch == b.epoch) && ((a.producer == b.producer) && (a.number == b.number))

-- the two operations have the same name, document and action
abbrev pub same_op : Op → Op → Bool
same_op a b =
    same_name (name_of a) (name_of b)
    && (same_document (document_of a.key) (document_of b.key) && same_source (source_of a.action) (source_of b.action))

-- the write for an operation, under a version
abbrev pub write_for : Op → ℕ → Write
write_for o version = record { key = o.key; version = version; action = o.action }
