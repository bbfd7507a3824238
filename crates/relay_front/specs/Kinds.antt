-- The actions of the bulk API (OpenSearch, bulk API).
use Rattle.std.specs.Prelude.{ℕ, Bool, true, false, bytes_eq, List, codes, if◌then◌else◌, Option, None, Some}
use Rattle.relay_front.specs.declared.operation.AskedKind.{AskedKind}
use Rattle.relay_front.specs.declared.operation.AskedKind.TheVariants as kind

-- the name of an action
abbrev pub name_of : AskedKind → List ℕ
name_of kind.Index = codes "index"
name_of kind.Create = codes "create"
name_of kind.Update = codes "update"
name_of kind.Delete = codes "delete"

-- the action with this name
abbrev pub kind_named : List ℕ → Option AskedKind
kind_named name =
    if bytes_eq name (codes "index") then Some kind.Index
    else if bytes_eq name (codes "create") then Some kind.Create
    else if bytes_eq name (codes "update") then Some kind.Update
    else if bytes_eq name (codes "delete") then Some kind.Delete
    else None

-- a source follows every action but a delete
abbrev pub has_source : AskedKind → Bool
has_source kind.Index = true
has_source kind.Create = true
has_source kind.Update = true
has_source kind.Delete = false
