-- Actions and their kinds.
use Rattle.std.specs.Prelude.{◌≡◌, ℕ, bytes_eq, List, codes, Option, None, Some, if◌then◌else◌}
use Rattle.relay_action.specs.declared.action.Action.{Action}
use Rattle.relay_action.specs.declared.action.Action.TheVariants.{Index, Delete}
use Rattle.relay_action.specs.declared.action.ActionKind.{ActionKind}
use Rattle.relay_action.specs.declared.action.ActionKind.TheVariants as kind

-- the action stores this source
abbrev pub IsIndexOf : List ℕ → Action → Type 0
IsIndexOf source (Index s) = s.text ≡ source
IsIndexOf source Delete = ⊥

-- the kind of an action
abbrev pub kind_of : Action → ActionKind
kind_of (Index s) = kind.Index
kind_of Delete = kind.Delete

-- the name of a kind in the bulk API
abbrev pub kind_name : ActionKind → List ℕ
kind_name kind.Index = codes "index"
kind_name kind.Delete = codes "delete"

-- the kind with this name
abbrev pub kind_named : List ℕ → Option ActionKind
kind_named name =
    if bytes_eq name (codes "index") then Some kind.Index
    else if bytes_eq name (codes "delete") then Some kind.Delete
    else None
