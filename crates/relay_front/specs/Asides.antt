-- The operations of a request that are set aside: those that are reported, as lines of a bulk request.
use Rattle.std.specs.Prelude.{ℕ, Bool, true, false, List, [], ◌∷◌, ◌++◌, codes, drop, Option, None, Some}
use Rattle.std.specs.List.{list_any}
use Rattle.relay_action.specs.declared.action.Action.{Action}
use Rattle.relay_action.specs.declared.action.Action.TheVariants as action
use Rattle.relay_action.specs.declared.key.DocKey.{DocKey}
use Rattle.relay_front.specs.declared.ending.End.{End}
use Rattle.relay_front.specs.declared.ending.End.TheVariants as end
use Rattle.relay_front.specs.declared.operation.Item.{Item}
use Rattle.relay_front.specs.declared.operation.Item.TheVariants as item
use Rattle.relay_front.specs.Operations.{Write}
use Rattle.relay_front.specs.Texts.{document_members, ends_after}

abbrev pub is_reported : End → Bool
is_reported (end.Reported cause) = true
is_reported other = false

abbrev pub have_reports : List End → Bool
have_reports ends = list_any is_reported ends

-- an operation in the body of a bulk request: an action line, and the source if it stores one
abbrev pub operation_lines : DocKey → Option (List ℕ) → List ℕ
operation_lines key (Some source) =
    codes "{\"index\":{" ++ document_members key.index key.id ++ codes "}}\n" ++ source ++ codes "\n"
operation_lines key None = codes "{\"delete\":{" ++ document_members key.index key.id ++ codes "}}\n"

abbrev pub source_of : Action → Option (List ℕ)
source_of (action.Index source) = Some source.text
source_of action.Delete = None

-- what is set aside of an operation, given the writes and the ends from its own on
abbrev pub aside_text : Item → List Write → List End → List ℕ
aside_text (item.Asked k key made) (w ∷ writes) (end.Reported cause ∷ ends) = operation_lines key (source_of w.1)
aside_text i writes ends = []

-- each operation that is put has the next write
abbrev pub writes_after : Item → List Write → List Write
writes_after (item.Asked k key made) writes = drop 1 writes
writes_after (item.Refused k index id fault) writes = writes

-- what is set aside of a request
abbrev pub set_aside : List Item → List Write → List End → List ℕ
set_aside [] writes ends = []
set_aside (i ∷ items) writes ends = aside_text i writes ends ++ set_aside items (writes_after i writes) (ends_after i ends)
