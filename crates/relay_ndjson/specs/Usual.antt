-- Action lines in the usual form: no blanks, no escapes, the index name before the id.
use Rattle.std.specs.Prelude.{ℕ, List, ◌++◌, codes, Option, None, Some}
use Rattle.relay_json.specs.Plain.{IsPlain}
use Rattle.relay_action.specs.declared.action.ActionKind.{ActionKind}
use Rattle.relay_action.specs.declared.action.ActionKind.TheVariants as action

-- the start of a line, up to the first name in the metadata
abbrev pub usual_start : ActionKind → List ℕ
usual_start action.Index = codes "{\"index\":{"
usual_start action.Delete = codes "{\"delete\":{"

-- the index name, if it is given, and what follows it
abbrev pub with_index : Option (List ℕ) → List ℕ → List ℕ
with_index None rest = rest
with_index (Some index) rest = codes "\"_index\":\"" ++ (index ++ (codes "\"," ++ rest))

-- the id, and the end of the line
abbrev pub usual_id : List ℕ → List ℕ
usual_id id = codes "\"_id\":\"" ++ (id ++ codes "\"}}")

abbrev pub usual_line : ActionKind → Option (List ℕ) → List ℕ → List ℕ
usual_line a index id = usual_start a ++ with_index index (usual_id id)

abbrev pub IsPlainIndex : Option (List ℕ) → Type 0
IsPlainIndex None = Unit {0}
IsPlainIndex (Some index) = IsPlain index
