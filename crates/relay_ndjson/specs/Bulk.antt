-- The bulk text of writes: the lines of a request `POST /_bulk` in the OpenSearch bulk API, with the keys of an
-- action line in byte order and without spaces.
use Rattle.std.specs.Prelude.{◌≡◌, ◌<◌, ◌^◌, ℕ, Some, length, take, List, [], ◌∷◌, ◌++◌, codes}
use Rattle.std.specs.List.{flat_map}
use Rattle.serde_json.specs.Data.{Data, string, number, unsigned, object, member, no_members}
use Rattle.serde_json.specs.Read.{read}
use Rattle.serde_json.specs.Written.{compact_text}
use Rattle.relay_action.specs.Actions.{kind_of, kind_name}
use Rattle.relay_action.specs.declared.action.Action.{Action}
use Rattle.relay_action.specs.declared.action.Action.TheVariants.{Index, Delete}
use Rattle.relay_action.specs.declared.write.Write.{Write}

-- the metadata of a write, with its keys in byte order
abbrev pub metadata : Write → Data
metadata w =
    object (member (codes "_id") (string w.key.id)
    (member (codes "_index") (string w.key.index)
    (member (codes "version") (number (unsigned w.version))
    (member (codes "version_type") (string (codes "external")) no_members))))

-- the JSON value of a write's action line
abbrev pub action_data : Write → Data
action_data w = object (member (kind_name (kind_of w.action)) (metadata w) no_members)

-- the end of a line
abbrev pub line_end : List ℕ
line_end = 10 ∷ []

-- the action line of a write, without its end
unfoldable pub action_text : Write → List ℕ
action_text w = compact_text (action_data w)

-- an action line reads back as its JSON value
abbrev pub ActionLinesReadBack : Type 0
ActionLinesReadBack = (w : Write) → w.version < 2 ^ 64 → read (action_text w) ≡ Some (action_data w)

-- the source of an index action, on its own line
abbrev pub source_line : Action → List ℕ
source_line (Index source) = source.text ++ line_end
source_line Delete = []

-- the lines of a write
abbrev pub write_text : Write → List ℕ
write_text w = action_text w ++ line_end ++ source_line w.action

-- the lines of writes, one after another
abbrev pub text_of : List Write → List ℕ
text_of = flat_map write_text

-- the start of an action line, up to the text of the id
abbrev pub opening : Action → List ℕ
opening (Index source) = codes "{\"index\":{\"_id\":\""
opening Delete = codes "{\"delete\":{\"_id\":\""

-- a text begins with another
abbrev pub Begins : List ℕ → List ℕ → Type 0
Begins front text = take (length front) text ≡ front
