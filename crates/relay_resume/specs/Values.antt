-- The JSON value of a state's text: the members of each object, with their keys in byte order (RFC 8259 gives them no
-- order).
use Rattle.std.specs.Prelude.{◌≡◌, List, [], ◌∷◌, codes, ℕ, Some}
use Rattle.serde_json.specs.Data.{Data, Num, string, number, unsigned, array, object, Items, no_items, item, Members, member, no_members}
use Rattle.serde_json.specs.Read.{read}
use Rattle.serde_json.specs.Written.{compact_text}
use Rattle.hex.specs.Hex.{encode_lower}
use Rattle.relay_resume.specs.declared.state.InputState.{InputState}
use Rattle.relay_resume.specs.declared.state.State.{State}
use Rattle.relay_resume.specs.States.{IsState}
use Rattle.relay_resume.specs.Texts.{state_data}

abbrev pub in_order : List ℕ → List ℕ → Num → Num → Num → Num → Num → Num → Members
in_order path digest device inode checked offset line count =
    member (codes "checked") (number checked)
    (member (codes "count") (number count)
    (member (codes "device") (number device)
    (member (codes "digest") (string digest)
    (member (codes "inode") (number inode)
    (member (codes "line") (number line)
    (member (codes "offset") (number offset)
    (member (codes "path") (string path) no_members)))))))

abbrev pub input_value : InputState → Data
input_value i =
    object (in_order i.path (encode_lower i.digest) (unsigned i.device) (unsigned i.inode) (unsigned i.checked)
    (unsigned i.mark.offset) (unsigned i.mark.line) (unsigned i.mark.count))

abbrev pub inputs_value : List InputState → Items
inputs_value [] = no_items
inputs_value (i ∷ is) = item (input_value i) (inputs_value is)

abbrev pub state_value : State → Data
state_value s =
    object (member (codes "epoch") (number (unsigned s.epoch)) (member (codes "inputs") (array (inputs_value s.inputs)) no_members))

-- the line of a state within its limits is JSON, with this value
abbrev pub StatesAreJson : Type 0
StatesAreJson = (s : State) → IsState s → read (compact_text (state_data s)) ≡ Some (state_value s)
