-- The text of a state: one JSON object (RFC 8259) on one line, without spaces, and a line feed.
use Rattle.std.specs.Prelude.{◌≡◌, ℕ, List, [], ◌∷◌, ◌++◌, codes, Result, Ok, Err, IsTrue}
use Rattle.serde_json.specs.Data.{Data, string, number, unsigned, array, object, Items, no_items, item, member, no_members}
use Rattle.serde_json.specs.Written.{compact_text}
use Rattle.hex.specs.Hex.{encode_lower}
use Rattle.relay_resume.specs.declared.state.InputState.{InputState}
use Rattle.relay_resume.specs.declared.state.State.{State}
use Rattle.relay_resume.specs.declared.fault.StateFault.{StateFault}
use Rattle.relay_resume.specs.declared.fault.StateFault.TheVariants as fault
use Rattle.relay_resume.specs.States.{IsState, fits}

-- an input, with its members in the order in which they are written
abbrev pub input_data : InputState → Data
input_data i =
    object (member (codes "path") (string i.path)
    (member (codes "device") (number (unsigned i.device))
    (member (codes "inode") (number (unsigned i.inode))
    (member (codes "checked") (number (unsigned i.checked))
    (member (codes "digest") (string (encode_lower i.digest))
    (member (codes "offset") (number (unsigned i.mark.offset))
    (member (codes "line") (number (unsigned i.mark.line))
    (member (codes "count") (number (unsigned i.mark.count)) no_members))))))))

abbrev pub inputs_data : List InputState → Items
inputs_data [] = no_items
inputs_data (i ∷ is) = item (input_data i) (inputs_data is)

-- a state, with its members in the order in which they are written
abbrev pub state_data : State → Data
state_data s =
    object (member (codes "epoch") (number (unsigned s.epoch))
    (member (codes "inputs") (array (inputs_data s.inputs)) no_members))

-- the text of a state
unfoldable pub state_text : State → List ℕ
state_text s = compact_text (state_data s) ++ 10 ∷ []

-- Exactly the texts of states within their limits are read, each as its state; or an allocation failed.
abbrev pub Reads : List ℕ → Result State StateFault → Type 0
Reads bytes (Ok s) = IsTrue (fits s) × (bytes ≡ state_text s) × ((t : State) → IsState t → bytes ≡ state_text t → s ≡ t)
Reads bytes (Err fault.Form) = (t : State) → IsState t → bytes ≡ state_text t → ⊥
Reads bytes (Err fault.Memory) = Unit {0}
