-- For the steps that write a state: the texts of its inputs.
use Rattle.std.specs.Prelude.{ℕ, List, [], ◌∷◌, ◌++◌, Bool, true}
use Rattle.serde_json.specs.Written.{comma_if, compact_text}
use Rattle.relay_resume.specs.declared.state.InputState.{InputState}
use Rattle.relay_resume.specs.Texts.{input_data}

unfoldable pub input_text : InputState → List ℕ
input_text i = compact_text (input_data i)

-- with a comma before each but the first, and the bracket after them
abbrev pub inputs_text : Bool → List InputState → List ℕ
inputs_text later [] = 93 ∷ []
inputs_text later (i ∷ is) = comma_if later ++ (input_text i ++ inputs_text true is)
