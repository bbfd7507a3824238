-- For the steps that read a state: what is found in a JSON value.
use Rattle.std.specs.Prelude.{◌≡◌, ℕ, ◌^◌, nat_lt, if◌then◌else◌, List, [], ◌∷◌, Option, None, Some, option_map, option_and_then, codes, Result, Ok, Err, IsUtf8}
use Rattle.serde_json.specs.Data.{Data, Items, no_items, item}
use Rattle.serde_json.specs.Find.{as_array, as_number, as_str, as_u64, get}
use Rattle.serde_json.specs.Read.{read}
use Rattle.hex.specs.Hex.{decode_sized}
use Rattle.hex.specs.declared.error.FromHexError.{FromHexError}
use Rattle.relay_resume.specs.declared.finding.Numbers.{Numbers}
use Rattle.relay_resume.specs.declared.mark.Mark.{Mark}
use Rattle.relay_resume.specs.declared.state.InputState.{InputState}
use Rattle.relay_resume.specs.declared.state.State.{State}

abbrev pub number_at : List ℕ → Data → Option ℕ
number_at name d = option_and_then as_u64 (option_and_then as_number (get name d))

abbrev pub text_at : List ℕ → Data → Option (List ℕ)
text_at name d = option_and_then as_str (get name d)

abbrev pub numbers_with : Option ℕ → Option ℕ → Option ℕ → Option Numbers
numbers_with (Some device) (Some inode) (Some checked) = Some (record { device = device; inode = inode; checked = checked })
numbers_with device inode checked = None

abbrev pub numbers_of : Data → Option Numbers
numbers_of d = numbers_with (number_at (codes "device") d) (number_at (codes "inode") d) (number_at (codes "checked") d)

abbrev pub mark_with : Option ℕ → Option ℕ → Option ℕ → Option Mark
mark_with (Some offset) (Some line) (Some count) = Some (record { offset = offset; line = line; count = count })
mark_with offset line count = None

abbrev pub mark_of : Data → Option Mark
mark_of d = mark_with (number_at (codes "offset") d) (number_at (codes "line") d) (number_at (codes "count") d)

abbrev pub digest_by : Result (List ℕ) FromHexError → Option (List ℕ)
digest_by (Ok bytes) = Some bytes
digest_by (Err e) = None

abbrev pub digest_of : Data → Option (List ℕ)
digest_of d = option_and_then (λ text. digest_by (decode_sized text 32)) (text_at (codes "digest") d)

abbrev pub input_with : Option (List ℕ) → Option Numbers → Option (List ℕ) → Option Mark → Option InputState
input_with (Some path) (Some ns) (Some digest) (Some mark) =
    Some (record { path = path; device = ns.device; inode = ns.inode; checked = ns.checked; digest = digest; mark = mark })
input_with path ns digest mark = None

unfoldable pub input_of : Data → Option InputState
input_of d = input_with (text_at (codes "path") d) (numbers_of d) (digest_of d) (mark_of d)

abbrev pub and_inputs : Option InputState → Option (List InputState) → Option (List InputState)
and_inputs (Some i) more = option_map (λ (is : List InputState). i ∷ is) more
and_inputs None more = None

abbrev pub inputs_of : Items → Option (List InputState)
inputs_of no_items = Some []
inputs_of (item d ds) = and_inputs (input_of d) (inputs_of ds)

abbrev pub state_with : Option ℕ → Option (List InputState) → Option State
state_with (Some epoch) (Some inputs) = Some (record { epoch = epoch; inputs = inputs })
state_with epoch inputs = None

abbrev pub epoch_of : Data → Option ℕ
epoch_of d = option_and_then (λ n. if nat_lt n (2 ^ 32) then Some n else None) (number_at (codes "epoch") d)

unfoldable pub state_of : Data → Option State
state_of d = state_with (epoch_of d) (option_and_then inputs_of (option_and_then as_array (get (codes "inputs") d)))

-- the state in a line, if it is a JSON value that has one
abbrev pub state_read : List ℕ → Option State
state_read line = option_and_then state_of (read line)

abbrev pub IsFoundIn : List ℕ → Option State → Type 0
IsFoundIn line (Some s) = state_read line ≡ Some s
IsFoundIn line None = IsUtf8 line → state_read line ≡ None
