-- The state of a run, and its limits.
use Rattle.std.specs.Prelude.{◌≡◌, ℕ, ◌<◌, ◌^◌, ◌&&◌, nat_le, Bool, IsTrue, List, [], ◌∷◌, length, IsUtf8}
use Rattle.std.specs.List.{list_all}
use Rattle.hex.specs.Hex.{IsBytes}
use Rattle.relay_resume.specs.declared.mark.Mark.{Mark}
use Rattle.relay_resume.specs.declared.state.InputState.{InputState}
use Rattle.relay_resume.specs.declared.state.State.{State}

abbrev pub last_epoch : ℕ
last_epoch = 4194303

abbrev pub input_limit : ℕ
input_limit = 16

abbrev pub path_limit : ℕ
path_limit = 4096

abbrev pub checked_limit : ℕ
checked_limit = 1024

-- an input is within its limits: its path is not empty
abbrev pub input_fits : InputState → Bool
input_fits i = nat_le 1 (length i.path) && nat_le (length i.path) path_limit && nat_le i.checked checked_limit

-- a state is within its limits
abbrev pub fits : State → Bool
fits s = nat_le s.epoch last_epoch && nat_le (length s.inputs) input_limit && list_all input_fits s.inputs

-- what the types of its fields say of every input: numbers of 64 bits, text in UTF-8, and 32 bytes
pub record IsMark (m : Mark) : Type 0 where
  pub offset : m.offset < 2 ^ 64
  pub line : m.line < 2 ^ 64
  pub count : m.count < 2 ^ 64

pub record IsInput (i : InputState) : Type 0 where
  pub path : IsUtf8 i.path
  pub device : i.device < 2 ^ 64
  pub inode : i.inode < 2 ^ 64
  pub checked : i.checked < 2 ^ 64
  pub bytes : IsBytes i.digest
  pub size : length i.digest ≡ 32
  pub mark : IsMark i.mark

abbrev pub AreInputs : List InputState → Type 0
AreInputs [] = Unit {0}
AreInputs (i ∷ is) = IsInput i × AreInputs is

-- a state that is within its limits
pub record IsState (s : State) : Type 0 where
  pub inputs : AreInputs s.inputs
  pub fits : IsTrue (fits s)
