-- Each operation that a lane takes ends once.
use Rattle.std.specs.Prelude.{◌≡◌, ◌+◌, ℕ, Bool}
use Rattle.relay_action.specs.declared.mail.Body.{Body}
use Rattle.relay_action.specs.declared.operation.Op.{Op}
use Rattle.relay_action.specs.declared.operation.OpName.{OpName}
use Rattle.relay_results.specs.Words.{count}
use Rattle.relay_results.specs.Documents.{name_of, same_name}
use Rattle.relay_delivery.specs.Lane.{held_of}
use Rattle.relay_core.specs.declared.config.RelayConfig.{RelayConfig}
use Rattle.relay_core.specs.Endings.{is_held_as, is_success_as, is_report_as}
use Rattle.relay_core.specs.State.{State, fresh, after_take, without_successes}
use Rattle.relay_core.specs.Ties.{ops_of}
use Rattle.relay_lane.specs.Turns.{Turn, after_turn, Worked}

abbrev pub is_op_as : OpName → Op → Bool
is_op_as n o = same_name n (name_of o)

-- how many operations with this name the lane holds, notes as applied, or reports
abbrev pub times : OpName → State → ℕ
times n s = count (is_held_as n) (held_of s.core.held) + count (is_success_as n) s.successes + count (is_report_as n) s.core.reports

-- a new lane has none
abbrev pub FreshHasNone : Type 0
FreshHasNone = (c : RelayConfig) (n : OpName) → times n (fresh c) ≡ 0

-- an operation that is taken is one more
abbrev pub TakeAddsOne : Type 0
TakeAddsOne = (s : State) (sender : ℕ) (b : Body) (n : OpName) → times n (after_take s sender b) ≡ times n s + count (is_op_as n) (ops_of b)

-- no turn adds or loses one, whatever was answered in it
abbrev pub TurnKeepsTimes : Type 0
TurnKeepsTimes = (t : Turn) (s : State) (n : OpName) → times n (after_turn t s) ≡ times n s

abbrev pub WorkKeepsTimes : Type 0
WorkKeepsTimes = (going : Turn → State → Bool) (s t : State) (n : OpName) → Worked going s t → times n t ≡ times n s

-- those that are forgotten are passed on
abbrev pub ForgettingPassesOn : Type 0
ForgettingPassesOn = (s : State) (n : OpName) → times n s ≡ times n (without_successes s) + count (is_success_as n) s.successes
