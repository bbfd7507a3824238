-- Why a request was lost, as a number.
use Rattle.std.specs.Prelude.{ℕ, ◌==◌, if◌then◌else◌}
use Rattle.relay_results.specs.declared.cause.Loss.{Loss}
use Rattle.relay_results.specs.declared.cause.Loss.TheVariants as loss

abbrev pub code_of : Loss → ℕ
code_of loss.Closed = 0
code_of loss.Refused = 1
code_of loss.Unreachable = 2
code_of loss.TimedOut = 3
code_of loss.Unreadable = 4
code_of loss.Memory = 5

-- the reason with a code, which is the one that it is the code of (`loss_of-code_of` in proofs/Reasons.antt)
abbrev pub loss_of : ℕ → Loss
loss_of code =
    if code == 0 then loss.Closed
    else if code == 1 then loss.Refused
    else if code == 2 then loss.Unreachable
    else if code == 3 then loss.TimedOut
    else if code == 4 then loss.Unreadable
    else loss.Memory
