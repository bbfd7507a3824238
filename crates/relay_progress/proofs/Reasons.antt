-- A reason is the one that its code stands for.
use Rattle.std.proofs.Common.{◌≡◌, refl}
use Rattle.relay_results.specs.declared.cause.Loss.{Loss}
use Rattle.relay_results.specs.declared.cause.Loss.TheVariants as loss
use Rattle.relay_progress.specs.Reasons.{code_of, loss_of}

pub loss_of-code_of : (l : Loss) → loss_of (code_of l) ≡ l
loss_of-code_of loss.Refused = refl
loss_of-code_of loss.Unreachable = refl
loss_of-code_of loss.TimedOut = refl
loss_of-code_of loss.Closed = refl
loss_of-code_of loss.Unreadable = refl
loss_of-code_of loss.Memory = refl
