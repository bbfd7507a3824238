use Rattle.std.proofs.Common.{◌∷◌, ◌++◌}
use Rattle.relay_results.proofs.Stated.{never_ends, says_number}
use Rattle.relay_results.proofs.stating.stored_version.Goals as goal

pub returns-in_err-after : goal.returns-in_err-after
returns-in_err-after c = rw c.from_residual.ensures (λ version s. c.in_err-after.ensures.none s.before (s.digits ++ 93 ∷ s.after) s.mark)

pub returns-in_err-digits : goal.returns-in_err-digits
returns-in_err-digits c =
    let mark = c.in_ok-after.ensures.some in
    rw c.from_residual-in_err-digits.ensures (λ version s. never_ends _ mark.0 _ version mark.1 c.in_err-digits.ensures s)

pub returns : goal.returns
returns c =
    let mark = c.in_ok-after.ensures.some in
    let cut = c.in_ok-digits.ensures in
    says_number _ mark.0 _ _ cut.0 c.number_of.result mark.1 cut.1 c.number_of.ensures.some c.number_of.ensures.none
