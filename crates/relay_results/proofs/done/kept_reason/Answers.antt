use Rattle.std.proofs.Common.{◌≡◌, ◌∙◌, IfOk, subst}
use Rattle.relay_results.proofs.Reasons.{kept_is}
use Rattle.relay_results.proofs.done.kept_reason.Goals as goal

pub returns : goal.returns
returns c =
    let same = kept_is c.args.id.now c.as_str.result.now c.cut.result.now c.args.conflict (c.as_str.ensures.value ∙ c.in_ok-reason.ensures) c.cut.ensures in
    subst (λ text. IfOk c.new.result (λ t. t ≡ text)) same c.new.ensures
