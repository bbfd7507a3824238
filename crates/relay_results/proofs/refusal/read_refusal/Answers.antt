use Rattle.std.proofs.Common.{subst}
use Rattle.relay_json.proofs.Results.{if_ok-map}
use Rattle.relay_results.specs.Replies.{KeepsReason, Given}
use Rattle.relay_results.proofs.refusal.read_refusal.Goals as goal

pub returns-in-Ok : goal.returns-in-Ok
returns-in-Ok c =
    let found = c.in-Ok.ensures.ok in
    if_ok-map c.reason_of.result (λ r k. Given found.0 found.1 (subst (λ x. KeepsReason x r) found.2 k)) c.reason_of.ensures
