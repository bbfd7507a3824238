use Rattle.std.proofs.Common.{◌++◌, List, ℕ, ap, ◌∙◌, codes, decimal}
use Rattle.relay_results.proofs.usual.take_shards.Goals as goal

pub returns-clause-text : goal.returns-clause-text
returns-clause-text c =
    let failed = c.in_ok-failed.ensures ∙ ap (λ (t : List ℕ). codes ",\"failed\":" ++ (decimal c.in_ok-failed.failed ++ t)) c.in_ok-rest.ensures in
    let successful = c.in_ok-successful.ensures ∙ ap (λ (t : List ℕ). codes ",\"successful\":" ++ (decimal c.in_ok-successful.successful ++ t)) failed in
    c.in_ok-total.ensures ∙ ap (λ (t : List ℕ). codes "\"_shards\":{\"total\":" ++ (decimal c.in_ok-total.total ++ t)) successful
