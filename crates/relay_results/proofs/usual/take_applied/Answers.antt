use Rattle.std.proofs.Common.{◌++◌, List, ℕ, ap, ◌∙◌, codes, decimal}
use Rattle.relay_results.proofs.usual.take_applied.Goals as goal

pub returns-clause-text : goal.returns-clause-text
returns-clause-text c =
    c.in_ok-version.ensures ∙ ap (λ (t : List ℕ). codes "\"_version\":" ++ (decimal c.in_ok-version.version ++ t)) (c.in_ok-after.ensures ∙ ap (λ (t : List ℕ). codes ",\"result\":\"" ++ t) c.in_ok-result.ensures.text)
