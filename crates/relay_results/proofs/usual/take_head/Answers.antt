use Rattle.std.proofs.Common.{◌++◌, List, ℕ, ap, ◌∙◌, codes, decimal}
use Rattle.relay_results.proofs.usual.take_head.Goals as goal

pub returns : goal.returns
returns c = c.in_ok-took.ensures ∙ ap (λ (t : List ℕ). codes "{\"took\":" ++ (decimal c.in_ok-took.took ++ t)) c.in_ok-after.ensures
