use Rattle.std.proofs.Common.{rules}
use Rattle.std.proofs.lemmas.List.Sorted.{IsNonDecreasingBy-from_sort_by_key}
use Rattle.relay_core.specs.declared.report.Report.{Report}
use Rattle.relay_run.specs.Outcomes.{place_of}
use Rattle.relay_run.proofs.outcome.sort_by_name.Goals as goal

pub returns-clause-order : goal.returns-clause-order
returns-clause-order c =
    IsNonDecreasingBy-from_sort_by_key (λ (r : Report). place_of r.name) _ c.sort_unstable_by_key.ensures.sorted (λ a r f k. search rules)
