-- The outside of a wire to an index.
use Rattle.std.specs.Prelude.{ℕ, List, Option, Some, None}
use Rattle.relay_action.specs.declared.write.Write.{Write}
use Rattle.relay_results.specs.declared.outcome.Outcome.{Outcome}
use Rattle.relay_results.specs.Numbers.{from_zero}
use Rattle.relay_results.specs.Outside.{Outside, EachWasRun}
use Rattle.relay_fixtures.specs.Runs.{IsSent}

-- the outstanding request was sent, and each entry that waits for it is that of a run of its item
pub record Waits (number : ℕ) (reply : List Outcome) (o : Outside) : Type 0 where
  pub writes : List Write
  pub sent : IsSent (from_zero number) writes o
  pub each : EachWasRun o.runs (from_zero number) 0 reply

abbrev pub IsOutWith : Option ℕ → List Outcome → Outside → Type 0
IsOutWith None reply o = Unit {0}
IsOutWith (Some number) reply o = Waits number reply o
