use Rattle.std.proofs.Common.{◌≡◌, ℕ, length}
use Rattle.relay_results.specs.Outside.{Outside}
use Rattle.relay_index.specs.Runs.{Shows}
use Rattle.relay_fixtures.specs.Runs.{IsSent, RanSome}
use Rattle.relay_fixtures.proofs.runs.run_all.Given as goal

abbrev pub invariant-loop-write : goal.invariant-loop-write
invariant-loop-write l = record {
  count : length l.entries.items ≡ l.write-index;
  ran : (o : Outside) (number : ℕ) → Shows o l.fn.index → IsSent number l.writes o → RanSome number 0 l.index o l.entries.items;
}
