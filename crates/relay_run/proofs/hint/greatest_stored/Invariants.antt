use Rattle.std.proofs.Common.{take}
use Rattle.relay_run.specs.Hints.{IsGreatestStored}
use Rattle.relay_run.proofs.hint.greatest_stored.Given as goal

abbrev pub invariant-loop-report : goal.invariant-loop-report
invariant-loop-report l = IsGreatestStored (take l.report-index l.fn.reports) l.greatest
