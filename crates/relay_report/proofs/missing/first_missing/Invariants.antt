use Rattle.std.proofs.Common.{◌≡◌, drop}
use Rattle.relay_report.specs.Missing.{first_missing}
use Rattle.relay_report.proofs.missing.first_missing.Given as goal

-- none of the names so far is missing
abbrev pub invariant-names : goal.invariant-names
invariant-names l = first_missing l.counts (drop l.name-index l.names) ≡ first_missing l.counts l.names
