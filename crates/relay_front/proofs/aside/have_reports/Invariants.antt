use Rattle.std.proofs.Common.{◌≡◌, drop}
use Rattle.std.specs.List.{list_any}
use Rattle.relay_front.specs.Asides.{have_reports, is_reported}
use Rattle.relay_front.proofs.aside.have_reports.Given as goal

-- whether any that is left is a report is whether any is
abbrev pub invariant-ends : goal.invariant-ends
invariant-ends l = have_reports l.ends ≡ list_any is_reported (drop l.end-index l.ends)
