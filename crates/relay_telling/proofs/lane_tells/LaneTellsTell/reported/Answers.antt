use Rattle.std.proofs.Common.{subst}
use Rattle.relay_core.specs.Walk.{report_of}
use Rattle.relay_threads.specs.Told.{AddsReport}
use Rattle.relay_telling.specs.Shown.{shown_at}
use Rattle.relay_telling.proofs.ToldTo.{one_reported}
use Rattle.relay_telling.proofs.lane_tells.LaneTellsTell.reported.Goals as goal

pub returns-clause-ok : goal.returns-clause-ok
returns-clause-ok g c p =
    subst (λ r. AddsReport p (report_of r) (shown_at c.args.self.now.ends.items p) (shown_at c.tell.new.self.ends.items p)) c.in_ok-report.ensures
    (one_reported p c.in_ok-report.report c.args.self.now.ends.items c.tell.new.self.ends.items c.tell.ensures)
