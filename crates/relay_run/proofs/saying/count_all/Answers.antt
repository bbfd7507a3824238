use Rattle.std.specs.Vec.Iter.{into_iter_items}
use Rattle.relay_common.proofs.Totals.{total_on}
use Rattle.relay_run.proofs.Texts.{reports_on}
use Rattle.relay_run.proofs.saying.count_all.Goals as goal

pub loop-lane-preserved : goal.loop-lane-preserved
loop-lane-preserved g c =
    let i = c.loop-lane.invariant in
    let s = c.in-Some.ensures.steps.0 in
    let others = into_iter_items c.next.new.self in
    record {
      reports = reports_on c.loop-lane.reports.items c.append.new.self.items _ _ others c.in-Some.lane s c.in_ok-append.ensures.items i.reports;
      applied = total_on (λ s. s.applied) c.loop-lane.applied c.saturating_add-applied.result _ _ others c.in-Some.lane s c.saturating_add-applied.ensures i.applied;
      already = total_on (λ s. s.already) c.loop-lane.already c.saturating_add-already.result _ _ others c.in-Some.lane s c.saturating_add-already.ensures i.already;
    }
