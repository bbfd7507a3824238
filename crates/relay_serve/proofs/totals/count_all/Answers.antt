use Rattle.std.proofs.Common.{◌+◌, ap, vec_len, ◌∙◌}
use Rattle.relay_ndjson.specs.Operations.{saturating_count}
use Rattle.std.specs.Vec.Iter.{into_iter_items}
use Rattle.relay_common.proofs.Totals.{total_on}
use Rattle.relay_serve.proofs.totals.count_all.Goals as goal

pub lanes-preserved : goal.lanes-preserved
lanes-preserved g c =
    let i = c.lanes.invariant in
    let s = c.in-Some.ensures.steps.0 in
    let others = into_iter_items c.next.new.self in
    record {
      applied = total_on (λ s. s.applied) c.lanes.applied c.saturating_add-applied.result _ _ others c.in-Some.lane s c.saturating_add-applied.ensures i.applied;
      already = total_on (λ s. s.already) c.lanes.already c.saturating_add-already.result _ _ others c.in-Some.lane s c.saturating_add-already.ensures i.already;
      reported = total_on (λ s. vec_len s.reports) c.lanes.reported c.saturating_add-reported.result _ _ others c.in-Some.lane s (c.saturating_add-reported.ensures ∙ ap (λ n. saturating_count (c.lanes.reported + n)) c.len-reports.ensures) i.reported;
    }
