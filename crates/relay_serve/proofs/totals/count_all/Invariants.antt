use Rattle.std.proofs.Common.{◌≡◌, vec_len}
use Rattle.std.specs.Vec.Iter.{into_iter_items}
use Rattle.relay_common.specs.Counts.{total}
use Rattle.relay_serve.proofs.totals.count_all.Given as goal

-- what was counted, and then what is left
abbrev pub invariant-lanes : goal.invariant-lanes
invariant-lanes g l = record {
  applied : total (λ s. s.applied) l.applied (into_iter_items l.lane-iterator) ≡ total (λ s. s.applied) l.fn.before.applied l.fn.summary.lanes.items;
  already : total (λ s. s.already) l.already (into_iter_items l.lane-iterator) ≡ total (λ s. s.already) l.fn.before.already l.fn.summary.lanes.items;
  reported : total (λ s. vec_len s.reports) l.reported (into_iter_items l.lane-iterator) ≡ total (λ s. vec_len s.reports) l.fn.before.reported l.fn.summary.lanes.items;
}
