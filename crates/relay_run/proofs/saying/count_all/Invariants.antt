use Rattle.std.proofs.Common.{◌≡◌, ◌++◌}
use Rattle.std.specs.Vec.Iter.{into_iter_items}
use Rattle.relay_common.specs.Counts.{total}
use Rattle.relay_run.specs.Outcomes.{reports_of}
use Rattle.relay_run.proofs.saying.count_all.Given as goal

-- what was counted, and then what is left
abbrev pub invariant-loop-lane : goal.invariant-loop-lane
invariant-loop-lane g l = record {
  reports : l.reports.items ++ reports_of (into_iter_items l.lane-iterator) ≡ reports_of l.fn.lanes.items;
  applied : total (λ s. s.applied) l.applied (into_iter_items l.lane-iterator) ≡ total (λ s. s.applied) 0 l.fn.lanes.items;
  already : total (λ s. s.already) l.already (into_iter_items l.lane-iterator) ≡ total (λ s. s.already) 0 l.fn.lanes.items;
}
