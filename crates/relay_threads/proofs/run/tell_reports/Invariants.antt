use Rattle.std.proofs.Common.{◌≡◌, ◌-◌, length}
use Rattle.relay_threads.specs.Told.{TellsMore}
use Rattle.relay_threads.proofs.run.tell_reports.Given as goal

abbrev pub invariant-loop-told : goal.invariant-loop-told
invariant-loop-told g l = record {
  told : TellsMore (g.T.Tell.told l.fn.tell) (g.T.Tell.told l.tell) l.fn.told l.told l.lane.state l.lane.state;
  destination : g.T.Tell.destination l.tell ≡ g.T.Tell.destination l.fn.tell;
}

abbrev pub decreases-loop-told : goal.decreases-loop-told
decreases-loop-told g l = length l.reports - l.told
