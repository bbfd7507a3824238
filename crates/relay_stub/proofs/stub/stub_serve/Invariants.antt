use Rattle.std.proofs.Common.{◌-◌, ◌≤◌}
use Rattle.relay_index.specs.Serving.{under}
use Rattle.relay_stub.specs.Visits.{VisitsAll}
use Rattle.relay_stub.proofs.stub.stub_serve.Given as goal

-- this many were served, and no more than were asked for
abbrev pub invariant-loop-served : goal.invariant-loop-served
invariant-loop-served g l =
    let shows = g.L.Listen.shows in
    record {
      visits : VisitsAll l.served (shows l.fn.listener) (under l.fn.index l.fn.script) (shows l.listener) (under l.index l.script);
      within : l.served ≤ l.requests;
    }

abbrev pub decreases-loop-served : goal.decreases-loop-served
decreases-loop-served g l = l.requests - l.served
