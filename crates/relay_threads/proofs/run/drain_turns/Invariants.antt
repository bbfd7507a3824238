use Rattle.std.proofs.Common.{◌≡◌, List}
use Rattle.relay_action.specs.declared.mail.Mail.{Mail}
use Rattle.relay_lane.specs.Out.{out_of}
use Rattle.relay_lane.specs.Turns.{work_left}
use Rattle.relay_threads.specs.Told.{GoesOnTelling}
use Rattle.relay_threads.proofs.run.drain_turns.Given as goal

abbrev pub invariant-turns : goal.invariant-turns
invariant-turns g l = record {
  closed : l.lane.state.closed ≡ l.fn.lane.state.closed;
  out : g.W.Wire.out l.wire ≡ out_of l.lane.state;
  describes : g.W.Wire.describes l.wire ≡ g.W.Wire.describes l.fn.wire;
  told : (heard : List Mail) → GoesOnTelling (g.W.Wire.describes l.fn.wire) g.W.Wire.fits g.W.Wire.carries l.fn.wire l.wire (g.T.Tell.told l.fn.tell) (g.T.Tell.told l.tell) l.fn.told l.told l.fn.lane.state l.lane.state heard heard;
  destination : g.T.Tell.destination l.tell ≡ g.T.Tell.destination l.fn.tell;
}

abbrev pub decreases-turns : goal.decreases-turns
decreases-turns g l = work_left l.lane.state
