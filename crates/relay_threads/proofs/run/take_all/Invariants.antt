use Rattle.std.proofs.Common.{◌≡◌}
use Rattle.relay_lane.specs.Out.{out_of}
use Rattle.relay_threads.specs.Told.{HasTold}
use Rattle.relay_threads.proofs.run.take_all.Given as goal

abbrev pub invariant-messages : goal.invariant-messages
invariant-messages g l = record {
  queue : l.take.queue ≡ l.fn.take.queue;
  senders : l.take.senders ≡ l.fn.take.senders;
  out : g.W.Wire.out l.wire ≡ out_of l.lane.state;
  describes : g.W.Wire.describes l.wire ≡ g.W.Wire.describes l.fn.wire;
  told : HasTold (g.W.Wire.describes l.fn.wire) g.W.Wire.fits g.W.Wire.carries l.fn.wire l.wire l.fn.lane.state.config (g.T.Tell.told l.fn.tell) (g.T.Tell.told l.tell) l.told l.lane.state l.take.taken;
  destination : g.T.Tell.destination l.tell ≡ g.T.Tell.destination l.fn.tell;
}
