use Rattle.std.specs.Prelude.{min}
use Rattle.std.proofs.Common.{◌≡◌, ◌+◌, ◌*◌, ◌≤◌}
use Rattle.std.specs.Duration.{as_nanos, max_nanos}
use Rattle.relay_action.specs.Streams.{FailedSince, one_more, most}
use Rattle.relay_net.specs.Retrying.{second}
use Rattle.relay_net.proofs.patient.PatientDialDial.dial.Given as goal

-- a try has failed, for this reason, each that was made is counted, and a second was slept before each but the first
abbrev pub invariant-tries : goal.invariant-tries
invariant-tries g l = record {
  failed : FailedSince (g.D.Dial.failed l.fn.self.0) (g.D.Dial.failed l.self.0);
  tells : g.D.Dial.tells l.self.0 l.fault;
  tries : g.D.Dial.failed l.self.0 ≤ g.D.Dial.failed l.fn.self.0 + l.counter + 1;
  calls : g.D.Dial.dialled l.self.0 ≡ min (g.D.Dial.dialled l.fn.self.0 + (l.counter + 1)) most;
  patience : l.self.1 ≡ l.fn.self.1;
  count : l.self.2 ≡ l.fn.self.2;
  dialled : l.self.3 ≡ one_more l.fn.self.3;
  slept : l.fn.self.4.slept + l.counter * second ≤ max_nanos → l.self.4.slept ≡ l.fn.self.4.slept + l.counter * second;
  later : l.fn.self.4.time ≤ as_nanos l.start;
}
