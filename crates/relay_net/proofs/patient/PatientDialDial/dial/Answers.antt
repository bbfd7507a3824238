use Rattle.std.proofs.Common.{rules}
use Rattle.std.specs.Duration.{as_nanos}
use Rattle.relay_net.proofs.Retrying.{tried_again, tries_are_over}
use Rattle.relay_net.proofs.patient.PatientDialDial.dial.Goals as goal
use Rattle.relay_net.proofs.patient.PatientDialDial.dial.Goals.{else-tries-test, then-tries-test+then-is_over}

-- src/patient.rt:105:31
pub returns-in-Ok-dial-clause-retried : goal.returns-in-Ok-dial-clause-retried
returns-in-Ok-dial-clause-retried g c = tried_again c.args.self.now.1 c.tries.counter (g.D.Dial.dialled c.args.self.now.0)
    (g.D.Dial.dialled c.tries.self.0) (g.D.Dial.dialled c.dial-in-tries.new.self) c.args.self.now.4 c.tries.self.4 c.sleep.new.self
    (as_nanos c.now-start.result) (search rules) c.tries.invariant.calls (search rules) c.tries.invariant.slept (search rules)
    c.tries.invariant.later

-- src/patient.rt:83:5
pub returns-clause-retried : goal.returns-clause-retried
returns-clause-retried g c = elim c.tries-test.branch [
  | else-tries-test w ↦ tries_are_over c.args.self.now.1 c.tries.counter (g.D.Dial.dialled c.args.self.now.0)
      (g.D.Dial.dialled c.fail.new.self.0) c.args.self.now.4 c.fail.new.self.4 (as_nanos c.now-start.result)
      (search rules) (search rules) (search rules) c.tries.invariant.later (search rules)
  | then-tries-test+then-is_over w ↦ tries_are_over c.args.self.now.1 c.tries.counter (g.D.Dial.dialled c.args.self.now.0)
      (g.D.Dial.dialled c.fail.new.self.0) c.args.self.now.4 c.fail.new.self.4 (as_nanos c.now-start.result)
      (search rules) (search rules) (search rules) c.tries.invariant.later (search rules)
]
