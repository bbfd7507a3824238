use Rattle.relay_results.specs.declared.cause.Loss.TheVariants as loss
use Rattle.relay_results.specs.Outside.{Sends, after}
use Rattle.relay_lane_tests.proofs.Losses.{sent_out, sends_on, unsent, unsent_on, other_out}
use Rattle.relay_lane_tests.proofs.losing.LosingWire.send.Goals as goal

pub returns-then-is_some-clause-outside : goal.returns-then-is_some-clause-outside
returns-then-is_some-clause-outside c described o out next =
    (unsent loss.Unreachable o c.args.number c.args._writes.now, other_out loss.Unreachable c.args.self.now.flying o c.args.number c.args._writes.now next out, unsent_on loss.Unreachable o c.args.number c.args._writes.now next)

pub returns-clause-outside : goal.returns-clause-outside
returns-clause-outside c described o out next =
    (after (Sends c.args._writes.now) o, sent_out loss.Closed o c.args.number c.args._writes.now next, sends_on o c.args._writes.now)
