use Rattle.std.proofs.Common.{arith}
use Rattle.relay_run.proofs.Writing.{opens_pushed}
use Rattle.relay_run.proofs.resuming.Inputs.push.Goals as goal

pub returns : goal.returns
returns c =
    opens_pushed c.args.producer c.args.self.now.producers.items c.push-2.new.self.items c.args.self.now.inputs.items c.push-3.new.self.items c.args.self.now.starts.items c.push.new.self.items c.args.input
    (let n = c.args.self.now.starts.ok.0 in let r = c.requires in omega (arith, n, r))
    c.in_ok-push-2.ensures.items c.in_ok-push-3.ensures.items c.in_ok-push.ensures.items
