use Rattle.std.proofs.Common.{vec_len, sym}
use Rattle.relay_run.proofs.Writing.{opens_other}
use Rattle.relay_run.proofs.resuming.Inputs.push_start.Goals as goal

pub returns : goal.returns
returns c path =
    opens_other (vec_len c.args.self.now.starts) path c.args.self.now.producers.items c.args.self.now.inputs.items c.args.self.now.starts.items c.push.new.self.items c.args.start
    (sym c.args.self.now.starts.ok.0) c.in_ok-push.ensures.items
