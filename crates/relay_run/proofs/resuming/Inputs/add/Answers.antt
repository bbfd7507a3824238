use Rattle.std.proofs.Common.{subst}
use Rattle.relay_run.specs.Written.{OpensOne}
use Rattle.relay_run.proofs.resuming.Inputs.add.Goals as goal

pub returns-in_default : goal.returns-in_default
returns-in_default c =
    subst (λ n. OpensOne n c.args.path.now c.args.self.now.producers.items c.push_start.new.self.producers.items c.args.self.now.inputs.items c.push_start.new.self.inputs.items c.args.self.now.starts.items c.push_start.new.self.starts.items) c.requires (c.in_ok-push_start.ensures c.args.path.now)
