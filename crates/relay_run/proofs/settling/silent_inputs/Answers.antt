use Rattle.std.proofs.Common.{arith}
use Rattle.relay_run.proofs.Places.{untold_one}
use Rattle.relay_run.proofs.settling.silent_inputs.Goals as goal

pub inputs-preserved : goal.inputs-preserved
inputs-preserved c =
    let i = c.inputs.invariant in record {
      count = omega (arith, i.count, c.in_ok-push.ensures.len);
      new = untold_one c.inputs.tellings.items c.push.new.self.items c.silent.result i.new c.silent.ensures.places c.in_ok-push.ensures.items;
    }
