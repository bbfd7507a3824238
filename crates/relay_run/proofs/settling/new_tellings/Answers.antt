use Rattle.std.proofs.Common.{subst}
use Rattle.std.specs.Vec.Iter.{into_iter_items}
use Rattle.relay_run.specs.Places.{AreNewTellings, input_teller}
use Rattle.relay_run.specs.Settling.{teller_of}
use Rattle.relay_run.proofs.Meeting.{gives_seen}
use Rattle.relay_run.proofs.Places.{untold_one}
use Rattle.relay_run.proofs.settling.new_tellings.Goals as goal

pub inputs-preserved : goal.inputs-preserved
inputs-preserved c =
    let i = c.inputs.invariant in
    let step = c.in-Some.ensures.steps.0 in
    let all = subst AreNewTellings step i.others in
    let teller = c.new.ensures.teller in
    let more = c.in_ok-push.ensures.items in
    record {
      others = all.1;
      same = gives_seen teller_of input_teller c.args.inputs.items _ (into_iter_items c.next.new.self) c.inputs.tellings.items c.push.new.self.items c.new.result c.in-Some.input i.same step more (λ j. (teller.0 j, teller.1 j));
      new = untold_one c.inputs.tellings.items c.push.new.self.items c.new.result i.new c.new.ensures.places more;
    }
