use Rattle.std.proofs.Common.{subst, arith}
use Rattle.relay_receipts.specs.Ends.{TakeEnd}
use Rattle.relay_receipts.specs.Notices.{IsWellTaken}
use Rattle.relay_keeping.specs.declared.told.Told.{Told}
use Rattle.relay_keeping.specs.Keepers.{AllWere, Keeping}
use Rattle.relay_keeping.specs.Meeting.{AllMet, AreSeated, input_ends, lane_ends}
use Rattle.relay_keeping.proofs.Founding.{founded}
use Rattle.relay_keeping.proofs.keeper.Kept.meet.Goals as goal

pub returns-clause-founded : goal.returns-clause-founded
returns-clause-founded c =
    let v = c.args.self in
    let d = c.self.inside in
    let inputs = c.args.inputs in
    let lanes = c.args.lanes in
    let view = c.self.view_is in
    let well = subst (λ (k : Keeping). IsWellTaken k.tellers k.taken) view c.self.invariant.0 in
    let were = subst (λ (k : Keeping). AllWere k.starts k.taken k.given) view c.self.invariant.1 in
    let inputs_met = subst (λ (k : Keeping). AllMet k.taken (input_ends inputs.items)) view c.meet_inputs-taken.ensures.met in
    let lanes_met = subst (λ (k : Keeping). AllMet k.taken (lane_ends lanes.items)) view (subst (λ (t : TakeEnd Told). AllMet t.taken (lane_ends lanes.items)) c.meet_inputs-taken.ensures.same c.meet_lanes-taken.ensures.met) in
    let p = inputs.ok.0 in
    let q = lanes.ok.0 in
    founded v.channel v.tellers v.starts v.taken v.given inputs.items lanes.items (record {
      well_taken = well;
      input_seats = c.requires.inputs;
      lane_seats = subst (λ n. AreSeated v.channel n (lane_ends lanes.items)) p c.requires.lanes;
      all = (let a = c.requires.all in omega (arith, a, p, q));
      inputs_met = inputs_met;
      lanes_met = lanes_met;
      puts = c.meet_inputs-taken.ensures.only;
      tells = c.meet_lanes-taken.ensures.only;
    }) c.requires.starts were
