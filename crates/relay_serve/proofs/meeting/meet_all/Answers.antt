use Rattle.std.proofs.Common.{◌+◌, [], ◌∷◌, ◌++◌, ap, sym, subst, ◌∙◌, append_assoc}
use Rattle.std.specs.Vec.Iter.{into_iter_items}
use Rattle.relay_telling.specs.Destinations.{TellOn}
use Rattle.relay_telling.specs.New.{channels_of}
use Rattle.relay_serve.specs.Meeting.{AllMet}
use Rattle.relay_serve.proofs.Meets.{channels_are, lanes_more}
use Rattle.relay_serve.proofs.meeting.meet_all.Goals as goal

pub meet_lane-requires : goal.meet_lane-requires
meet_lane-requires c =
    let i = c.lanes.invariant in
    let channels = channels_of c.args.receipts.items in
    let on = subst (TellOn channels i.others.0) c.in-Some.ensures.steps.0 i.others.1 in
    record { channels = channels_are i.others.0 channels c.in-Some.lane.ends.items on.0 ∙ ap channels_of (sym i.same) }

pub lanes-preserved : goal.lanes-preserved
lanes-preserved c =
    let i = c.lanes.invariant in
    let lane = c.in-Some.lane in
    let rest = into_iter_items c.next.new.self in
    let step = c.in-Some.ensures.steps.0 in
    let on = subst (TellOn (channels_of c.args.receipts.items) i.others.0) step i.others.1 in
    record {
      same = c.in_ok-taken-2.ensures.same ∙ i.same;
      well = i.well;
      met = (
        i.met.0 ++ lane ∷ [],
        i.met.1 ∙ ap (λ l. i.met.0 ++ l) step ∙ sym (append_assoc i.met.0 (lane ∷ []) rest),
        lanes_more c.args.receipts.items i.met.0 lane i.met.2 (subst (λ l. AllMet l lane.ends.items) i.same c.in_ok-taken-2.ensures.met),
      );
      others = (i.others.0 + 1, on.1);
    }
