use Rattle.std.proofs.Common.{◌+◌, length, vec_len, refl, sym, ap, ◌∙◌, subst, arith}
use Rattle.relay_keeping.specs.Keepers.{Keeping}
use Rattle.relay_keeping.specs.Tellers.{AreNewInputs, AreNewLanes}
use Rattle.relay_keeping.proofs.Seats.{split_first, split_others}
use Rattle.relay_keeping.proofs.channel.keep_marks.Goals as goal

pub new_inputs-requires-clause-fresh : goal.new_inputs-requires-clause-fresh
new_inputs-requires-clause-fresh c =
    let p = length c.args.starts.now in
    let o = c.in_ok-others.ensures in
    (c.in_ok-take.take.channel, split_first c.in_ok-take.take.channel c.in_ok-take.ends.items c.split_off.new.self.items p c.args.lanes (p + c.args.lanes) (vec_len c.split_off.new.self) c.in_ok-take.ensures.tells refl o.items o.len)

pub new_lanes-requires : goal.new_lanes-requires
new_lanes-requires c =
    let p = length c.args.starts.now in
    let o = c.in_ok-others.ensures in (
      c.in_ok-take.take.channel,
      p,
      split_others c.in_ok-take.take.channel c.in_ok-take.ends.items c.in_ok-others.others.items p c.args.lanes (p + c.args.lanes) (vec_len c.in_ok-others.others) c.in_ok-take.ensures.tells refl o.tail (let t = o.tail_len in let l = c.in_ok-take.ensures.len in omega (arith, t, l)),
    )

pub returns-clause-inputs : goal.returns-clause-inputs
returns-clause-inputs c =
    let p = length c.args.starts.now in
    let o = c.in_ok-others.ensures in
    let channel = c.in_ok-take.take.channel in
    let same = ap (λ (k : Keeping). k.channel) (c.keeper.view_is ∙ c.in_ok-keeper.ensures) in
    subst (λ ch. AreNewInputs ch 0 c.args.starts.now c.in_ok-new_inputs.field-0.items) (sym same)
    (c.in_ok-new_inputs.ensures channel (split_first channel c.in_ok-take.ends.items c.split_off.new.self.items p c.args.lanes (p + c.args.lanes) (vec_len c.split_off.new.self) c.in_ok-take.ensures.tells refl o.items o.len))

pub returns-clause-lanes : goal.returns-clause-lanes
returns-clause-lanes c =
    let p = length c.args.starts.now in
    let o = c.in_ok-others.ensures in
    let channel = c.in_ok-take.take.channel in
    let same = ap (λ (k : Keeping). k.channel) (c.keeper.view_is ∙ c.in_ok-keeper.ensures) in
    subst (λ ch. AreNewLanes ch p c.in_ok-new_lanes.field-0.items) (sym same)
    (c.in_ok-new_lanes.ensures.new channel p
    (split_others channel c.in_ok-take.ends.items c.in_ok-others.others.items p c.args.lanes (p + c.args.lanes) (vec_len c.in_ok-others.others) c.in_ok-take.ensures.tells refl o.tail (let t = o.tail_len in let l = c.in_ok-take.ensures.len in omega (arith, t, l))))
