use Rattle.std.proofs.Common.{length, sym, ap, ◌∙◌}
use Rattle.std.proofs.lemmas.List.{length-map}
use Rattle.relay_run.specs.Places.{input_teller}
use Rattle.relay_run.specs.Settling.{teller_of}
use Rattle.relay_run.proofs.Meeting.{new_bounds, new_count, new_tellings}
use Rattle.relay_run.proofs.Savers.{untold_lanes}
use Rattle.relay_run.proofs.settling.Ends.new.Goals as goal

pub new_tellings-requires : goal.new_tellings-requires
new_tellings-requires c = new_tellings c.in_ok-keeper.field-0.keeper.channel 0 c.args.starts.now c.in_ok-keeper.field-0.inputs.items c.in_ok-keeper.ensures.inputs

pub returns-clause-inputs : goal.returns-clause-inputs
returns-clause-inputs c =
    let made = c.in_ok-keeper.field-0 in
    c.in_ok-inputs.inputs.ok.0
    ∙ (sym (length-map c.in_ok-inputs.inputs.items teller_of)
    ∙ (ap length c.in_ok-inputs.ensures.tellers ∙ (length-map made.inputs.items input_teller ∙ new_count made.keeper.channel 0 c.args.starts.now made.inputs.items c.in_ok-keeper.ensures.inputs)))

pub returns-clause-new : goal.returns-clause-new
returns-clause-new c = (c.in_ok-inputs.ensures.new, untold_lanes c.in_ok-keeper.field-0.keeper.channel (length c.args.starts.now) c.in_ok-keeper.field-0.lanes.items c.in_ok-keeper.ensures.lanes)

pub returns-clause-told : goal.returns-clause-told
returns-clause-told c =
    let made = c.in_ok-keeper.field-0 in
    new_bounds made.keeper c.args.starts.now c.args.lanes c.in_ok-inputs.inputs.items made.inputs.items made.lanes.items c.in_ok-keeper.ensures.keeper c.in_ok-keeper.ensures.inputs c.in_ok-keeper.ensures.lanes
    (sym made.lanes.ok.0 ∙ c.in_ok-keeper.ensures.count) c.in_ok-inputs.ensures.tellers
