use Rattle.std.proofs.Common.{map, sym, subst, ◌∙◌, arith}
use Rattle.relay_keeping.specs.Keepers.{Keeping}
use Rattle.relay_keeping.specs.Meeting.{AreSeated, lane_ends}
use Rattle.relay_run.specs.Marks.{IsToldBy, bound}
use Rattle.relay_run.specs.Safe.{AllSafe, AllSafeStates}
use Rattle.relay_run.specs.Saving.{seat_of}
use Rattle.relay_run.specs.Settling.{teller_of}
use Rattle.relay_run.specs.Written.{ArePast, past_of}
use Rattle.relay_run.proofs.Meeting.{all_safe, meets, states_safe}
use Rattle.relay_run.proofs.marking.meet_marks.Goals as goal

pub meet-requires-clause-inputs : goal.meet-requires-clause-inputs
meet-requires-clause-inputs g c =
    let ts = map teller_of c.args.inputs.items in
    let ss = map seat_of c.args.tells.items in
    let m = meets c.end.result ts ss c.in_ok-inputs.inputs.items c.in_ok-lanes.lanes.items (subst (λ (k : Keeping). IsToldBy (bound k) ts ss) (sym c.end.ensures) c.requires.told) c.in_ok-inputs.ensures.ends c.in_ok-lanes.ensures.ends in m.producers

pub meet-requires-clause-lanes : goal.meet-requires-clause-lanes
meet-requires-clause-lanes g c =
    let ts = map teller_of c.args.inputs.items in
    let ss = map seat_of c.args.tells.items in
    let m = meets c.end.result ts ss c.in_ok-inputs.inputs.items c.in_ok-lanes.lanes.items (subst (λ (k : Keeping). IsToldBy (bound k) ts ss) (sym c.end.ensures) c.requires.told) c.in_ok-inputs.ensures.ends c.in_ok-lanes.ensures.ends in
    subst (λ n. AreSeated c.end.result.channel n (lane_ends c.in_ok-lanes.lanes.items)) (sym c.in_ok-inputs.inputs.ok.0) m.others

pub meet-requires-clause-all : goal.meet-requires-clause-all
meet-requires-clause-all g c =
    let ts = map teller_of c.args.inputs.items in
    let ss = map seat_of c.args.tells.items in
    let m = meets c.end.result ts ss c.in_ok-inputs.inputs.items c.in_ok-lanes.lanes.items (subst (λ (k : Keeping). IsToldBy (bound k) ts ss) (sym c.end.ensures) c.requires.told) c.in_ok-inputs.ensures.ends c.in_ok-lanes.ensures.ends in
    let all = m.all in
    let p = c.in_ok-inputs.inputs.ok.0 in
    let q = c.in_ok-lanes.lanes.ok.0 in
    omega (arith, all, p, q)

pub meet-requires-clause-starts : goal.meet-requires-clause-starts
meet-requires-clause-starts g c =
    let ts = map teller_of c.args.inputs.items in
    let ss = map seat_of c.args.tells.items in
    let m = meets c.end.result ts ss c.in_ok-inputs.inputs.items c.in_ok-lanes.lanes.items (subst (λ (k : Keeping). IsToldBy (bound k) ts ss) (sym c.end.ensures) c.requires.told) c.in_ok-inputs.ensures.ends c.in_ok-lanes.ensures.ends in m.starts

pub returns-clause-safe : goal.returns-clause-safe
returns-clause-safe g c =
    subst (λ (k : Keeping). AllSafe c.args.inputs.items c.args.tells.items k.given) (sym c.meet.ensures.same)
    (all_safe c.args.inputs.items c.args.tells.items c.in_ok-inputs.inputs.items c.in_ok-lanes.lanes.items c.end.result.given c.in_ok-inputs.ensures.told c.in_ok-lanes.ensures.told c.meet.ensures.founded)

pub returns-clause-states : goal.returns-clause-states
returns-clause-states g c =
    let inputs = c.args.inputs.items in
    let tells = c.args.tells.items in
    let run = c.args.state.now in
    let safe : AllSafe inputs tells c.args.marks.given = subst (λ (k : Keeping). AllSafe inputs tells k.given) c.end.ensures
    (all_safe inputs tells c.in_ok-inputs.inputs.items c.in_ok-lanes.lanes.items c.end.result.given c.in_ok-inputs.ensures.told c.in_ok-lanes.ensures.told c.meet.ensures.founded) in
    subst (λ files. AllSafeStates inputs tells (record { producers = run.reads.producers; files = files }) run.written) c.requires.paths
    (states_safe c.args.marks run inputs tells (map seat_of tells) c.requires.told c.requires.goes safe)

pub returns-clause-past : goal.returns-clause-past
returns-clause-past g c =
    subst (λ (k : Keeping). ArePast (past_of k) c.args.state.now.written) (sym (c.meet.ensures.same ∙ c.end.ensures)) c.requires.goes.past
