use Rattle.std.proofs.Common.{arith, sym, ap, ◌∙◌, ◌<◌, ◌||◌, length, map}
use Rattle.relay_threads.specs.Faults.{is_gone_kind, is_gone_lane, is_gone_in_any}
use Rattle.relay_threads.proofs.Firsts.{none_more, ends_here}
use Rattle.relay_threads.proofs.finish.first_gone.Goals as goal

pub returns-then-is_lost : goal.returns-then-is_lost
returns-then-is_lost g c =
    let lt : c.loop-lane.lane < length c.args.ends.now.items = omega (arith, c.args.ends.now.ok.0, c.loop-lane-test.true, c.len-lane-end.ensures) in
    let rows = map (λ r. r.items) c.args.rows.now.items in (
      omega (arith, c.loop-lane-test.true, c.len-lane-end.ensures),
      ap (λ b. b || is_gone_in_any rows c.loop-lane.lane) (ends_here is_gone_kind c.args.ends.now.items c.loop-lane.lane c.index.result.now lt c.index.ensures) ∙ sym c.is_lost.ensures ∙ c.if-is_lost.true,
      c.loop-lane.invariant,
    )

pub loop-lane-preserved : goal.loop-lane-preserved
loop-lane-preserved g c =
    let lt : c.loop-lane.lane < length c.args.ends.now.items = omega (arith, c.args.ends.now.ok.0, c.loop-lane-test.true, c.len-lane-end.ensures) in
    let rows = map (λ r. r.items) c.args.rows.now.items in
    none_more (is_gone_lane c.args.ends.now.items rows) c.loop-lane.lane c.loop-lane.invariant (ap (λ b. b || is_gone_in_any rows c.loop-lane.lane) (ends_here is_gone_kind c.args.ends.now.items c.loop-lane.lane c.index.result.now lt c.index.ensures) ∙ sym c.is_lost.ensures ∙ c.if-is_lost.false)
