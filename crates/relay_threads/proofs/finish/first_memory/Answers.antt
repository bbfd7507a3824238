use Rattle.std.proofs.Common.{arith, sym, ◌∙◌, ◌<◌, length}
use Rattle.relay_threads.specs.Faults.{ends_as, is_memory}
use Rattle.relay_threads.proofs.Firsts.{none_more, ends_here}
use Rattle.relay_threads.proofs.finish.first_memory.Goals as goal

pub returns-then-is_memory : goal.returns-then-is_memory
returns-then-is_memory g c =
    let lt : c.loop-lane.lane < length c.args.ends.now.items = omega (arith, c.args.ends.now.ok.0, c.loop-lane-test.true, c.len-lane-end.ensures) in (
      omega (arith, c.loop-lane-test.true, c.len-lane-end.ensures),
      ends_here is_memory c.args.ends.now.items c.loop-lane.lane c.index.result.now lt c.index.ensures ∙ sym c.is_memory.ensures ∙ c.if-is_memory.true,
      c.loop-lane.invariant,
    )

pub loop-lane-preserved : goal.loop-lane-preserved
loop-lane-preserved g c =
    let lt : c.loop-lane.lane < length c.args.ends.now.items = omega (arith, c.args.ends.now.ok.0, c.loop-lane-test.true, c.len-lane-end.ensures) in
    none_more (ends_as is_memory c.args.ends.now.items) c.loop-lane.lane c.loop-lane.invariant (ends_here is_memory c.args.ends.now.items c.loop-lane.lane c.index.result.now lt c.index.ensures ∙ sym c.is_memory.ensures ∙ c.if-is_memory.false)
