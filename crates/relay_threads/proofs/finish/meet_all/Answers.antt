use Rattle.std.proofs.Common.{arith, ◌∙◌, subst}
use Rattle.std.specs.Vec.Iter.{into_iter_items}
use Rattle.relay_queue.specs.Ends.{TakerEnd}
use Rattle.relay_threads.specs.Sums.{IsMet}
use Rattle.relay_threads.proofs.Meeting.{meets_on}
use Rattle.relay_threads.proofs.finish.meet_all.Goals as goal

pub loop-end-preserved : goal.loop-end-preserved
loop-end-preserved c =
    let i = c.loop-end.invariant in
    let s = c.in-Some.ensures.steps in
    record {
      same = c.meet_one-taken.ensures.same ∙ i.same;
      left = omega (arith, i.left, s.1);
      meets = meets_on c.args.taken.queue c.args.taken.taken c.args.column.items _ (into_iter_items c.next.new.self) c.loop-end.sender c.in-Some.end i.meets s.0 (subst (λ (t : TakerEnd). IsMet c.loop-end.sender t.taken c.in-Some.end) i.same c.meet_one-taken.ensures.met);
    }
