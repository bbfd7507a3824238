use Rattle.std.proofs.Common.{◌++◌, length, ap, ◌∙◌, subst, arith}
use Rattle.relay_delay.specs.Waiting.{Rises}
use Rattle.relay_delay.specs.Heaps.{insert_all}
use Rattle.relay_delay.proofs.Sorting.{length_insert}
use Rattle.relay_delay.proofs.Delaying.{inserted_rises, more_fresh, one_moves}
use Rattle.relay_delay.proofs.queue.come_due.Goals as goal

pub add-requires-clause-rises : goal.add-requires-clause-rises
add-requires-clause-rises c = inserted_rises c.due.later.entries (c.due.front.items ++ c.due.ready.entries) c.due.invariant.moving.rises

pub add-requires-clause-fresh : goal.add-requires-clause-fresh
add-requires-clause-fresh c =
    let es = c.due.front.items ++ c.due.ready.entries in
    (more_fresh c.in-Some.one c.pop_due.new.self.entries es (subst (λ xs. Rises (insert_all xs es)) c.in-Some.ensures.2 c.due.invariant.moving.rises)).1

pub add-requires-clause-room : goal.add-requires-clause-room
add-requires-clause-room c =
    let n = ap length c.in-Some.ensures.2 ∙ length_insert c.in-Some.one c.pop_due.new.self.entries in
    let count = c.due.invariant.moving.count in
    omega (arith, n, count)

pub due-smaller : goal.due-smaller
due-smaller c =
    let n = ap length c.in-Some.ensures.2 ∙ length_insert c.in-Some.one c.pop_due.new.self.entries in
    omega (arith, n)

pub due-preserved : goal.due-preserved
due-preserved c =
    let i = c.due.invariant in
    let e = c.in-Some.ensures in
    let m = one_moves c.args.clock c.due.front.items c.add.new.front.items c.due.ready c.add.new.ready c.due.later c.pop_due.new.self c.in-Some.one i.moving e.2 e.0 c.add.ensures.room c.add.ensures.added in
    let grows = c.add.ensures.room in let before = i.ready_room in
    record {
      moving = m.0;
      same = m.1 ∙ i.same;
      capacity = c.add.ensures.capacity ∙ i.capacity;
      ready_room = omega (arith, grows, before);
      later_room = e.1 ∙ i.later_room;
    }
