use Rattle.std.proofs.Common.{arith}
use Rattle.relay_delay.proofs.Delaying.{all_moved}
use Rattle.relay_delay.proofs.queue.DelayQueue.tick.Goals as goal

pub invariant_of-self : goal.invariant_of-self
invariant_of-self c =
    let d = c.self.inside in
    let e = c.come_due.ensures in
    record {
      delayed = all_moved d.clock d.room c.args.clock d.front.items c.come_due.new.front.items d.ready c.come_due.new.ready d.later c.come_due.new.later c.self.invariant.delayed e.same e.due e.none e.ready_room e.later_room;
      front_room = (let cap = e.capacity in let room = c.self.invariant.front_room in omega (arith, cap, room));
    }
