use Rattle.std.proofs.Common.{◌++◌, length, ap, ◌∙◌, arith}
use Rattle.relay_delay.specs.Waiting.{Delays, has_version}
use Rattle.relay_delay.proofs.Sorting.{inserted_fresh}
use Rattle.relay_delay.proofs.Delaying.{inserted_rises, insert_later, insert_due, counted, shown_inserted}
use Rattle.relay_delay.proofs.queue.DelayQueue.insert.Goals as goal

pub push-requires-clause-room : goal.push-requires-clause-room
push-requires-clause-room c =
    let d = c.self.inside in
    let n = counted d.front.items d.ready.entries d.later.entries in
    let s = ap (λ (s : Delays). length s.entries) c.self.view_is in
    let t = ap (λ (s : Delays). s.room) c.self.view_is in
    let few = c.requires.room in let room = c.self.invariant.delayed.later_room in
    omega (arith, n, s, t, few, room)

pub push-requires-clause-fresh : goal.push-requires-clause-fresh
push-requires-clause-fresh c =
    let d = c.self.inside in
    (inserted_fresh c.args.one.version d.later.entries (d.front.items ++ d.ready.entries) (ap (λ (s : Delays). has_version c.args.one.version s.entries) c.self.view_is ∙ c.requires.fresh)).0

pub invariant_of-self : goal.invariant_of-self
invariant_of-self c =
    let d = c.self.inside in
    let s = ap (λ (s : Delays). length s.entries) c.self.view_is in
    let t = ap (λ (s : Delays). s.room) c.self.view_is in
    let few = c.requires.room in
    record {
      delayed = (insert_later d.clock d.room d.front.items d.ready d.later c.push.new.self c.args.one c.self.invariant.delayed c.if-self-one.true
          (ap (λ (s : Delays). has_version c.args.one.version s.entries) c.self.view_is ∙ c.requires.fresh) (omega (arith, s, t, few)) c.push.ensures.room c.push.ensures.entries).delayed;
      front_room = c.self.invariant.front_room;
    }

pub returns-then-self-one : goal.returns-then-self-one
returns-then-self-one c =
    let d = c.self.inside in
    let s = ap (λ (s : Delays). length s.entries) c.self.view_is in
    let t = ap (λ (s : Delays). s.room) c.self.view_is in
    let few = c.requires.room in
    shown_inserted c.args.one d.clock d.room _ _ c.args.self.now c.self.view_is
    (insert_later d.clock d.room d.front.items d.ready d.later c.push.new.self c.args.one c.self.invariant.delayed c.if-self-one.true
    (ap (λ (s : Delays). has_version c.args.one.version s.entries) c.self.view_is ∙ c.requires.fresh) (omega (arith, s, t, few)) c.push.ensures.room c.push.ensures.entries).entries

pub add-requires-clause-rises : goal.add-requires-clause-rises
add-requires-clause-rises c = let d = c.self.inside in inserted_rises d.later.entries (d.front.items ++ d.ready.entries) c.self.invariant.delayed.rises

pub add-requires-clause-fresh : goal.add-requires-clause-fresh
add-requires-clause-fresh c =
    let d = c.self.inside in
    (inserted_fresh c.args.one.version d.later.entries (d.front.items ++ d.ready.entries) (ap (λ (s : Delays). has_version c.args.one.version s.entries) c.self.view_is ∙ c.requires.fresh)).1

pub add-requires-clause-room : goal.add-requires-clause-room
add-requires-clause-room c =
    let d = c.self.inside in
    let n = counted d.front.items d.ready.entries d.later.entries in
    let s = ap (λ (s : Delays). length s.entries) c.self.view_is in
    let t = ap (λ (s : Delays). s.room) c.self.view_is in
    let few = c.requires.room in let room = c.self.invariant.delayed.ready_room in
    omega (arith, n, s, t, few, room)

pub invariant_of-self-else-self-one : goal.invariant_of-self-else-self-one
invariant_of-self-else-self-one c =
    let d = c.self.inside in
    let s = ap (λ (s : Delays). length s.entries) c.self.view_is in
    let t = ap (λ (s : Delays). s.room) c.self.view_is in
    let few = c.requires.room in
    record {
      delayed = (insert_due d.clock d.room d.front.items c.add.new.front.items d.ready c.add.new.ready d.later c.args.one c.self.invariant.delayed c.if-self-one.false
          (ap (λ (s : Delays). has_version c.args.one.version s.entries) c.self.view_is ∙ c.requires.fresh) (omega (arith, s, t, few)) c.add.ensures.room c.add.ensures.added).delayed;
      front_room = (let cap = c.add.ensures.capacity in let room = c.self.invariant.front_room in omega (arith, cap, room));
    }

pub returns-else-self-one : goal.returns-else-self-one
returns-else-self-one c =
    let d = c.self.inside in
    let s = ap (λ (s : Delays). length s.entries) c.self.view_is in
    let t = ap (λ (s : Delays). s.room) c.self.view_is in
    let few = c.requires.room in
    shown_inserted c.args.one d.clock d.room _ _ c.args.self.now c.self.view_is
    (insert_due d.clock d.room d.front.items c.add.new.front.items d.ready c.add.new.ready d.later c.args.one c.self.invariant.delayed c.if-self-one.false
    (ap (λ (s : Delays). has_version c.args.one.version s.entries) c.self.view_is ∙ c.requires.fresh) (omega (arith, s, t, few)) c.add.ensures.room c.add.ensures.added).entries
