use Rattle.std.proofs.Common.{length, length-append, sym, ap, ◌∙◌, arith}
use Rattle.std.specs.Prelude.{slice_get}
use Rattle.relay_delay.specs.Waiting.{Delays, due_entries}
use Rattle.relay_delay.proofs.Delaying.{moved, due_here, get_front}
use Rattle.relay_delay.proofs.queue.DelayQueue.due_at.Goals as goal

pub bring_all-requires-clause-enough : goal.bring_all-requires-clause-enough
bring_all-requires-clause-enough c =
    let d = c.self.inside in
    let n = ap length (due_here d.clock d.room d.front.items d.ready d.later c.self.invariant.delayed) in
    let m = length-append d.front.items d.ready.entries in
    let s = ap (λ (s : Delays). length (due_entries s)) c.self.view_is in
    let e = c.count_due.ensures in let lt = c.if-at-count_due.false in
    omega (arith, n, m, s, e, lt)

pub bring_all-requires-clause-room : goal.bring_all-requires-clause-room
bring_all-requires-clause-room c =
    let d = c.self.inside in
    let n = ap length (due_here d.clock d.room d.front.items d.ready d.later c.self.invariant.delayed) in
    let m = length-append d.front.items d.ready.entries in
    let s = ap (λ (s : Delays). length (due_entries s)) c.self.view_is in
    let count = c.self.invariant.delayed.count in let room = c.self.invariant.front_room in
    let e = c.count_due.ensures in let lt = c.if-at-count_due.false in
    omega (arith, n, m, s, count, room, e, lt)

pub invariant_of-self : goal.invariant_of-self
invariant_of-self c =
    let d = c.self.inside in
    let e = c.bring_all.ensures in
    record {
      delayed = (moved d.clock d.room d.front.items c.bring_all.new.front.items d.ready c.bring_all.new.ready d.later c.self.invariant.delayed e.kept e.room).delayed;
      front_room = (let cap = e.capacity in let room = c.self.invariant.front_room in omega (arith, cap, room));
    }

pub returns-clause-found : goal.returns-clause-found
returns-clause-found c =
    let d = c.self.inside in
    let e = c.bring_all.ensures in
    let le = e.count in
    c.place.ensures
    ∙ sym (get_front c.bring_all.new.front.items c.bring_all.new.ready.entries c.args.at (omega (arith, le)))
    ∙ ap (λ xs. slice_get xs c.args.at) (e.kept ∙ sym (due_here d.clock d.room d.front.items d.ready d.later c.self.invariant.delayed))
    ∙ ap (λ (s : Delays). slice_get (due_entries s) c.args.at) c.self.view_is
