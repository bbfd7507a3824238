use Rattle.std.proofs.Common.{◌++◌, sym, ap, ◌∙◌, refl, arith}
use Rattle.std.specs.Prelude.{slice_get, Some}
use Rattle.relay_delay.specs.Waiting.{Delays, due_entries}
use Rattle.relay_delay.proofs.Delaying.{taken, popped, due_here, none_here, shown_left}
use Rattle.relay_delay.proofs.queue.DelayQueue.take_due.Goals as goal

pub invariant_of-self : goal.invariant_of-self
invariant_of-self c =
    let d = c.self.inside in
    record {
      delayed = (taken d.clock d.room d.front.items c.pop_front.new.self.items d.ready d.ready d.later c.in-Some.one c.self.invariant.delayed (ap (λ xs. xs ++ d.ready.entries) c.in-Some.ensures.items) refl).delayed;
      front_room = (let cap = c.in-Some.ensures.capacity in let room = c.self.invariant.front_room in omega (arith, cap, room));
    }

pub invariant_of-self-in-None : goal.invariant_of-self-in-None
invariant_of-self-in-None c =
    let d = c.self.inside in
    record {
      delayed = (popped d.clock d.room d.front.items c.pop_front.new.self.items d.ready c.pop.new.self d.later c.pop.result c.self.invariant.delayed (none_here d.front.items d.front.len d.front.ok.0 c.in-None.ensures.cases.0) c.in-None.ensures.items c.pop.ensures.room c.pop.ensures.one c.pop.ensures.entries).delayed;
      front_room = (let cap = c.in-None.ensures.capacity in let room = c.self.invariant.front_room in omega (arith, cap, room));
    }

pub returns-in-Some-clause-first : goal.returns-in-Some-clause-first
returns-in-Some-clause-first c =
    let d = c.self.inside in
    sym (ap (λ xs. slice_get xs 0) (due_here d.clock d.room d.front.items d.ready d.later c.self.invariant.delayed ∙ ap (λ xs. xs ++ d.ready.entries) c.in-Some.ensures.items))
    ∙ ap (λ (s : Delays). slice_get (due_entries s) 0) c.self.view_is

pub returns-in-Some-clause-left : goal.returns-in-Some-clause-left
returns-in-Some-clause-left c =
    let d = c.self.inside in
    shown_left (Some c.in-Some.one) d.clock d.room _ _ c.args.self.now c.self.view_is
    (taken d.clock d.room d.front.items c.pop_front.new.self.items d.ready d.ready d.later c.in-Some.one c.self.invariant.delayed (ap (λ xs. xs ++ d.ready.entries) c.in-Some.ensures.items) refl).entries

pub returns-in-None-clause-first : goal.returns-in-None-clause-first
returns-in-None-clause-first c =
    let d = c.self.inside in
    (popped d.clock d.room d.front.items c.pop_front.new.self.items d.ready c.pop.new.self d.later c.pop.result c.self.invariant.delayed (none_here d.front.items d.front.len d.front.ok.0 c.in-None.ensures.cases.0) c.in-None.ensures.items c.pop.ensures.room c.pop.ensures.one c.pop.ensures.entries).first
    ∙ ap (λ (s : Delays). slice_get (due_entries s) 0) c.self.view_is

pub returns-in-None-clause-left : goal.returns-in-None-clause-left
returns-in-None-clause-left c =
    let d = c.self.inside in
    shown_left c.pop.result d.clock d.room _ _ c.args.self.now c.self.view_is
    (popped d.clock d.room d.front.items c.pop_front.new.self.items d.ready c.pop.new.self d.later c.pop.result c.self.invariant.delayed (none_here d.front.items d.front.len d.front.ok.0 c.in-None.ensures.cases.0) c.in-None.ensures.items c.pop.ensures.room c.pop.ensures.one c.pop.ensures.entries).left
