use Rattle.std.proofs.Common.{◌≤◌, ◌∙◌, arith}
use Rattle.relay_delay.proofs.Dues.{due_now, due_later, after_clock}
use Rattle.std.specs.Prelude.{length, Some, None}
use Rattle.relay_delay.specs.Waiting.{due_entries}
use Rattle.relay_delay.proofs.queue.DelayQueue.due_in.Goals as goal

pub returns-then-count_due-gt0 : goal.returns-then-count_due-gt0
returns-then-count_due-gt0 c = due_now c.args.self.now (let e = c.count_due.ensures in let lt = c.if-count_due-gt0.true in omega (arith, e, lt))

pub overflow_sub-result : goal.overflow_sub-result
overflow_sub-result c = let lt = after_clock c.self.inside.clock c.in_ok-due.due c.self.inside.later.entries c.self.invariant.delayed.not_due c.in_ok-due.ensures in omega (arith, lt)

pub returns : goal.returns
returns c =
    let d = c.self.inside in
    let few : length (due_entries c.args.self.now) ≤ 0 = let e = c.count_due.ensures in let le = c.if-count_due-gt0.false in omega (arith, e, le) in
    due_later d.clock d.room d.front.items d.ready d.later (Some c.in_ok-due.due) c.args.self.now c.self.invariant.delayed c.self.view_is few c.in_ok-due.ensures

pub returns-in_err-due : goal.returns-in_err-due
returns-in_err-due c =
    let d = c.self.inside in
    let few : length (due_entries c.args.self.now) ≤ 0 = let e = c.count_due.ensures in let le = c.if-count_due-gt0.false in omega (arith, e, le) in
    c.from_residual.ensures ∙ due_later d.clock d.room d.front.items d.ready d.later None c.args.self.now c.self.invariant.delayed c.self.view_is few c.in_err-due.ensures
