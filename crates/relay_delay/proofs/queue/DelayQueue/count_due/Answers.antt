use Rattle.std.proofs.Common.{length, length-append, ap, arith}
use Rattle.relay_delay.specs.Waiting.{Delays, due_entries}
use Rattle.relay_delay.proofs.Delaying.{due_here}
use Rattle.relay_delay.proofs.queue.DelayQueue.count_due.Goals as goal

pub overflow_add-result : goal.overflow_add-result
overflow_add-result c = let d = c.self.inside in let i = c.self.invariant.delayed in omega (arith, i.count, i.fits, c.len.ensures, c.len-2.ensures, d.front.ok.0)

pub returns : goal.returns
returns c =
    let d = c.self.inside in
    let n = ap length (due_here d.clock d.room d.front.items d.ready d.later c.self.invariant.delayed) in
    let m = length-append d.front.items d.ready.entries in
    let s = ap (λ (s : Delays). length (due_entries s)) c.self.view_is in
    omega (arith, n, m, s, c.len.ensures, c.len-2.ensures, d.front.ok.0)
