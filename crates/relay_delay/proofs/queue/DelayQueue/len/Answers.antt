use Rattle.std.proofs.Common.{◌≤◌, length, ap, subst, arith}
use Rattle.relay_delay.specs.Waiting.{Delays}
use Rattle.relay_delay.proofs.Delaying.{counted}
use Rattle.relay_delay.proofs.queue.DelayQueue.len.Goals as goal

pub overflow_add-result : goal.overflow_add-result
overflow_add-result c = let d = c.self.inside in let i = c.self.invariant.delayed in omega (arith, i.count, i.fits, c.len.ensures, c.len-2.ensures, d.front.ok.0)

pub overflow_add-result-2 : goal.overflow_add-result-2
overflow_add-result-2 c = let d = c.self.inside in let i = c.self.invariant.delayed in omega (arith, i.count, i.fits, c.len.ensures, c.len-2.ensures, c.len-3.ensures, d.front.ok.0)

pub returns-clause-len : goal.returns-clause-len
returns-clause-len c =
    let d = c.self.inside in
    let n = counted d.front.items d.ready.entries d.later.entries in
    let s = ap (λ (s : Delays). length s.entries) c.self.view_is in
    omega (arith, n, s, c.len.ensures, c.len-2.ensures, c.len-3.ensures, d.front.ok.0)

pub returns-clause-room : goal.returns-clause-room
returns-clause-room c =
    let d = c.self.inside in
    let n = counted d.front.items d.ready.entries d.later.entries in
    let i = c.self.invariant.delayed in
    subst (λ (s : Delays). length s.entries ≤ s.room) c.self.view_is (let m = i.count in omega (arith, n, m))
