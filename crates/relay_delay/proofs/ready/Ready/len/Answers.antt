use Rattle.std.proofs.Common.{ap, length, arith}
use Rattle.relay_delay.specs.Heaps.{Heap}
use Rattle.relay_delay.proofs.Heaping.{ready_length}
use Rattle.relay_delay.proofs.ready.Ready.len.Goals as goal

pub returns : goal.returns
returns c =
    let heap = c.self.inside.heap in let line = c.self.inside.line in
    let n = ready_length heap.data.items line.items in
    let s = ap (λ (h : Heap). length h.entries) c.self.view_is in
    omega (arith, n, s, c.len.ensures, c.len-2.ensures, heap.data.ok.0, line.ok.0)
