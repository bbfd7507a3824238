use Rattle.std.proofs.Common.{◌<◌, sym, ap, subst, ◌∙◌, refl}
use Rattle.relay_delay.specs.Waiting.{first_due}
use Rattle.relay_delay.specs.Heaps.{Heap}
use Rattle.relay_delay.proofs.Dues.{later_first_due, top_is}
use Rattle.relay_delay.proofs.later.Later.first_due.Goals as goal

pub returns : goal.returns
returns c =
    let e = c.in_ok-top.ensures in
    let heap = c.self.inside.heap in
    sym (later_first_due c.in_ok-top.top.now heap.data.items (top_is c.in_ok-top.top.now heap.data.items (subst (λ n. 0 < n) heap.data.ok.0 (e.variant.0 refl)) e.lookup) (e.greatest c.self.invariant.order))
    ∙ ap (λ (h : Heap). first_due h.entries) c.self.view_is
