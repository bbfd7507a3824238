use Rattle.std.proofs.Common.{sym, ap, ◌∙◌}
use Rattle.relay_delay.specs.Waiting.{first_due}
use Rattle.relay_delay.specs.Heaps.{Heap}
use Rattle.relay_delay.proofs.Heaping.{later_popped, later_pop_entries}
use Rattle.relay_delay.proofs.Dues.{later_pop_due}
use Rattle.relay_delay.proofs.later.Later.pop.Goals as goal

pub invariant_of-self-2 : goal.invariant_of-self-2
invariant_of-self-2 c =
    let e = c.in_ok-top.ensures in
    later_popped c.in_ok-top.top c.self.inside.heap.data.items c.pop.new.self.data.items e.permutation (e.heap_order c.self.invariant.order).0 c.self.invariant

pub returns : goal.returns
returns c =
    let e = c.in_ok-top.ensures in
    let shown = sym (ap (λ (h : Heap). h.entries) c.self.view_is) in (
      ap first_due shown ∙ later_pop_due c.in_ok-top.top c.self.inside.heap.data.items c.pop.new.self.data.items e.permutation (e.heap_order c.self.invariant.order).1,
      e.capacity ∙ ap (λ (h : Heap). h.room) c.self.view_is,
      shown ∙ later_pop_entries c.in_ok-top.top c.self.inside.heap.data.items c.pop.new.self.data.items e.permutation c.self.invariant,
    )
