use Rattle.std.proofs.Common.{◌++◌, drop, sym, ap, ◌∙◌, subst}
use Rattle.std.specs.Prelude.{slice_get}
use Rattle.relay_delay.specs.Heaps.{Heap, sort, ready_items, IsReady}
use Rattle.relay_delay.proofs.Heaping.{heap_popped, heap_pop_entries, line_popped, line_pop_entries, popped_is}
use Rattle.relay_delay.proofs.ready.Ready.pop.Goals as goal

pub invariant_of-self : goal.invariant_of-self
invariant_of-self c =
    let heap = c.self.inside.heap in let line = c.self.inside.line in
    subst (IsReady heap.data.items) (sym c.pop_front.ensures.rest) (line_popped heap.data.items line.items c.self.invariant)

pub returns-then-not-top_is_first-clause-one : goal.returns-then-not-top_is_first-clause-one
returns-then-not-top_is_first-clause-one c =
    let heap = c.self.inside.heap in let line = c.self.inside.line in
    let e = c.pop_front.ensures in
    popped_is c.pop_front.result line.items c.pop_front.new.self.items line.len c.pop_front.new.self.len line.ok.0 e.items e.cases
    ∙ (line_pop_entries heap.data.items line.items c.self.invariant (c.top_is_first.ensures.line c.if-not-top_is_first.true c.self.invariant.order)).first
    ∙ ap (λ (h : Heap). slice_get h.entries 0) c.self.view_is

pub returns-then-not-top_is_first-clause-entries : goal.returns-then-not-top_is_first-clause-entries
returns-then-not-top_is_first-clause-entries c =
    let heap = c.self.inside.heap in let line = c.self.inside.line in
    ap (λ es. sort (ready_items heap.data.items ++ es)) c.pop_front.ensures.rest
    ∙ (line_pop_entries heap.data.items line.items c.self.invariant (c.top_is_first.ensures.line c.if-not-top_is_first.true c.self.invariant.order)).rest
    ∙ ap (λ (h : Heap). drop 1 h.entries) c.self.view_is

pub invariant_of-self-2 : goal.invariant_of-self-2
invariant_of-self-2 c =
    let heap = c.self.inside.heap in let line = c.self.inside.line in
    let e = c.in_ok-top.ensures in
    heap_popped c.in_ok-top.top heap.data.items c.pop.new.self.data.items line.items e.permutation (e.heap_order c.self.invariant.order).0 c.self.invariant

pub returns-clause-one : goal.returns-clause-one
returns-clause-one c =
    let heap = c.self.inside.heap in let line = c.self.inside.line in
    let e = c.in_ok-top.ensures in
    sym (ap (λ es. slice_get es 0)
    (heap_pop_entries c.in_ok-top.top heap.data.items c.pop.new.self.data.items line.items e.permutation c.self.invariant (e.below_top c.self.invariant.order) e.top
    (c.top_is_first.ensures.top c.if-not-top_is_first.false c.self.invariant.rises)))
    ∙ ap (λ (h : Heap). slice_get h.entries 0) c.self.view_is

pub returns-clause-entries : goal.returns-clause-entries
returns-clause-entries c =
    let heap = c.self.inside.heap in let line = c.self.inside.line in
    let e = c.in_ok-top.ensures in
    sym (ap (drop 1)
    (heap_pop_entries c.in_ok-top.top heap.data.items c.pop.new.self.data.items line.items e.permutation c.self.invariant (e.below_top c.self.invariant.order) e.top
    (c.top_is_first.ensures.top c.if-not-top_is_first.false c.self.invariant.rises)))
    ∙ ap (λ (h : Heap). drop 1 h.entries) c.self.view_is
