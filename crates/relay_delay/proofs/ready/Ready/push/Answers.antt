use Rattle.std.proofs.Common.{◌<◌, ◌++◌, length, ap, ◌∙◌, arith}
use Rattle.relay_delay.specs.Waiting.{insert}
use Rattle.relay_delay.specs.Heaps.{Heap, sort, ready_items}
use Rattle.relay_delay.proofs.Heaping.{on_ok, heap_pushed, heap_push_entries, line_pushed, line_push_entries, ready_length, none_has}
use Rattle.relay_delay.proofs.ready.Ready.push.Goals as goal

pub invariant_of-self : goal.invariant_of-self
invariant_of-self c =
    let heap = c.self.inside.heap in let line = c.self.inside.line in
    let n = ready_length heap.data.items line.items in
    let s = ap (λ (h : Heap). length h.entries) c.self.view_is in
    let room = ap (λ (h : Heap). h.room) c.self.view_is in
    let lt : heap.data.len < heap.data.cap = omega (arith, n, s, room, heap.data.ok.0, c.requires.room) in
    let is = c.push.ensures.succeeds lt in
    let moved = on_ok c.push.result _ is c.push.ensures.permutation in
    let order = on_ok c.push.result _ is c.push.ensures.heap_order in
    heap_pushed _ heap.data.items c.push.new.self.data.items line.items moved (order c.self.invariant.order) c.self.invariant (none_has c.args.one.version c.self.view_is c.requires.fresh)

pub returns-then-reaches-clause-entries : goal.returns-then-reaches-clause-entries
returns-then-reaches-clause-entries c =
    let heap = c.self.inside.heap in let line = c.self.inside.line in
    let n = ready_length heap.data.items line.items in
    let s = ap (λ (h : Heap). length h.entries) c.self.view_is in
    let room = ap (λ (h : Heap). h.room) c.self.view_is in
    let lt : heap.data.len < heap.data.cap = omega (arith, n, s, room, heap.data.ok.0, c.requires.room) in
    let moved = on_ok c.push.result _ (c.push.ensures.succeeds lt) c.push.ensures.permutation in
    heap_push_entries _ heap.data.items c.push.new.self.data.items line.items moved c.self.invariant (none_has c.args.one.version c.self.view_is c.requires.fresh)
    ∙ ap (λ (h : Heap). insert c.args.one h.entries) c.self.view_is

pub push_back_reserved-requires : goal.push_back_reserved-requires
push_back_reserved-requires c =
    let heap = c.self.inside.heap in let line = c.self.inside.line in
    let n = ready_length heap.data.items line.items in
    let s = ap (λ (h : Heap). length h.entries) c.self.view_is in
    let room = ap (λ (h : Heap). h.room) c.self.view_is in
    omega (arith, n, s, room, line.ok.0, c.requires.room)

pub invariant_of-self-else-reaches : goal.invariant_of-self-else-reaches
invariant_of-self-else-reaches c =
    let heap = c.self.inside.heap in let line = c.self.inside.line in
    line_pushed c.args.one heap.data.items line.items c.push_back_reserved.new.self.items c.self.invariant (c.reaches.ensures.none c.if-reaches.false c.self.invariant.rises)
    (none_has c.args.one.version c.self.view_is c.requires.fresh) c.push_back_reserved.ensures.items

pub returns-else-reaches-clause-entries : goal.returns-else-reaches-clause-entries
returns-else-reaches-clause-entries c =
    let heap = c.self.inside.heap in let line = c.self.inside.line in
    ap (λ es. sort (ready_items heap.data.items ++ es)) c.push_back_reserved.ensures.items
    ∙ line_push_entries c.args.one heap.data.items line.items c.self.invariant (none_has c.args.one.version c.self.view_is c.requires.fresh)
    ∙ ap (λ (h : Heap). insert c.args.one h.entries) c.self.view_is
