use Rattle.std.proofs.Common.{◌<◌, length, sym, ap, ◌∙◌, arith}
use Rattle.relay_delay.specs.Waiting.{insert}
use Rattle.relay_delay.specs.Heaps.{Heap}
use Rattle.relay_delay.proofs.Heaping.{on_ok, later_pushed, later_push_entries, later_length, none_has}
use Rattle.relay_delay.proofs.later.Later.push.Goals as goal

pub invariant_of-self : goal.invariant_of-self
invariant_of-self c =
    let heap = c.self.inside.heap in
    let len = heap.data.ok.0 ∙ sym (later_length heap.data.items) ∙ ap (λ (h : Heap). length h.entries) c.self.view_is in
    let room = ap (λ (h : Heap). h.room) c.self.view_is in
    let lt : heap.data.len < heap.data.cap = omega (arith, len, room, c.requires.room) in
    let is = c.push.ensures.succeeds lt in
    let moved = on_ok c.push.result _ is c.push.ensures.permutation in
    let order = on_ok c.push.result _ is c.push.ensures.heap_order in
    later_pushed _ heap.data.items c.push.new.self.data.items moved (order c.self.invariant.order) c.self.invariant (none_has c.args.one.version c.self.view_is c.requires.fresh)

pub returns-clause-entries : goal.returns-clause-entries
returns-clause-entries c =
    let heap = c.self.inside.heap in
    let len = heap.data.ok.0 ∙ sym (later_length heap.data.items) ∙ ap (λ (h : Heap). length h.entries) c.self.view_is in
    let room = ap (λ (h : Heap). h.room) c.self.view_is in
    let lt : heap.data.len < heap.data.cap = omega (arith, len, room, c.requires.room) in
    let moved = on_ok c.push.result _ (c.push.ensures.succeeds lt) c.push.ensures.permutation in
    later_push_entries _ heap.data.items c.push.new.self.data.items moved c.self.invariant (none_has c.args.one.version c.self.view_is c.requires.fresh)
    ∙ ap (λ (h : Heap). insert c.args.one h.entries) c.self.view_is
