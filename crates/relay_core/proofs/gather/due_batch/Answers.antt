use Rattle.std.proofs.Common.{List, ◌<◌, sym, ap, ◌∙◌, subst, length}
use Rattle.relay_batch.specs.declared.item.BatchItem.{BatchItem}
use Rattle.relay_batch.specs.Gathering.{Gathering, is_ready, room_of}
use Rattle.relay_held.specs.Queues.{Holding}
use Rattle.relay_core.specs.Rule.{is_marked}
use Rattle.relay_core.specs.Walk.{items_of_kept}
use Rattle.relay_core.proofs.Quiet.{quiet_of}
use Rattle.relay_core.proofs.gather.due_batch.Goals as goal

pub returns-else-is_asked-clause-quiet : goal.returns-else-is_asked-clause-quiet
returns-else-is_asked-clause-quiet c roomy =
    let is = items_of_kept c.args.held.now.list c.args.held.now.clock c.args.held.now.list in
    let batch = c.in-Ok.ensures.batch in
    let items = ap (λ (g : Gathering). g.items) batch in
    let clock = c.clock-2.ensures ∙ ap (λ (h : Holding). h.clock) c.in-Ok.ensures.held in
    let all = c.in-Some.ensures.items ∙ items in
    quiet_of c.args.held.now.clock c.args.mark c.args.all_closed c.args.limits is c.room-room.result c.ready-is_ready.result c.in-Ok.gathered.closed c.is_flushed.result
    (subst (λ (xs : List BatchItem). 0 < length xs) all c.items.ensures.filled)
    (c.room-room.ensures ∙ ap room_of batch)
    (c.ready-is_ready.ensures ∙ (λ i. is_ready (clock i) (batch i)))
    c.in-Ok.ensures.closed
    (c.is_flushed.ensures ∙ ap (is_marked c.args.mark) (c.items.ensures.items ∙ all))
    (sym c.is_asked.ensures ∙ c.if-is_asked.false)
