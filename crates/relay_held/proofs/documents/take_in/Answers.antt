use Rattle.std.proofs.Common.{◌∙◌, sym, subst}
use Rattle.relay_held.specs.Queues.{Changes}
use Rattle.relay_held.specs.Shelf.{queue_in, queues_in}
use Rattle.relay_held.proofs.Shelving.{next_left, set_changes}
use Rattle.relay_held.proofs.documents.take_in.Goals as goal

pub returns-then-is_some-clause-taken : goal.returns-then-is_some-clause-taken
returns-then-is_some-clause-taken c =
    let left = next_left c.next_in-taken.result (queue_in c.args.queues.now c.args.place.slot) (queue_in c.next_in-taken.new.queues c.args.place.slot) (sym c.is_some.ensures ∙ c.if-is_some.true) c.next_in-taken.ensures.rest in
    subst (Changes (queues_in c.args.queues.now c.args.slots.now.entries) (queues_in c.next_in-taken.new.queues c.args.slots.now.entries) c.args.key.now) left
    (set_changes c.args.queues.now c.next_in-taken.new.queues c.args.slots.now.entries c.args.key.now c.args.place.slot _ c.requires.shelf c.requires.place.only c.next_in-taken.ensures.left)
