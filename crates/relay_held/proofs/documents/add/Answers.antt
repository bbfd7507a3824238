use Rattle.std.proofs.Common.{◌<◌, length, sym, subst, arith}
use Rattle.std.specs.Prelude.{Some}
use Rattle.relay_held.specs.Queues.{Changes}
use Rattle.relay_held.specs.Shelf.{queues_in}
use Rattle.relay_held.proofs.Counting.{on_ok_of}
use Rattle.relay_held.proofs.Shelving.{updates_sets, add_changes, add_shelf}
use Rattle.relay_held.proofs.documents.add.Goals as goal

pub returns-clause-added : goal.returns-clause-added
returns-clause-added c =
    let written = on_ok_of c.insert.result _ (c.insert.ensures.succeeds c.requires.room) c.insert.ensures.updates in
    subst (λ q. Changes (queues_in c.args.queues.now c.args.slots.now.entries) (queues_in c.insert_reserved-slot.new.self c.insert.new.self.entries) c.args.key q) c.of-queue.ensures
    (add_changes c.args.queues.now c.insert_reserved-slot.new.self c.args.slots.now.entries c.insert.new.self.entries c.args.key c.insert_reserved-slot.result c.of-queue.result
    c.requires.shelf (updates_sets c.args.queues.now c.insert_reserved-slot.new.self c.insert_reserved-slot.result (Some c.of-queue.result) c.insert_reserved-slot.ensures.updates) c.insert_reserved-slot.ensures.was_vacant written.0)

pub returns-clause-shelf : goal.returns-clause-shelf
returns-clause-shelf c =
    let written = on_ok_of c.insert.result _ (c.insert.ensures.succeeds c.requires.room) c.insert.ensures.updates in
    add_shelf c.args.queues.now c.insert_reserved-slot.new.self c.args.slots.now.entries c.insert.new.self.entries c.args.key c.insert_reserved-slot.result c.of-queue.result
    c.requires.shelf (updates_sets c.args.queues.now c.insert_reserved-slot.new.self c.insert_reserved-slot.result (Some c.of-queue.result) c.insert_reserved-slot.ensures.updates) c.insert_reserved-slot.ensures.was_vacant written.0
    c.insert.ensures.unique (subst (λ q. 0 < length q) (sym c.of-queue.ensures) (omega arith))
