use Rattle.std.specs.Prelude.{None}
use Rattle.relay_held.proofs.Shelving.{updates_sets, removed_at, remove_changes, remove_shelf}
use Rattle.relay_held.proofs.documents.remove.Goals as goal

pub returns-clause-removed : goal.returns-clause-removed
returns-clause-removed c =
    remove_changes c.args.queues.now c.try_remove.new.self c.args.slots.now.entries c.swap_remove_index.new.self.entries c.args.key.now c.args.place.slot _
    c.requires.shelf (updates_sets c.args.queues.now c.try_remove.new.self c.args.place.slot None c.try_remove.ensures.updates) c.requires.place.only (removed_at c.args.slots.now c.swap_remove_index.new.self c.args.key.now c.args.place.at c.args.place.slot c.swap_remove_index.result c.requires.place c.swap_remove_index.ensures.entry c.swap_remove_index.ensures.updates)

pub returns-clause-shelf : goal.returns-clause-shelf
returns-clause-shelf c =
    remove_shelf c.args.queues.now c.try_remove.new.self c.args.slots.now.entries c.swap_remove_index.new.self.entries c.args.key.now c.args.place.slot _
    c.requires.shelf (updates_sets c.args.queues.now c.try_remove.new.self c.args.place.slot None c.try_remove.ensures.updates) c.requires.place.only (removed_at c.args.slots.now c.swap_remove_index.new.self c.args.key.now c.args.place.at c.args.place.slot c.swap_remove_index.result c.requires.place c.swap_remove_index.ensures.entry c.swap_remove_index.ensures.updates) c.swap_remove_index.ensures.unique

pub returns-in_err-name-clause-removed : goal.returns-in_err-name-clause-removed
returns-in_err-name-clause-removed c =
    remove_changes c.args.queues.now c.try_remove.new.self c.args.slots.now.entries c.swap_remove_index.new.self.entries c.args.key.now c.args.place.slot _
    c.requires.shelf (updates_sets c.args.queues.now c.try_remove.new.self c.args.place.slot None c.try_remove.ensures.updates) c.requires.place.only (removed_at c.args.slots.now c.swap_remove_index.new.self c.args.key.now c.args.place.at c.args.place.slot c.swap_remove_index.result c.requires.place c.swap_remove_index.ensures.entry c.swap_remove_index.ensures.updates)

pub returns-in_err-name-clause-shelf : goal.returns-in_err-name-clause-shelf
returns-in_err-name-clause-shelf c =
    remove_shelf c.args.queues.now c.try_remove.new.self c.args.slots.now.entries c.swap_remove_index.new.self.entries c.args.key.now c.args.place.slot _
    c.requires.shelf (updates_sets c.args.queues.now c.try_remove.new.self c.args.place.slot None c.try_remove.ensures.updates) c.requires.place.only (removed_at c.args.slots.now c.swap_remove_index.new.self c.args.key.now c.args.place.at c.args.place.slot c.swap_remove_index.result c.requires.place c.swap_remove_index.ensures.entry c.swap_remove_index.ensures.updates) c.swap_remove_index.ensures.unique
