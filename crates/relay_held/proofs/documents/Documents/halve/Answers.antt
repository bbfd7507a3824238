use Rattle.std.proofs.Common.{◌∙◌, subst}
use Rattle.std.specs.List.{IsDistinct}
use Rattle.std.specs.Map.{keys_of}
use Rattle.relay_held.specs.Operations.{halved_at}
use Rattle.relay_held.specs.Queues.{same_key}
use Rattle.relay_held.specs.Shelf.{Shelf, queue_in, slot_of}
use Rattle.relay_held.proofs.Shelving.{keys_shown, on_shown, on_none, entry_shown, no_entry, set_shelf, length_on, unique_shelved}
use Rattle.relay_held.proofs.documents.Documents.halve.Goals as goal

pub returns-clause-halved : goal.returns-clause-halved
returns-clause-halved c =
    on_shown (halved_at c.args.due c.args.cap c.args.write) c.self.inside.queues c.halve_in.new.queues c.self.inside.slots.entries c.args.write.key c.in_ok-slot.slot c.args.self.now c.self.view_is c.self.invariant c.in_ok-slot.ensures.found c.halve_in.ensures.halved

pub returns-clause-entry : goal.returns-clause-entry
returns-clause-entry c =
    entry_shown c.self.inside.queues c.halve_in.new.queues c.self.inside.slots.entries c.args.write.key c.in_ok-slot.slot c.args.self.now c.halve_in.result c.self.view_is c.in_ok-slot.ensures.found c.halve_in.ensures.entry

pub returns-clause-keys : goal.returns-clause-keys
returns-clause-keys c = keys_shown c.self.inside.queues c.halve_in.new.queues c.self.inside.slots.entries c.args.self.now c.self.view_is

pub returns-clause-unique : goal.returns-clause-unique
returns-clause-unique c =
    unique_shelved c.halve_in.new.queues c.self.inside.slots.entries
    (set_shelf c.self.inside.queues c.halve_in.new.queues c.self.inside.slots.entries c.in_ok-slot.slot _ c.self.invariant c.halve_in.ensures.halved
    (length_on (halved_at c.args.due c.args.cap c.args.write) (queue_in c.self.inside.queues c.in_ok-slot.slot)))

pub returns-in_err-slot-clause-halved : goal.returns-in_err-slot-clause-halved
returns-in_err-slot-clause-halved c = on_none (halved_at c.args.due c.args.cap c.args.write) c.self.inside.queues c.self.inside.slots.entries c.args.write.key c.args.self.now c.self.view_is c.in_err-slot.ensures.found

pub returns-in_err-slot-clause-entry : goal.returns-in_err-slot-clause-entry
returns-in_err-slot-clause-entry c = c.from_residual.ensures ∙ no_entry c.self.inside.queues c.self.inside.slots.entries c.args.write.key (slot_of c.args.self.now.slots c.args.write.key) c.args.self.now c.self.view_is c.in_err-slot.ensures.found

pub returns-in_err-slot-clause-unique : goal.returns-in_err-slot-clause-unique
returns-in_err-slot-clause-unique c = subst (λ (v : Shelf). IsDistinct same_key (keys_of v.queues)) c.self.view_is (unique_shelved c.self.inside.queues c.self.inside.slots.entries c.self.invariant)
