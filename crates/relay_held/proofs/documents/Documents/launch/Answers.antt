use Rattle.std.proofs.Common.{◌≡◌, subst}
use Rattle.std.specs.Prelude.{IfSome}
use Rattle.relay_held.specs.Operations.{launch_one}
use Rattle.relay_held.proofs.Shelving.{slot_shown, head_shown, keys_shown, on_shown, set_shelf, length_on, unique_shelved}
use Rattle.relay_held.specs.Shelf.{queue_in}
use Rattle.relay_held.proofs.documents.Documents.launch.Goals as goal

pub returns-clause-sent : goal.returns-clause-sent
returns-clause-sent c = λ k h is at.
    on_shown (launch_one c.args.clock c.args.number c.args.place) c.self.inside.queues c.launch_in.new.queues c.self.inside.slots.entries k c.args.slot c.args.self.now c.self.view_is c.self.invariant
    (slot_shown c.self.inside.queues c.self.inside.slots.entries k h c.args.slot c.args.self.now c.self.view_is is at) c.launch_in.ensures.sent

pub returns-clause-write : goal.returns-clause-write
returns-clause-write c = λ k h is at.
    subst (λ o. IfSome o (λ x. c.launch_in.result ≡ x.write)) (head_shown c.self.inside.queues c.self.inside.slots.entries k h c.args.slot c.args.self.now c.self.view_is is at) c.launch_in.ensures.write

pub returns-clause-keys : goal.returns-clause-keys
returns-clause-keys c = keys_shown c.self.inside.queues c.launch_in.new.queues c.self.inside.slots.entries c.args.self.now c.self.view_is

pub returns-clause-unique : goal.returns-clause-unique
returns-clause-unique c =
    unique_shelved c.launch_in.new.queues c.self.inside.slots.entries
    (set_shelf c.self.inside.queues c.launch_in.new.queues c.self.inside.slots.entries c.args.slot _ c.self.invariant c.launch_in.ensures.sent
    (length_on (launch_one c.args.clock c.args.number c.args.place) (queue_in c.self.inside.queues c.args.slot)))
