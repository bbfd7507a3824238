use Rattle.std.proofs.Common.{◌∙◌, ◌++◌, ◌∷◌, [], sym, ap, subst, arith, length}
use Rattle.std.specs.Prelude.{Some}
use Rattle.relay_held.specs.Queues.{Changes}
use Rattle.relay_held.specs.Shelf.{queues_in, slot_of}
use Rattle.relay_held.proofs.Shelving.{queue_shown, set_shown, count_shelved, count_shown, old_entry, new_shown, new_entry, new_slots, unique_shown, unique_shelved}
use Rattle.relay_held.proofs.documents.Documents.push.Goals as goal

pub returns-in_err-push_in-clause-unique : goal.returns-in_err-push_in-clause-unique
returns-in_err-push_in-clause-unique c = unique_shown c.self.inside.queues c.push_in.new.queues c.self.inside.slots.entries c.self.invariant

pub returns-in-Some-clause-ok : goal.returns-in-Some-clause-ok
returns-in-Some-clause-ok c =
    subst (λ q. Changes c.args.self.now.queues (queues_in c.push_in.new.queues c.self.inside.slots.entries) c.args.one.key (q ++ c.args.one ∷ []))
    (sym (queue_shown c.self.inside.queues c.self.inside.slots.entries c.args.one.key c.in-Some.slot c.args.self.now c.self.view_is c.in-Some.ensures.found))
    (set_shown c.self.inside.queues c.push_in.new.queues c.self.inside.slots.entries c.args.one.key c.in-Some.slot _ c.args.self.now c.self.view_is c.self.invariant c.in-Some.ensures.found c.in_ok-push_in.ensures.ok)

pub returns-in-Some-clause-entry : goal.returns-in-Some-clause-entry
returns-in-Some-clause-entry c =
    old_entry c.self.inside.queues c.self.inside.slots.entries c.args.one.key c.in-Some.slot (slot_of c.self.inside.slots.entries c.args.one.key) c.args.one c.args.self.now c.self.view_is c.self.invariant c.in-Some.ensures.found

pub returns-in-Some-clause-more : goal.returns-in-Some-clause-more
returns-in-Some-clause-more c =
    let n = count_shelved c.push_in.new.queues c.self.inside.slots.entries in
    let m = count_shown c.self.inside.queues c.self.inside.slots.entries c.args.self.now c.self.view_is in
    omega (arith, n, m)

pub returns-in-Some-clause-unique : goal.returns-in-Some-clause-unique
returns-in-Some-clause-unique c = unique_shown c.self.inside.queues c.push_in.new.queues c.self.inside.slots.entries c.self.invariant

pub returns-clause-ok : goal.returns-clause-ok
returns-clause-ok c =
    new_shown c.self.inside.queues c.push_new.new.queues c.self.inside.slots.entries c.push_new.new.slots.entries c.args.one.key c.args.one c.args.self.now c.self.view_is c.in_default.ensures.found c.in_ok-entry.ensures.ok

pub returns-clause-entry : goal.returns-clause-entry
returns-clause-entry c =
    ap Some c.in_ok-entry.ensures.entry ∙ new_entry c.self.inside.queues c.self.inside.slots.entries c.args.one.key (slot_of c.push_new.new.slots.entries c.args.one.key) c.args.one c.args.self.now c.self.view_is c.in_default.ensures.found

pub returns-clause-slots : goal.returns-clause-slots
returns-clause-slots c =
    new_slots c.self.inside.queues c.push_new.new.queues c.self.inside.slots.entries c.push_new.new.slots.entries c.args.one.key c.args.self.now c.self.view_is c.in_default.ensures.found c.in_ok-entry.ensures.others

pub returns-clause-more : goal.returns-clause-more
returns-clause-more c =
    let n = count_shelved c.push_new.new.queues c.push_new.new.slots.entries in
    let m = count_shown c.self.inside.queues c.self.inside.slots.entries c.args.self.now c.self.view_is in
    let l = c.in_ok-entry.ensures.more in
    omega (arith, n, m, l)

pub returns-in_err-entry-clause-slots : goal.returns-in_err-entry-clause-slots
returns-in_err-entry-clause-slots c = λ k g h is at. ap (λ ss. slot_of ss k) c.in_err-entry.ensures.slots ∙ ap (λ v. slot_of v.slots k) c.self.view_is

pub returns-in_err-entry-clause-more : goal.returns-in_err-entry-clause-more
returns-in_err-entry-clause-more c =
    let n = count_shelved c.push_new.new.queues c.push_new.new.slots.entries in
    let m = count_shown c.self.inside.queues c.self.inside.slots.entries c.args.self.now c.self.view_is in
    let l = ap length c.in_err-entry.ensures.slots in
    omega (arith, n, m, l)

pub returns-clause-unique : goal.returns-clause-unique
returns-clause-unique c = unique_shelved c.push_new.new.queues c.push_new.new.slots.entries c.push_new.ensures.shelf

pub returns-in_err-entry-clause-unique : goal.returns-in_err-entry-clause-unique
returns-in_err-entry-clause-unique c = unique_shelved c.push_new.new.queues c.push_new.new.slots.entries c.push_new.ensures.shelf
