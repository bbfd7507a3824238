use Rattle.std.proofs.Common.{◌≡◌, ◌∙◌, sym, ap, subst, arith, drop}
use Rattle.std.specs.Prelude.{slice_get, option_map}
use Rattle.std.specs.List.{IsDistinct}
use Rattle.std.specs.Map.{keys_of}
use Rattle.relay_held.specs.declared.documents.Taken.{Taken}
use Rattle.relay_held.specs.Queues.{same_key, first_name}
use Rattle.relay_held.specs.Shelf.{Shelf, entry_at, queue_in}
use Rattle.relay_held.proofs.Changing.{changes_none}
use Rattle.relay_held.proofs.Shelving.{count_shelved, count_shown, queue_shown, taken_shown, next_shown, kept_shown, if_some_map, unique_shelved}
use Rattle.relay_held.proofs.documents.Documents.take.Goals as goal

pub returns-clause-taken : goal.returns-clause-taken
returns-clause-taken c =
    taken_shown c.self.inside.queues c.take_in.new.queues c.self.inside.slots.entries c.take_in.new.slots.entries c.args.key.now c.in_ok-place.place.slot c.args.self.now c.self.view_is (sym c.in_ok-place.ensures.place.only) c.take_in.ensures.taken

pub returns-clause-name : goal.returns-clause-name
returns-clause-name c =
    c.take_in.ensures.name ∙ ap first_name (sym (queue_shown c.self.inside.queues c.self.inside.slots.entries c.args.key.now c.in_ok-place.place.slot c.args.self.now c.self.view_is (sym c.in_ok-place.ensures.place.only)))

pub returns-clause-next : goal.returns-clause-next
returns-clause-next c =
    if_some_map c.take_in.result (λ t. t.next ≡ option_map (entry_at c.in_ok-place.place.slot) (slice_get (drop 1 (queue_in c.self.inside.queues c.in_ok-place.place.slot)) 0)) _
    (λ t is. next_shown c.self.inside.queues c.self.inside.slots.entries c.args.key.now c.in_ok-place.place.slot c.args.self.now t.next c.self.view_is (sym c.in_ok-place.ensures.place.only) is) c.take_in.ensures.next

pub returns-clause-slots : goal.returns-clause-slots
returns-clause-slots c =
    kept_shown c.self.inside.queues c.take_in.new.queues c.self.inside.slots.entries c.take_in.new.slots.entries c.args.self.now c.self.view_is c.take_in.ensures.kept

pub returns-clause-fewer : goal.returns-clause-fewer
returns-clause-fewer c =
    let n = count_shelved c.take_in.new.queues c.take_in.new.slots.entries in
    let m = count_shown c.self.inside.queues c.self.inside.slots.entries c.args.self.now c.self.view_is in
    let l = c.take_in.ensures.fewer in
    omega (arith, n, m, l)

pub returns-clause-unique : goal.returns-clause-unique
returns-clause-unique c = unique_shelved c.take_in.new.queues c.take_in.new.slots.entries c.take_in.ensures.shelf

pub returns-in_err-place-clause-taken : goal.returns-in_err-place-clause-taken
returns-in_err-place-clause-taken c =
    let is = c.in_err-place.ensures.none in
    changes_none c.args.self.now.queues c.args.key.now _ (ap (drop 1) is ∙ sym is)

pub returns-in_err-place-clause-name : goal.returns-in_err-place-clause-name
returns-in_err-place-clause-name c =
    ap (option_map (λ (t : Taken). t.name)) c.from_residual.ensures ∙ ap first_name (sym c.in_err-place.ensures.none)

pub returns-in_err-place-clause-unique : goal.returns-in_err-place-clause-unique
returns-in_err-place-clause-unique c = subst (λ (v : Shelf). IsDistinct same_key (keys_of v.queues)) c.self.view_is (unique_shelved c.self.inside.queues c.self.inside.slots.entries c.self.invariant)
