use Rattle.std.proofs.Common.{◌≡◌, ◌∙◌, [], sym, ap, subst}
use Rattle.std.specs.Prelude.{IfNone}
use Rattle.std.specs.Map.{lookup}
use Rattle.relay_held.specs.Queues.{same_key, queue_of}
use Rattle.relay_held.specs.Shelf.{Shelf, IsPlaceOf}
use Rattle.relay_held.proofs.Shelving.{key_passes, none_shown}
use Rattle.relay_held.proofs.documents.Documents.place.Goals as goal

pub returns-in_err-at-clause-none : goal.returns-in_err-at-clause-none
returns-in_err-at-clause-none c =
    let none = c.in_err-at.ensures.value ∙ ap (λ (v : Shelf). lookup (same_key c.args.key.now) v.slots) c.self.view_is in
    subst (λ o. IfNone o (queue_of c.args.self.now.queues c.args.key.now ≡ [])) (sym c.from_residual.ensures)
    (none_shown c.self.inside.queues c.self.inside.slots.entries c.args.key.now c.args.self.now c.self.view_is none)

pub returns-clause-place : goal.returns-clause-place
returns-clause-place c =
    subst (λ (v : Shelf). IsPlaceOf v.slots c.args.key.now c.in_ok-at.at c.in_ok-at.slot.now) c.self.view_is
    (record {
      own = c.in_ok-at.field-0-1.now;
      same = key_passes (same_key c.args.key.now) c.self.inside.slots.entries c.in_ok-at.field-0-1.now (sym c.in_ok-at.ensures.key);
      there = c.in_ok-at.ensures.entry;
      only = sym c.in_ok-at.ensures.value;
    })
