use Rattle.std.proofs.Common.{ℕ, ◌∙◌, sym, ap, subst, length}
use Rattle.std.specs.List.{IsDistinct}
use Rattle.std.specs.Map.{keys_of}
use Rattle.relay_action.specs.declared.key.DocKey.{DocKey}
use Rattle.std.proofs.lemmas.List.{length-map}
use Rattle.relay_held.specs.Queues.{same_key, NoneEmpty}
use Rattle.relay_held.specs.Shelf.{Shelf}
use Rattle.relay_held.proofs.Shelving.{keys_shelved, none_empty, unique_shelved}
use Rattle.relay_held.proofs.documents.Documents.len.Goals as goal

pub returns-clause-len : goal.returns-clause-len
returns-clause-len c =
    c.len.ensures.len ∙ sym (length-map c.self.inside.slots.entries (λ (e : DocKey × ℕ). e.0))
    ∙ ap length (sym (keys_shelved c.self.inside.queues c.self.inside.slots.entries)) ∙ ap (λ (v : Shelf). length (keys_of v.queues)) c.self.view_is

pub returns-clause-unique : goal.returns-clause-unique
returns-clause-unique c = subst (λ (v : Shelf). IsDistinct same_key (keys_of v.queues)) c.self.view_is (unique_shelved c.self.inside.queues c.self.inside.slots.entries c.self.invariant)

pub returns-clause-filled : goal.returns-clause-filled
returns-clause-filled c = subst (λ (v : Shelf). NoneEmpty v.queues) c.self.view_is (none_empty c.self.inside.queues c.self.inside.slots.entries c.self.invariant)
