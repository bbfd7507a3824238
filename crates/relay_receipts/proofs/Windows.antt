-- Operations that are open.
use Rattle.std.proofs.Common.{◌≡◌, ℕ, ◌+◌, ◌≤◌, List, [], ◌∷◌, ◌++◌, Option, Some, None, length, length-append, refl, ap, ◌∙◌, arith}
use Rattle.std.specs.List.{filter_map}
use Rattle.std.proofs.lemmas.List.Elements.{filter_map-append}
use Rattle.relay_producer.specs.States.{ProducerState}
use Rattle.relay_receipts.specs.declared.notice.Notice.{Notice}
use Rattle.relay_receipts.specs.Ends.{TakeEnd}
use Rattle.relay_receipts.specs.Windows.{endings_in, without_ended, KeepsWindow}

module _ {T : Type 0} where
  -- at most one is open no longer, and that one has an ending
  left : (n : Notice T) (told : Option T) → n.told ≡ told → (pending : ℕ) → (without_ended told pending ≤ pending) × (pending ≤ without_ended told pending + length (endings_in (n ∷ [])))
  left n None e pending = (omega arith, omega arith)
  left n (Some x) e pending =
      let one = ap (λ (o : Option T). length (filter_map {X = Option T} {Y = T} (λ y. y) (o ∷ []))) e in
      (omega arith, omega (arith, one))

  pub keeps_taken : (producer : ProducerState) (before after : TakeEnd T) (window pending : ℕ) (n : Notice T) → after.taken ≡ before.taken ++ n ∷ []
      → KeepsWindow (record { producer = producer; receipts = before; window = window; pending = pending })
      → KeepsWindow (record { producer = producer; receipts = after; window = window; pending = without_ended n.told pending })
  keeps_taken producer before after window pending n e h =
      let more = ap (λ (l : List (Notice T)). length (endings_in l)) e ∙ ap length (filter_map-append (λ (m : Notice T). m.told) before.taken (n ∷ [])) ∙ length-append (endings_in before.taken) (endings_in (n ∷ [])) in
      let one = left n n.told refl pending in
      let within = h.within in
      let each = h.each in
      record { within = omega (arith, one.0, within); each = omega (arith, one.1, each, more) }
