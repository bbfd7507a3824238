use Rattle.std.proofs.Common.{ap, sym, subst, ◌∙◌, ⊎_elim, inl, inr}
use Rattle.relay_queue.specs.Steps.{IsTaker, senders_of}
use Rattle.relay_queue.proofs.Keeping.{splits}
use Rattle.relay_queue.proofs.queue.add_sender.Goals as goal

pub another-pass-requires-clause-rule : goal.another-pass-requires-clause-rule
another-pass-requires-clause-rule g c =
    let known = c.requires.known in
    splits _ _ _ (subst IsTaker (sym known) tt) (⊎_elim (λ z. inl (ap senders_of known ∙ z)) inr c.requires.places.1)
