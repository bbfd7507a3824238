-- Events one after another.
use Rattle.std.proofs.Common.{◌≡◌, ◌+◌, List, [], ◌∷◌, ◌++◌, refl, arith}
use Rattle.relay_world.specs.declared.event.Event.{Event}
use Rattle.relay_world.specs.declared.event.StepAnswer.{StepAnswer}
use Rattle.relay_world.specs.declared.event.StepAnswer.TheVariants as answer
use Rattle.relay_world.specs.declared.event.RunEnd.{RunEnd}
use Rattle.std.proofs.Common.{sym, subst, ap}
use Rattle.relay_world.specs.State.{World}
use Rattle.relay_world.specs.Steps.{Steps, Plays, counts_after}

-- one more event
pub plays-push : (w : World) (n : RunEnd) (es : List Event) (end : RunEnd) (mid : World) (e : Event) (x : StepAnswer) (new : World) → Plays w n es end mid → Steps mid e x new
    → Plays w n (es ++ e ∷ []) (counts_after x end) new
plays-push w n [] end mid e x new p s =
    (x, new, subst (λ m. Steps m e x new) p.1 s, (sym (ap (counts_after x) (sym p.0)), refl))
plays-push w n (f ∷ es) end mid e x new p s = (p.0, p.1, p.2, plays-push p.1 (counts_after p.0 n) es end mid e x new p.3 s)

pub counts-one : (x : StepAnswer) (n : RunEnd) → (counts_after x n).done + (counts_after x n).refused ≡ n.done + n.refused + 1
counts-one (answer.Refused r) n = omega arith
counts-one (answer.Put name) n = omega arith
counts-one (answer.Sent number) n = omega arith
counts-one (answer.Ran status) n = omega arith
counts-one (answer.Settled counts) n = omega arith
counts-one answer.Done n = omega arith
