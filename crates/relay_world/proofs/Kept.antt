-- What one event preserves, whether or not an allocation failed.
use Rattle.std.proofs.Common.{◌≡◌, ℕ, ◌+◌, List, [], ◌∷◌, take, sym, subst}
use Rattle.std.specs.Prelude.{OnErr, IfOk, IfErr, Ok, Err, Result}
use Rattle.relay_world.specs.declared.event.Event.{Event}
use Rattle.relay_world.specs.declared.event.StepAnswer.{StepAnswer}
use Rattle.relay_world.specs.declared.event.RunEnd.{RunEnd}
use Rattle.relay_world.specs.State.{World}
use Rattle.relay_world.specs.Headline.{StaysClosed}
use Rattle.relay_world.specs.Steps.{Steps, Plays, none_yet, counts_after}
use Rattle.relay_world.specs.Ties.{IsWorld}
use Rattle.relay_world.proofs.Events.{steps_keep_tied}
use Rattle.relay_world.proofs.Closing.{closed_same, step_closed, plays_closed}

pub step_world : {E : Type 0} (r : Result StepAnswer E) (w new : World) (e : Event) → IfOk r (λ x. Steps w e x new) → OnErr r (new ≡ w) → IsWorld w → IsWorld new
step_world (Ok x) w new e ok err k = steps_keep_tied w new e x k ok
step_world (Err x) w new e ok err k = subst IsWorld (sym err) k

pub step_stays_closed : {E : Type 0} (r : Result StepAnswer E) (w new : World) (e : Event) → IfOk r (λ x. Steps w e x new) → OnErr r (new ≡ w) → StaysClosed w new
step_stays_closed (Ok x) w new e ok err = step_closed w new e x ok
step_stays_closed (Err x) w new e ok err = subst (StaysClosed w) (sym err) (closed_same w)

-- ---- a list of events

plays_world : (w : World) (n : RunEnd) (es : List Event) (end : RunEnd) (new : World) → Plays w n es end new → IsWorld w → IsWorld new
plays_world w n [] end new c k = subst IsWorld (sym c.1) k
plays_world w n (e ∷ es) end new c k = plays_world c.1 (counts_after c.0 n) es end new c.3 (steps_keep_tied w c.1 e c.0 k c.2)

module _ {E : Type 0} (r : Result RunEnd (ℕ × E)) (w new : World) (es : List Event) where
  abbrev ends : RunEnd → Type 0
  ends end = Plays w none_yet es end new

  abbrev stops : ℕ × E → Type 0
  stops e = (end : RunEnd) × (end.done + end.refused ≡ e.0) × Plays w none_yet (take e.0 es) end new

  pub run_world : IfOk r ends → IfErr r stops → IsWorld w → IsWorld new
  run_world = by r
    where
      by : (r : Result RunEnd (ℕ × E)) → IfOk r ends → IfErr r stops → IsWorld w → IsWorld new
      by (Ok end) ok err k = plays_world w none_yet es end new ok k
      by (Err e) ok err k = plays_world w none_yet (take e.0 es) err.0 new err.2 k

  pub run_stays_closed : IfOk r ends → IfErr r stops → StaysClosed w new
  run_stays_closed = by r
    where
      by : (r : Result RunEnd (ℕ × E)) → IfOk r ends → IfErr r stops → StaysClosed w new
      by (Ok end) ok err = plays_closed w none_yet es end new ok
      by (Err e) ok err = plays_closed w none_yet (take e.0 es) err.0 new err.2
