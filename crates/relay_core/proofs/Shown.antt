-- What an equation of all that a lane shows says of its state.
use Rattle.std.proofs.Common.{◌≡◌, Result, Ok, Err, OnErr, ap}
use Rattle.relay_core.specs.State.{Seen}

-- a lane that is as it was after a refusal has the state that it had
pub same_state : {A E : Type 0} (r : Result A E) (v w : Seen) → OnErr r (w ≡ v) → OnErr r (w.state ≡ v.state)
same_state (Ok x) v w h = h
same_state (Err x) v w h = ap (λ (u : Seen). u.state) h
