-- The outside of a wire that loses every request.
use Rattle.std.specs.Prelude.{◌≡◌, ℕ, List, Option, Some, None}
use Rattle.relay_results.specs.declared.cause.Loss.TheVariants as loss
use Rattle.relay_results.specs.Numbers.{from_zero}
use Rattle.relay_results.specs.declared.cause.Loss.{Loss}
use Rattle.relay_results.specs.Outside.{Answer, Outside, Lost, MayAnswer}
use Rattle.relay_results.specs.Words.{Mem}
use Rattle.relay_delivery.specs.Reach.{Answers}
use Rattle.relay_core.specs.State.{State}
use Rattle.relay_lane.specs.Calls.{called_in}
use Rattle.relay_lane.specs.Exchanges.{Exchange, Sends, Receives}
use Rattle.relay_lane.specs.Turns.{Turn, after_turns}

-- the outstanding request was sent, and not answered
abbrev pub IsOut : Option ℕ → Outside → Type 0
IsOut None o = Unit {0}
IsOut (Some number) o = MayAnswer o (from_zero number) (Lost loss.Closed)

-- what passes over it: a request is outstanding once it is sent, and none if it cannot be; each answer is that it is lost
abbrev pub LosesEach : Option ℕ → Exchange → Option ℕ → Type 0
LosesEach old (Sends number writes None) new = new ≡ Some number
LosesEach old (Sends number writes (Some why)) new = new ≡ old
LosesEach old (Receives number answer) new = (answer ≡ Lost loss.Closed) × (new ≡ None)

-- so whatever a lane settled over it is that a request is lost
pub record SettlesLosses (s t : State) : Type 0 where
  pub turns : List Turn
  pub reached : t ≡ after_turns turns s
  pub lost : (number : ℕ) (a : Answer) → Mem (Answers number a) (called_in turns s) → (why : Loss) × (a ≡ Lost why)
