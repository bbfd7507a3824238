-- What a lane reaches, whatever its wire returns: the wire need not describe an outside, and its answers need not be
-- honest.
use Rattle.std.specs.Prelude.{◌≡◌, ◌+◌, ℕ, List, [], ◌++◌, Bool}
use Rattle.relay_action.specs.declared.mail.Body.{Body}
use Rattle.relay_action.specs.declared.operation.Op.{Op}
use Rattle.relay_delivery.specs.Reach.{Reached, IsOrderly}
use Rattle.relay_core.specs.declared.config.RelayConfig.{RelayConfig}
use Rattle.relay_core.specs.State.{State, fresh, after_take}
use Rattle.relay_core.specs.Ties.{ops_of}
use Rattle.relay_lane.specs.Turns.{Turn, after_turn, MayTurn, Worked}

-- the lane reached this state by its calls, which took these operations; its next request is numbered after those sent
pub record IsReached (s : State) (taken : List Op) : Type 0 where
  pub core : Reached s.core taken
  pub next : s.flights.next ≡ s.core.requests + 1

-- a new lane took nothing
abbrev pub FreshIsReached : Type 0
FreshIsReached = (c : RelayConfig) → IsReached (fresh c) []

-- the lane after a message is reachable, with the operation of the message
abbrev pub TakeIsReached : Type 0
TakeIsReached = (s : State) (sender : ℕ) (b : Body) (taken : List Op) → IsReached s taken → IsReached (after_take s sender b) (taken ++ ops_of b)

-- and so is the lane after each turn, whatever was answered in it
abbrev pub TurnIsReached : Type 0
TurnIsReached = (t : Turn) (s : State) (taken : List Op) → MayTurn t s → IsReached s taken → IsReached (after_turn t s) taken

-- so the lane is reachable after any work
abbrev pub WorkIsReached : Type 0
WorkIsReached = (going : Turn → State → Bool) (s t : State) (taken : List Op) → Worked going s t → IsReached s taken → IsReached t taken

-- What holds then: each held operation and each write in flight is of what was taken, with its version; no document is
-- in flight twice; and the counts add up.
abbrev pub ReachedIsOrderly : Type 0
ReachedIsOrderly = (s : State) (taken : List Op) → IsReached s taken → IsOrderly s.core taken
