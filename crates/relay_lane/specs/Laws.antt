-- What follows from the definitions.
use Rattle.std.specs.Prelude.{◌≡◌, ◌+◌, ◌*◌, ◌≤◌, ℕ, [], Bool, length}
use Rattle.relay_action.specs.declared.mail.Body.{Body}
use Rattle.relay_delivery.specs.Lane.{tries_of}
use Rattle.relay_core.specs.declared.config.RelayConfig.{RelayConfig}
use Rattle.relay_core.specs.State.{State, fresh, after_take, IsLane}
use Rattle.relay_lane.specs.Out.{out_of}
use Rattle.relay_lane.specs.Turns.{Turn, Worked, Stays, requests, ticks, sends_left}

-- ---- what is outstanding

-- a fresh lane has nothing outstanding, and taking a message does not change what is outstanding
abbrev pub NothingIsOut : Type 0
NothingIsOut = (c : RelayConfig) → out_of (fresh c) ≡ []

abbrev pub TakeKeepsOut : Type 0
TakeKeepsOut = (s : State) (sender : ℕ) (b : Body) → out_of (after_take s sender b) ≡ out_of s

-- ---- turns

-- the requests and the clock went up by these numbers
pub record Keeps (sent passed : ℕ) (s t : State) : Type 0 where
  pub requests : t.core.requests ≡ s.core.requests + sent
  pub clock : t.core.clock ≡ s.core.clock + passed
  pub stays : Stays s t

abbrev pub TurnsKeep : Type 0
TurnsKeep = (going : Turn → State → Bool) (s t : State) → (w : Worked going s t) → Keeps (requests w.turns) (ticks w.turns) s t

-- a call that is repeated continues from where the first one stopped
abbrev pub WorksOn : Type 0
WorksOn = (going : Turn → State → Bool) (s t u : State) → Worked going s t → Worked going t u → Worked going s u

-- ---- the bound

-- a lane may send at most `attempts + 14` requests per operation held, 14 for the halvings of a cap
abbrev pub LeftAtMost : Type 0
LeftAtMost = (s : State) → IsLane s → sends_left s ≤ length s.core.held * (s.config.attempts + 14)

-- the number of requests that it may send is the sum of the attempts and halvings that are left to what it holds
abbrev pub LeftIsTries : Type 0
LeftIsTries = (s : State) → IsLane s → sends_left s ≡ tries_of s.core
