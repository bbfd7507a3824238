-- The steps of the private functions.
use Rattle.std.specs.Prelude.{◌≡◌, ◌≢◌, ◌⊎◌, ◌+◌, ◌≤◌, ◌<◌, ℕ, [], Bool, true, false, Some}
use Rattle.relay_results.specs.Words.{Mem}
use Rattle.relay_results.specs.Outside.{Answer, Unanswered, Outside}
use Rattle.relay_delivery.specs.Lane.{Entry}
use Rattle.relay_core.specs.State.{State, IsLane, last_tick, all_closed, due_in}
use Rattle.relay_lane.specs.Turns.{Turn, Settles, Stays, after_ticks, after_answer, after_turn, sends_in, sends_first, sends_left, work_left}
use Rattle.relay_lane.specs.Calls.{called_by}
use Rattle.relay_lane.specs.Delivers.{Delivers, TookTurn}
use Rattle.relay_lane.specs.Exchanges.{Exchange}

-- whatever is due is sent: the lane is closed, or everything that it holds was flushed
abbrev pub IsPressed : State → Type 0
IsPressed s = (e : Entry) → Mem e s.core.held → (all_closed s ≡ true) ⊎ (e.held.version ≤ s.mark)

module _ {S : Type 0} (describes : Bool) (fits : S → Outside → Type 0) (carries : S → Exchange → S → Type 0) (old new : S) where
  -- a request was sent, or could not be sent, or nothing changed; and that is what passed over the wire
  abbrev pub Asked : Bool → State → State → Type 0
  Asked true s t = (turn : Turn) × (sends_in turn ≡ 1) × (t ≡ after_turn turn s) × Delivers describes fits carries old new s t (called_by turn s)
  Asked false s t = (t ≡ s) × Delivers describes fits carries old new s t []

  -- the oldest request was given an answer, after ticks passed, which left a lane; and that is what passed over the wire
  pub record Settled (s t : State) : Type 0 where
    pub ticks : ℕ
    pub answer : Answer
    pub lane : IsLane (after_ticks ticks s)
    pub answers : answer ≢ Unanswered
    pub reached : t ≡ after_answer answer (after_ticks ticks s)
    pub delivers : Delivers describes fits carries old new s t (called_by (Settles ticks answer) s)

  -- a turn was taken, so that less is left to do, and whatever is due is still sent
  pub record Progressed (s t : State) : Type 0 where
    pub took : TookTurn describes fits carries sends_first old new s t
    pub stays : Stays s t
    pub bound : t.core.requests + sends_left t ≤ s.core.requests + sends_left s
    pub smaller : work_left t < work_left s
    pub pressed : IsPressed t

-- the first operation that may be sent is due after this many ticks, at least one, and the clock does not saturate
-- before
pub record IsDueLater (s : State) : Type 0 where
  pub ticks : ℕ
  pub due : due_in s ≡ Some ticks
  pub some : 0 < ticks
  pub within : s.core.clock + ticks ≤ last_tick
