-- What the turns of a lane are to its core: the calls that it makes of it, one after another.
use Rattle.std.specs.Prelude.{◌≡◌, ◌+◌, List, [], ◌∷◌, ◌++◌, unwrap_or}
use Rattle.relay_results.specs.Outside.{Lost}
use Rattle.relay_delivery.specs.Reach.{Call, Ticks, Answers, calls_of, AllMayCall}
use Rattle.relay_delivery.specs.Reach as core
use Rattle.relay_core.specs.State.{State, next_entries, oldest}
use Rattle.relay_lane.specs.Turns.{Turn, Sends, Fails, Settles, Pauses, after_turn, MayTurn}

-- a request is sent, a request is answered, and meanwhile the clock is set
abbrev pub called_by : Turn → State → List Call
called_by (Sends n) s = core.Sends (next_entries s) ∷ Ticks (s.core.clock + n) ∷ []
called_by (Fails why n) s = core.Sends (next_entries s) ∷ Ticks (s.core.clock + n) ∷ Answers s.flights.next (Lost why) ∷ []
called_by (Settles n a) s = Ticks (s.core.clock + n) ∷ Answers (unwrap_or (oldest s) 0) a ∷ []
called_by (Pauses n) s = Ticks (s.core.clock + n) ∷ []

-- by turns one after another
abbrev pub called_in : List Turn → State → List Call
called_in [] s = []
called_in (t ∷ ts) s = called_by t s ++ called_in ts (after_turn t s)

-- if its next request is numbered after those sent, a lane may make these calls, and its core is then as after the turn
abbrev pub TurnIsCalls : Type 0
TurnIsCalls = (t : Turn) (s : State) → MayTurn t s → s.flights.next ≡ s.core.requests + 1 → AllMayCall (called_by t s) s.core × (calls_of (called_by t s) s.core ≡ (after_turn t s).core)
