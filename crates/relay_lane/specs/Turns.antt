-- What a lane does at work on a wire, turn by turn, and how many requests it may send.
use Rattle.std.specs.Prelude.{◌≡◌, ◌≢◌, ◌+◌, ◌-◌, ◌*◌, ◌<◌, ℕ, List, [], ◌∷◌, Option, Some, None, unwrap_or, is_some, ◌≤◌, Bool, true, false, not, ◌&&◌, nat_lt, nat_le, min, length, if◌then◌else◌}
use Rattle.relay_results.specs.declared.cause.Loss.{Loss}
use Rattle.relay_results.specs.Outside.{Answer, Unanswered, Lost}
use Rattle.relay_delivery.specs.Bound.{halvings}
use Rattle.relay_delivery.specs.Machine.{Place}
use Rattle.relay_delivery.specs.Lane.{Entry}
use Rattle.relay_core.specs.State.{State, last_tick, next_batch, after_request, after_answer_to, oldest, due_in}

-- ---- turns

-- its next request is sent; or it cannot be sent, for this reason, and counts as lost; the oldest request in flight is answered; or
-- it pauses: in each as many ticks pass, those of an answer or a loss before it is settled
pub data Turn : Type 0 where
  Sends : ℕ → Turn
  Fails : Loss → ℕ → Turn
  Settles : ℕ → Answer → Turn
  Pauses : ℕ → Turn

abbrev pub after_send : State → State
after_send s = after_request s (next_batch s)

abbrev pub after_ticks : ℕ → State → State
after_ticks n s = record s { core = record s.core { clock = s.core.clock + n } }

abbrev pub after_fail : Loss → ℕ → State → State
after_fail why n s = after_answer_to (after_ticks n (after_send s)) s.flights.next (Lost why)

abbrev pub after_answer : Answer → State → State
after_answer a s = after_answer_to s (unwrap_or (oldest s) 0) a

abbrev pub after_turn : Turn → State → State
after_turn (Sends n) s = after_ticks n (after_send s)
after_turn (Fails why n) s = after_fail why n s
after_turn (Settles n a) s = after_answer a (after_ticks n s)
after_turn (Pauses n) s = after_ticks n s

-- if a batch is to be sent it is sent, if a request is in flight it is answered, and if neither is possible, it
-- pauses until the first operation is due
abbrev pub MayTurn : Turn → State → Type 0
MayTurn (Sends n) s = is_some (next_batch s) ≡ true
MayTurn (Fails why n) s = is_some (next_batch s) ≡ true
MayTurn (Settles n a) s = (0 < length s.core.flying) × (a ≢ Unanswered)
MayTurn (Pauses n) s = (length s.core.flying ≡ 0) × (next_batch s ≡ None) × (due_in s ≡ Some n)

-- turns one after another
abbrev pub after_turns : List Turn → State → State
after_turns [] s = s
after_turns (t ∷ ts) s = after_turns ts (after_turn t s)

-- each of these turns may be taken, and passes the test
abbrev pub AllMayTurn : (Turn → State → Bool) → List Turn → State → Type 0
AllMayTurn going [] s = Unit {0}
AllMayTurn going (t ∷ ts) s = (going t s ≡ true) × MayTurn t s × AllMayTurn going ts (after_turn t s)

-- the lane has worked like this: only these turns changed it
pub record Worked (going : Turn → State → Bool) (old new : State) : Type 0 where
  pub turns : List Turn
  pub may : AllMayTurn going turns old
  pub reached : new ≡ after_turns turns old

-- what no turn changes: the config, which senders have closed, and how many Puts were taken
pub record Stays (old new : State) : Type 0 where
  pub config : new.config ≡ old.config
  pub closed : new.closed ≡ old.closed
  pub taken : new.core.taken ≡ old.core.taken

-- the number of requests that a turn sends, or tries to send
abbrev pub sends_in : Turn → ℕ
sends_in (Sends n) = 1
sends_in (Fails why n) = 1
sends_in (Settles n a) = 0
sends_in (Pauses n) = 0

-- the number of ticks that pass in a turn
abbrev pub ticks_in : Turn → ℕ
ticks_in (Sends n) = n
ticks_in (Fails why n) = n
ticks_in (Settles n a) = n
ticks_in (Pauses n) = n

abbrev pub requests : List Turn → ℕ
requests [] = 0
requests (t ∷ ts) = sends_in t + requests ts

abbrev pub ticks : List Turn → ℕ
ticks [] = 0
ticks (t ∷ ts) = ticks_in t + ticks ts

-- the number of ticks that a pace shows rose by this many, if it shows one and the sum does not saturate
abbrev pub Paused : ℕ → Option ℕ → Option ℕ → Type 0
Paused n old new = (p : ℕ) → old ≡ Some p → p + n ≤ last_tick → new ≡ Some (p + n)

-- ticks pass: the clock rises by as many as the number that the pace shows, and saturates at its last tick
pub record Passed (old new : ℕ) (before after : Option ℕ) : Type 0 where
  pub ticks : ℕ
  pub clock : new ≡ min (old + ticks) last_tick
  pub shown : Paused ticks before after

-- only ticks pass
pub record Ticked (s t : State) : Type 0 where
  pub ticks : ℕ
  pub reached : t ≡ after_ticks ticks s

-- ---- which turns are taken, and for how long

-- all places in flight are taken
abbrev pub is_crowded : State → Bool
is_crowded s = nat_le s.config.in_flight (length s.core.flying)

-- whatever is ready is sent, an answer is waited for only if no place is free, and there is no pause
abbrev pub pumps : Turn → State → Bool
pumps (Sends n) s = true
pumps (Fails why n) s = true
pumps (Settles n a) s = is_crowded s
pumps (Pauses n) s = false

-- whatever is ready is sent, no answer is waited for, and there is no pause
abbrev pub sends_only : Turn → State → Bool
sends_only (Sends n) s = true
sends_only (Fails why n) s = true
sends_only (Settles n a) s = false
sends_only (Pauses n) s = false

-- nothing is sent, and there is no pause
abbrev pub collects : Turn → State → Bool
collects (Sends n) s = false
collects (Fails why n) s = false
collects (Settles n a) s = true
collects (Pauses n) s = false

-- an answer is waited for only if nothing is to be sent
abbrev pub sends_first : Turn → State → Bool
sends_first (Sends n) s = true
sends_first (Fails why n) s = true
sends_first (Settles n a) s = not (is_some (next_batch s))
sends_first (Pauses n) s = true

-- as long as the lane holds at least this many operations
abbrev pub holds : ℕ → Turn → State → Bool
holds least t s = nat_le least (length s.core.held) && sends_first t s

abbrev pub holds_some : Turn → State → Bool
holds_some t s = holds 1 t s

abbrev pub is_full : Turn → State → Bool
is_full t s = holds s.config.max_held t s

-- ---- how many requests it may send

-- An operation that waits may go into as many requests as it has attempts left, and into at least one; one in flight,
-- into as many as it has left.
abbrev pub sends_of : ℕ → ℕ → Option Place → ℕ
sends_of most attempts None = if nat_lt attempts most then most - attempts else 1
sends_of most attempts (Some p) = most - attempts

-- ... and each into one more for each halving of its cap
abbrev pub sends_among : ℕ → List Entry → ℕ
sends_among most [] = 0
sends_among most (e ∷ es) = sends_of most e.held.attempts e.held.flies + halvings e.held.cap + sends_among most es

abbrev pub sends_left : State → ℕ
sends_left s = sends_among s.core.config.max s.core.held

-- what decreases with each turn: what may still be sent and is in flight, and then the ticks that the clock has left
abbrev pub work_left : State → ℕ
work_left s = (sends_left s * 2 + length s.core.flying) * 18446744073709551616 + (last_tick - s.core.clock)
