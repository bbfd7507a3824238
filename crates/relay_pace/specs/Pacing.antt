-- How ticks pass by a clock. All times are in nanoseconds.
use Rattle.std.specs.Prelude.{◌≡◌, ℕ, ◌+◌, ◌-◌, ◌*◌, ◌/◌, ◌≤◌, ◌<◌, Bool, IsTrue, min, nat_le, if◌then◌else◌}
use Rattle.std.specs.Duration.{max_nanos}
use Rattle.relay_clock.specs.Timing.{once_more}

-- the length of a tick
abbrev pub tick : ℕ
tick = 100000000

-- the most ticks that are counted
abbrev pub most_ticks : ℕ
most_ticks = 18446744073709551615

-- by how much a tick is shorter while the count is behind
abbrev pub made_up : ℕ
made_up = 10000000

-- the length of a rest
abbrev pub rest : ℕ
rest = 1000000

-- What a pace shows: the time by its timer, how long it slept in all, whether the clock could be read, how often the timer was asked,
-- how many ticks it let pass, and by how much ticks were made longer that was not made up for.
pub record Pacing : Type 0 where
  pub time : ℕ
  pub slept : ℕ
  pub reads : Bool
  pub asked : ℕ
  pub ticks : ℕ
  pub behind : ℕ

-- when the ticks that were let pass have ended, and the running one began
abbrev pub ended : Pacing → ℕ
ended p = p.ticks * tick + p.behind

-- a count of ticks and n more
abbrev pub and_ticks : ℕ → ℕ → ℕ
and_ticks ticks n = min (ticks + n) most_ticks

-- how long a pause of n ticks takes from this time on, after which the pace is p: until these ticks have ended, the running one
-- the first of them; if the clock cannot be read, as long as n whole ticks
abbrev pub pause_from : ℕ → ℕ → Pacing → ℕ
pause_from now n p = if p.reads then ended p - now else n * tick

-- the clock was read, and then it paused for n ticks
pub record PausedBy (n : ℕ) (old new : Pacing) : Type 0 where
  pub now : ℕ
  pub later : old.time ≤ now
  pub asked : new.asked ≡ once_more old.asked
  pub ticks : new.ticks ≡ and_ticks old.ticks n
  pub behind : new.behind ≡ old.behind
  pub slept : new.slept ≡ min (old.slept + pause_from now n new) max_nanos
  pub time : new.time ≡ min (now + pause_from now n new) max_nanos

-- how many ticks have ended by this time that were not counted; none if the clock cannot be read
abbrev pub uncounted : ℕ → Bool → Pacing → ℕ
uncounted now reads p = if reads then min ((now - ended p) / tick) most_ticks else 0

-- what is left to make up for after this many ticks
abbrev pub after_making_up : ℕ → ℕ → ℕ
after_making_up n behind = if nat_le n 0 then behind else behind - made_up

-- the clock was read, and n ticks were counted: all that have ended
pub record CountedBy (n : ℕ) (old new : Pacing) : Type 0 where
  pub later : old.time ≤ new.time
  pub asked : new.asked ≡ once_more old.asked
  pub all : n ≡ uncounted new.time new.reads old
  pub ticks : new.ticks ≡ and_ticks old.ticks n
  pub behind : new.behind ≡ after_making_up n old.behind
  pub slept : new.slept ≡ old.slept

-- the clock was read, and the running tick was made longer by what of it has passed, or by what it may be longer, if that is less
pub record BegunBy (old new : Pacing) : Type 0 where
  pub later : old.time ≤ new.time
  pub asked : new.asked ≡ once_more old.asked
  pub ticks : new.ticks ≡ old.ticks
  pub behind : new.behind ≡ old.behind + min (new.time - ended old) (tick - old.behind)
  pub slept : new.slept ≡ old.slept

-- it slept for this long, and nothing else changed
abbrev pub after_sleep : ℕ → Pacing → Pacing
after_sleep n p = record p { time = min (p.time + n) max_nanos; slept = min (p.slept + n) max_nanos }

-- if the clock can be read, fewer than two ticks have passed that were not counted
abbrev pub Follows : Pacing → Type 0
Follows p = IsTrue p.reads → p.ticks < most_ticks → p.time < (p.ticks + 2) * tick
