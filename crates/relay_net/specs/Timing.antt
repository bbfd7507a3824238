-- Messages with a time limit. All times are in nanoseconds, except for the limit, which is in seconds.
use Rattle.std.specs.Prelude.{◌≡◌, ℕ, ◌*◌, ◌-◌, ◌≤◌, Option, Some, Bool, false, nat_lt, nat_le, if◌then◌else◌}
use Rattle.relay_net.specs.declared.timed.Direction.{Direction}

-- What a connection with a limit shows: the limit, or 0 for none; the direction of the message, and when it began; the time by its
-- timer, and how often that was asked; whether no time was left when a call failed last; and how many calls failed.
pub record Timed : Type 0 where
  pub limit : ℕ
  pub direction : Option Direction
  pub began : ℕ
  pub time : ℕ
  pub asked : ℕ
  pub late : Bool
  pub failed : ℕ

-- a shorter time is none, since a socket takes a limit of 0 for no limit
abbrev pub millisecond : ℕ
millisecond = 1000000

-- how much time the message has left
abbrev pub left_of : Timed → ℕ
left_of s = s.limit * 1000000000 - (s.time - s.began)

-- whether there is a limit, and no time is left within it
abbrev pub is_late : Timed → Bool
is_late s = if nat_le s.limit 0 then false else nat_lt (left_of s) millisecond

-- a message in this direction goes on, or begins meanwhile if the one before it went the other way
pub record Moves (d : Direction) (old new : Timed) : Type 0 where
  pub limit : new.limit ≡ old.limit
  pub direction : new.direction ≡ Some d
  pub goes_on : old.direction ≡ Some d → new.began ≡ old.began
  pub begins : (old.direction ≡ Some d → ⊥) → old.time ≤ new.began
  pub begun : (old.direction ≡ Some d → ⊥) → new.began ≤ new.time
  pub later : old.time ≤ new.time
