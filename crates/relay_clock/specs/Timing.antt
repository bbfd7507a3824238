-- What a timer shows.
use Rattle.std.specs.Prelude.{ℕ, ◌+◌, ◌-◌, ◌^◌, min, Bool}

-- The time by its clock and how long was slept by it, in nanoseconds, whether the clock could be read, and how often it was asked for
-- the time; the count saturates at 2^64 - 1.
pub record Timing : Type 0 where
  pub time : ℕ
  pub slept : ℕ
  pub reads : Bool
  pub asked : ℕ

-- it was asked once more
abbrev pub once_more : ℕ → ℕ
once_more count = min (count + 1) (2 ^ 64 - 1)
