-- How a patient dial tries again.
use Rattle.std.specs.Prelude.{◌≡◌, ℕ, ◌+◌, ◌*◌, ◌<◌, ◌≤◌, min, Bool, true}
use Rattle.std.specs.Duration.{max_nanos}
use Rattle.relay_action.specs.Streams.{most}
use Rattle.relay_clock.specs.Timing.{Timing}

-- a second in nanoseconds
abbrev pub second : ℕ
second = 1000000000

-- It tried once, and then this many times, a second after each failure, at most as often as its patience has seconds. If the last try
-- failed, it had tried as often as it may, or its seconds had passed since it began. Before and after it, this many calls of the dial
-- had been made, and its timer showed this; what was slept is not exact once it saturates.
pub record Retried (patience : ℕ) (failed : Bool) (before after : ℕ) (old new : Timing) : Type 0 where
  pub retries : ℕ
  pub allowed : retries ≤ patience
  pub dialled : after ≡ min (before + (retries + 1)) most
  pub slept : old.slept + retries * second ≤ max_nanos → new.slept ≡ old.slept + retries * second
  pub start : ℕ
  pub later : old.time ≤ start
  pub gave_up : failed ≡ true → retries < patience → start + patience * second ≤ new.time
