-- How long a call may wait.
use Rattle.std.specs.Prelude.{ℕ, Option, Some, None}
use Rattle.std.specs.Duration.{as_nanos}
use Rattle.std.specs.declared.time.Duration.{Duration}

-- a limit in nanoseconds, 0 if there is none
abbrev pub limit_nanos : Option Duration → ℕ
limit_nanos None = 0
limit_nanos (Some d) = as_nanos d
