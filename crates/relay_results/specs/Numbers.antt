-- Lanes and wires number requests from 1; the outside counts them from 0.
use Rattle.std.specs.Prelude.{ℕ, ◌+◌, ◌-◌}

-- the number from 1 of a request that is counted from 0
abbrev pub from_one : ℕ → ℕ
from_one count = count + 1

-- the count from 0 of a request with a number from 1
abbrev pub from_zero : ℕ → ℕ
from_zero number = number - 1
