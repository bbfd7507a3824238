-- The ends of a new channel from one of them on.
use Rattle.std.specs.Prelude.{ℕ, zero, suc, ◌+◌, List, [], ◌∷◌}
use Rattle.relay_receipts.specs.Ends.{Channel, TellEnd, fresh}
use Rattle.relay_keeping.specs.declared.told.Told.{Told}

-- those at the positions from this one on, so many, by which nothing was told
abbrev pub tells_from : Channel Told → ℕ → ℕ → List (TellEnd Told)
tells_from channel teller zero = []
tells_from channel teller (suc n) = fresh channel teller ∷ tells_from channel (teller + 1) n
