-- Which requests of a lane are outstanding on its wire.
use Rattle.std.specs.Prelude.{ℕ, List, [], ◌∷◌, ◌++◌}
use Rattle.relay_results.specs.Numbers.{from_one}
use Rattle.relay_delivery.specs.Lane.{Flying}
use Rattle.relay_core.specs.State.{State}

-- the numbers of these requests, the last one first, as a wire lists what is outstanding
abbrev pub numbers_of : List Flying → List ℕ
numbers_of [] = []
numbers_of (f ∷ fs) = numbers_of fs ++ from_one f.request ∷ []

-- the numbers of the requests in flight
abbrev pub out_of : State → List ℕ
out_of s = numbers_of s.core.flying
