-- What was taken of a producer's input.
use Rattle.std.specs.Prelude.{◌≡◌, ℕ, List, [], ◌∷◌}
use Rattle.relay_ndjson.specs.Operations.{Operation}
use Rattle.relay_ndjson.specs.Reading.{Reading, Takes}

-- operations were taken, one after another
abbrev pub TakesAll : Reading → Reading → List Operation → Type 0
TakesAll old new [] = new ≡ old
TakesAll old new (op ∷ ops) = (n : ℕ) × (mid : Reading) × Takes old mid n op × TakesAll mid new ops
