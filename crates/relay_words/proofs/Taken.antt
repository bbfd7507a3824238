-- One more operation.
use Rattle.std.proofs.Common.{ℕ, List, [], ◌∷◌, ◌++◌, refl, subst}
use Rattle.relay_ndjson.specs.Operations.{Operation}
use Rattle.relay_ndjson.specs.Reading.{Reading, Takes}
use Rattle.relay_words.specs.Taken.{TakesAll}

pub takes_more : (old mid new : Reading) (ops : List Operation) (n : ℕ) (op : Operation) → TakesAll old mid ops → Takes mid new n op → TakesAll old new (ops ++ op ∷ [])
takes_more old mid new [] n op t s = (n, new, subst (λ (o : Reading). Takes o new n op) t s, refl)
takes_more old mid new (first ∷ ops) n op t s = (t.0, t.1, t.2, takes_more t.1 mid new ops n op t.3 s)
