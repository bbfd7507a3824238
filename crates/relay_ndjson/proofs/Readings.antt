-- A step of a reader that continues.
use Rattle.std.proofs.Common.{◌≡◌, Option, Result, subst, sym}
use Rattle.relay_ndjson.specs.Operations.{Operation}
use Rattle.relay_ndjson.specs.declared.kind.InputFault.{InputFault}
use Rattle.relay_ndjson.specs.declared.parser.Phase.{Phase}
use Rattle.relay_ndjson.specs.declared.parser.Phase.TheVariants as phase
use Rattle.relay_ndjson.specs.Reading.{Reading, Answers, Steps}

pub open_steps : (inside old new : Reading) (r : Result (Option Operation) InputFault) → inside ≡ old → inside.phase ≡ phase.Open → Answers inside new r → Steps old.phase old new r
open_steps inside old new r e p a = subst (λ (o : Reading). Steps o.phase o new r) e (subst (λ (q : Phase). Steps q inside new r) (sym p) a)

pub answers_of : (old new : Reading) (r : Result (Option Operation) InputFault) → old.phase ≡ phase.Open → Steps old.phase old new r → Answers old new r
answers_of old new r p s = subst (λ (q : Phase). Steps q old new r) p s
