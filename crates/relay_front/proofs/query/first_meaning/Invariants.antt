use denote.Shadow.{shadow}
use denote.Text.{Utf8}
use Rattle.std.proofs.Common.{◌≡◌, length}
use Rattle.relay_front.specs.Queries.{meaning_of}
use Rattle.relay_front.proofs.query.first_meaning.Given as goal

abbrev pub invariant-parameters : goal.invariant-parameters
invariant-parameters l = (meaning_of l.rest ≡ meaning_of l.query) × shadow (Utf8 l.rest)

abbrev pub decreases-parameters : goal.decreases-parameters
decreases-parameters l = length l.rest
