use Rattle.std.proofs.Common.{◌<◌, refl, subst}
use Rattle.std.proofs.lemmas.Bool.{ltb-true, ltb-false}
use Rattle.relay_delay.proofs.Delaying.{first_above, first_up_to}
use Rattle.relay_delay.proofs.line.starts_above.Goals as goal

pub returns-in-Some-clause-all : goal.returns-in-Some-clause-all
returns-in-Some-clause-all c = λ yes rises.
    let first = c.in-Some.first.now in
    first_above c.args.version c.args.line.now.items first rises c.in-Some.ensures.lookup (ltb-true c.args.version first.version yes)

pub returns-in-Some-clause-some : goal.returns-in-Some-clause-some
returns-in-Some-clause-some c = λ no.
    let e = c.in-Some.ensures in
    let q = c.args.line.now in
    let first = c.in-Some.first.now in
    first_up_to c.args.version q.items first (subst (λ n. 0 < n) q.ok.0 (e.variant.0 refl)) e.lookup (ltb-false c.args.version first.version no)
