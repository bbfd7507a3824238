use Rattle.std.proofs.Common.{◌≡◌, ◌∷◌}
use Rattle.relay_front.specs.Parts.{parts_at}
use Rattle.relay_front.proofs.Splitting.{some_part}
use Rattle.relay_front.proofs.route.route_in.Goals as goal

pub returns-in-Some-cut-2 : goal.returns-in-Some-cut-2
returns-in-Some-cut-2 c =
    let a : parts_at 47 c.args.path.now ≡ c.in-Some.first.now ∷ parts_at 47 c.in-Some.rest.now = c.in-Some.ensures in
    let b : parts_at 47 c.in-Some.rest.now ≡ c.in-Some-cut.second.now ∷ parts_at 47 c.in-Some-cut.third.now = c.in-Some-cut.ensures in
    let d : parts_at 47 c.in-Some-cut.third.now ≡ c.in-Some-cut-2.field-0.0.now ∷ parts_at 47 c.in-Some-cut-2.field-0.1.now = c.in-Some-cut-2.ensures in
    let more = some_part 47 c.in-Some-cut-2.field-0.1.now in
    rw (a, b, d, more.2)
