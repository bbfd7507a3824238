use Rattle.std.proofs.Common.{◌≡◌, ◌∷◌, None, Some, sym, ap, ◌∙◌, arith}
use Rattle.std.proofs.lemmas.Str.Pattern.{strip_prefix_char}
use Rattle.relay_front.specs.Parts.{parts_at}
use Rattle.relay_front.specs.Routes.{by_parts}
use Rattle.relay_front.proofs.Splitting.{no_slash}
use Rattle.relay_front.proofs.route.route_of.Goals as goal

pub returns-in-Some : goal.returns-in-Some
returns-in-Some c =
    let e : c.args.path.now ≡ 47 ∷ c.in-Some.rest.now = strip_prefix_char 47 c.args.path.now (Some c.in-Some.rest) c.in-Some.ensures.cases (omega arith) in
    rw e (c.route_in.ensures ∙ ap (λ p. by_parts c.args.method.now (parts_at 47 p)) c.without_slash.ensures)

pub returns-in-None : goal.returns-in-None
returns-in-None c = sym (no_slash c.args.method.now c.args.path.now (strip_prefix_char 47 c.args.path.now None c.in-None.ensures.cases (omega arith)))
