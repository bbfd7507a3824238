use Rattle.std.proofs.Common.{◌≡◌, ◌==◌, length, take, None, Some, sym, ap, ◌∙◌, arith}
use Rattle.std.proofs.lemmas.List.{take_all}
use Rattle.std.proofs.lemmas.Str.Pattern.{split_once_first}
use Rattle.std.specs.List.{position_or_len}
use Rattle.relay_front.proofs.query.name_of.Goals as goal

pub returns-in-Some : goal.returns-in-Some
returns-in-Some c = (split_once_first 61 c.args.parameter.now (Some c.in-Some.cut) c.in-Some.ensures.cases (omega arith)).1

pub returns-in-None : goal.returns-in-None
returns-in-None c =
    let p = c.args.parameter.now in
    let e : position_or_len (λ b. b == 61) p ≡ length p = split_once_first 61 p None c.in-None.ensures.cases (omega arith) in
    sym (ap (λ n. take n p) e ∙ take_all (length p) p (omega arith))
