use Rattle.std.proofs.Common.{◌≡◌, [], ◌∷◌, ◌++◌, None, Some, sym, arith}
use Rattle.std.proofs.lemmas.Str.Pattern.{strip_suffix_char}
use Rattle.relay_front.proofs.Splitting.{slash_dropped, slash_kept}
use Rattle.relay_front.proofs.route.without_slash.Goals as goal

pub returns-in-Some : goal.returns-in-Some
returns-in-Some c =
    let e : c.args.path.now ≡ c.in-Some.front.now ++ (47 ∷ []) = strip_suffix_char 47 c.args.path.now (Some c.in-Some.front) c.in-Some.ensures.cases (omega arith) in
    rw e (sym (slash_dropped c.in-Some.front.now))

pub returns-in-None : goal.returns-in-None
returns-in-None c = sym (slash_kept c.args.path.now (strip_suffix_char 47 c.args.path.now None c.in-None.ensures.cases (omega arith)))
