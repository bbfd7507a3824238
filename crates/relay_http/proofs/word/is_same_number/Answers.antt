use Rattle.std.proofs.Common.{rules, ◌≡◌, ◌∙◌}
use Rattle.std.specs.Prelude.{bytes_eq}
use Rattle.relay_http.specs.Steps.{significant}
use Rattle.relay_http.proofs.Written.{both}
use Rattle.relay_http.proofs.Numbers.{same_number_is}
use Rattle.relay_http.proofs.word.is_same_number.Goals as goal

pub returns : goal.returns
returns c =
    let same : c.eq.result ≡ bytes_eq (significant c.args.text.now) (significant c.args.first.now) = search rules in
    same ∙ same_number_is c.args.first.now c.args.text.now (both _ _ c.requires.0).1 (both _ _ c.requires.1).1
