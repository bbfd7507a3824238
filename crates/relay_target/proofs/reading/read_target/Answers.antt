use Rattle.std.proofs.Common.{◌≡◌, rules, ◌∙◌, ap, subst, IsUtf8, string_bytes}
use Rattle.percent_encoding.specs.Percent.{percent_decode}
use Rattle.relay_target.proofs.Splitting.{parts_unique}
use Rattle.relay_target.proofs.Naming.{target_by}
use Rattle.relay_target.proofs.reading.read_target.Goals as goal

pub returns-in_default-2 : goal.returns-in_default-2
returns-in_default-2 c = λ index id names utf8 also none.
    let same = parts_unique c.args.target.now names.index_part c.in-Some.index_part.now names.id_part c.in-Some.id_part.now names.parts c.in-Some.ensures in
    let bad : ¬ (IsUtf8 (percent_decode c.in-Some.index_part.now)) = search rules in
    bad (subst IsUtf8 (names.index_is ∙ ap percent_decode same.0) utf8)

pub returns-in_default-3 : goal.returns-in_default-3
returns-in_default-3 c = λ index id names utf8 also none.
    let same = parts_unique c.args.target.now names.index_part c.in-Some.index_part.now names.id_part c.in-Some.id_part.now names.parts c.in-Some.ensures in
    let bad : ¬ (IsUtf8 (percent_decode c.in-Some.id_part.now)) = search rules in
    bad (subst IsUtf8 (names.id_is ∙ ap percent_decode same.1) also)

pub returns : goal.returns
returns c =
    let first : string_bytes c.in-Some-2.index ≡ percent_decode c.in-Some.index_part.now = search rules in
    let second : string_bytes c.in-Some-3.id ≡ percent_decode c.in-Some.id_part.now = search rules in
    target_by c.args.target.now c.in-Some.index_part.now c.in-Some.id_part.now c.as_str.result.now c.as_str-2.result.now c.in-Some.ensures
    (c.as_str.ensures.value ∙ first) (c.as_str-2.ensures.value ∙ second) c.key_of.result c.key_of.ensures
