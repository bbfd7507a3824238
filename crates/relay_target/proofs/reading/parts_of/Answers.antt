use Rattle.std.proofs.Common.{◌++◌, codes, rules, sym, ◌∙◌, subst}
use Rattle.relay_target.specs.Targets.{IsLastPart}
use Rattle.relay_target.proofs.Splitting.{no_name, name_unique, path_of, rest_of}
use Rattle.relay_target.proofs.reading.parts_of.Goals as goal

pub returns-in_default-split_slash : goal.returns-in_default-split_slash
returns-in_default-split_slash c = λ index id parts.
    no_name c.in-Some.path.now index (codes "_doc/" ++ id) c.in_default-split_slash.ensures (path_of c.args.target.now c.in-Some.path.now index id c.in-Some.ensures parts)

pub returns-in_default-after : goal.returns-in_default-after
returns-in_default-after c = λ index id parts.
    let name = path_of c.args.target.now c.in-Some.path.now index id c.in-Some.ensures parts in
    let same = name_unique c.in-Some.path.now index c.in-Some-split_slash.index.now (codes "_doc/" ++ id) c.in-Some-split_slash.rest.now name c.in-Some-split_slash.ensures in
    c.in_default-after.ensures id (sym same.1)

pub returns-then-not-is_last_part : goal.returns-then-not-is_last_part
returns-then-not-is_last_part c = λ index id parts.
    let name = path_of c.args.target.now c.in-Some.path.now index id c.in-Some.ensures parts in
    let same = name_unique c.in-Some.path.now index c.in-Some-split_slash.index.now (codes "_doc/" ++ id) c.in-Some-split_slash.rest.now name c.in-Some-split_slash.ensures in
    let ids = rest_of id c.in-Some-after.id.now (same.1 ∙ c.in-Some-after.ensures) in
    let last : IsLastPart c.in-Some-after.id.now = subst IsLastPart ids parts.id_is in
    search (rules, last)
