use Rattle.std.proofs.Common.{rules, ◌+◌, drop, ◌∙◌, sym, ap, [], ◌∷◌}
use Rattle.relay_http.specs.Fields.{elements}
use Rattle.relay_http.proofs.FieldLists.{elements_at, elements_whole}
use Rattle.relay_http.proofs.fields.first_element.Goals as goal

pub returns-in-Some : goal.returns-in-Some
returns-in-Some c =
    let split = elements_at c.args.value.now c.in-Some.comma (search rules) (search rules) (search rules) in
    (elements (drop (c.in-Some.comma + 1) c.args.value.now), split ∙ (search rules))

pub returns-in-None : goal.returns-in-None
returns-in-None c = ([], elements_whole c.args.value.now (search rules) ∙ ap (λ x. x ∷ []) (sym c.trim_ows-in-None.ensures))
