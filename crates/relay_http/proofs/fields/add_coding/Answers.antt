use Rattle.std.proofs.Common.{rules, ◌≡◌, ◌∙◌, sym, ap, true}
use Rattle.std.specs.Prelude.{codes}
use Rattle.relay_http.specs.Fields.{same_word, values_named}
use Rattle.relay_http.specs.Codings.{coding_of, next_coding}
use Rattle.relay_http.proofs.FieldLists.{values_same, coding_push}
use Rattle.relay_http.proofs.fields.add_coding.Goals as goal

pub returns : goal.returns
returns c before known =
    let named : same_word c.args.name.now (codes "transfer-encoding") ≡ true = search rules in
    c.next_coding.ensures ∙ ap (λ k. next_coding k c.args.value.now) known ∙ sym (coding_push (values_named (codes "transfer-encoding") before) c.args.value.now) ∙ sym (ap coding_of (values_same (codes "transfer-encoding") before (c.args.name.now, c.args.value.now) named))
