use Rattle.std.proofs.Common.{◌∙◌, sym, ap, ◌++◌}
use Rattle.std.specs.Prelude.{codes}
use Rattle.httparse.specs.Spans.{header_bytes}
use Rattle.relay_http.specs.Fields.{same_word, elements}
use Rattle.relay_http.proofs.FieldLists.{elements_step, elements_split, sized_first}
use Rattle.relay_http.proofs.fields.sized.Goals as goal

pub returns-then-same_word : goal.returns-then-same_word
returns-then-same_word c =
    let named = sym (ap (λ w. same_word w (codes "content-length")) c.of.ensures) ∙ sym c.same_word.ensures ∙ c.if-same_word.true in
    let split = elements_split (codes "content-length") (header_bytes c.args.buf.now) c.args.headers.now c.loop-header.header-index _ c.loop-header-test.true c.loop-header.invariant named in
    let first = c.first_element-first.ensures in
    sized_first c.args.limit c.args.otherwise c.all_lengths_agree.result c.agreed.result c.of-then-same_word.result.now c.first_element-first.result.now first.0 split.0 _ first.1 (split.1 ∙ ap (λ v. elements v ++ split.0) (sym c.of-then-same_word.ensures)) c.all_lengths_agree.ensures c.agreed.ensures

pub loop-header-preserved : goal.loop-header-preserved
loop-header-preserved c =
    let other = sym (ap (λ w. same_word w (codes "content-length")) c.of.ensures) ∙ sym c.same_word.ensures ∙ c.if-same_word.false in
    elements_step (codes "content-length") (header_bytes c.args.buf.now) c.args.headers.now c.loop-header.header-index _ c.loop-header-test.true c.loop-header.invariant other
