use Rattle.std.proofs.Common.{inl, inr, sym, ◌∙◌, ap, refl}
use Rattle.std.proofs.lemmas.Result.{err_from_is_err_and}
use Rattle.relay_ndjson.specs.Metadata.{bytes_given}
use Rattle.relay_front.specs.Kinds.{has_source}
use Rattle.relay_front.proofs.Reading.{blank_taken, alone_taken, sourced_taken}
use Rattle.relay_front.proofs.lines.take_part.Goals as goal

pub returns-then-is_blank-clause-ok : goal.returns-then-is_blank-clause-ok
returns-then-is_blank-clause-ok g c =
    blank_taken (bytes_given c.args.default) c.args.bytes.now c.in-Some.rest.now c.in-Some.text.now c.args.operations.now c.in-Some.ensures.line (sym c.is_blank.ensures ∙ c.if-is_blank.true)

pub returns-then-not-has_source-clause-ok : goal.returns-then-not-has_source-clause-ok
returns-then-not-has_source-clause-ok g c =
    let asks = rw c.in-Ok.is at c.in_ok-asked.ensures.ok in
    let sourced = ap has_source (sym c.kind_of.ensures) ∙ (sym c.has_source.ensures ∙ c.if-not-has_source.true) in
    alone_taken (bytes_given c.args.default) c.args.bytes.now c.in-Some.rest.now c.in-Some.text.now c.in-Ok.asked c.args.operations.now c.add_item.new.operations c.in-Some.ensures.line
    (sym c.is_blank.ensures ∙ c.if-is_blank.false, asks, sourced) c.in_ok-add_item.ensures

pub returns-in-Ok-take_source-clause-ok : goal.returns-in-Ok-take_source-clause-ok
returns-in-Ok-take_source-clause-ok g c =
    let asks = rw c.in-Ok.is at c.in_ok-asked.ensures.ok in
    let sourced = ap has_source (sym c.kind_of.ensures) ∙ (sym c.has_source.ensures ∙ c.if-not-has_source.false) in
    sourced_taken (bytes_given c.args.default) c.args.bytes.now c.in-Some.rest.now c.in-Ok-take_source.after.now c.in-Some.text.now c.in-Ok-take_source.source.now c.in-Ok.asked c.args.operations.now c.add_item-in-Ok-take_source.new.operations
    c.in-Some.ensures.line c.in-Ok-take_source.ensures.ok (sym c.is_blank.ensures ∙ c.if-is_blank.false, asks, sourced) c.in_ok-add_item-in-Ok-take_source.ensures

pub returns-clause-err : goal.returns-clause-err
returns-clause-err g c =
    let asks = rw c.in-Ok.is at c.in_ok-asked.ensures.ok in
    let sourced = ap has_source (sym c.kind_of.ensures) ∙ (sym c.has_source.ensures ∙ c.if-not-has_source.false) in
    inr (c.in-Err-take_source.fault, refl, inr (inr (c.in-Some.text.now, c.in-Some.rest.now, c.in-Ok.asked, c.in-Some.ensures.line, (sym c.is_blank.ensures ∙ c.if-is_blank.false, asks, sourced), c.in-Err-take_source.ensures.err)))

pub returns-in_err-asked-clause-err : goal.returns-in_err-asked-clause-err
returns-in_err-asked-clause-err g c = let p = err_from_is_err_and c.from_residual.result c.from_residual.ensures.1 in rw (p.1, p.2) (inl refl)

pub returns-in_err-add_item-clause-err : goal.returns-in_err-add_item-clause-err
returns-in_err-add_item-clause-err g c = let p = err_from_is_err_and c.from_residual-in_err-add_item.result c.from_residual-in_err-add_item.ensures.1 in rw (p.1, p.2) (inl refl)

pub returns-in_err-add_item-in-Ok-take_source-clause-err : goal.returns-in_err-add_item-in-Ok-take_source-clause-err
returns-in_err-add_item-in-Ok-take_source-clause-err g c = let p = err_from_is_err_and c.from_residual-in_err-add_item-in-Ok-take_source.result c.from_residual-in_err-add_item-in-Ok-take_source.ensures.1 in rw (p.1, p.2) (inl refl)
