use Rattle.std.proofs.Common.{◌∙◌, ap, length, drop, []}
use Rattle.std.proofs.Math.Seq.{drop-length}
use Rattle.std.proofs.lemmas.Result.{err_from_is_err_and}
use Rattle.relay_ndjson.proofs.Pieces.{part_refused, part_ended, part_bytes, whole_unbroken, whole_refused}
use Rattle.relay_ndjson.proofs.lines.Lines.take_part.Goals as goal

pub returns-in_err-add-in-Some-clause-part : goal.returns-in_err-add-in-Some-clause-part
returns-in_err-add-in-Some-clause-part c =
    let p = err_from_is_err_and c.from_residual.result c.from_residual.ensures.1 in
    let feed = rw c.held.ensures at c.in-Some.ensures in
    let fault = rw c.held-in-Some.ensures at c.in_err-add-in-Some.ensures.err in
    rw (p.1, p.2) (part_refused c.args.self.now.text.items c.args.self.now.piece [] [] c.in-Some.end c.in_err-add-in-Some.field-0.0 c.requires.unbroken feed fault)

pub returns-in_err-add-in-None-clause-part : goal.returns-in_err-add-in-None-clause-part
returns-in_err-add-in-None-clause-part c =
    let p = err_from_is_err_and c.from_residual-in_err-add-in-None.result c.from_residual-in_err-add-in-None.ensures.1 in
    let none = rw c.held.ensures at c.in-None.ensures in
    let fault = rw c.held-in-None.ensures at c.in_err-add-in-None.ensures.err in
    rw (p.1, p.2) (whole_refused c.args.self.now.text.items c.args.self.now.piece [] [] c.in_err-add-in-None.field-0.0 c.requires.unbroken none fault)

pub returns-in_ok-add-in-Some-clause-part : goal.returns-in_ok-add-in-Some-clause-part
returns-in_ok-add-in-Some-clause-part c =
    let feed = rw c.held.ensures at c.in-Some.ensures in
    let added = rw c.held-in-Some.ensures at c.in_ok-add-in-Some.ensures.ok.0 in
    part_ended c.args.self.now.text.items c.args.self.now.piece c.add.new.line.items c.drop_return-self.new.line.items c.skip.new.self c.in-Some.end c.requires.unbroken feed added c.drop_return-self.ensures.raw c.drop_return-self.ensures.length c.skip.ensures

pub returns-in_ok-add-in-Some-clause-bytes : goal.returns-in_ok-add-in-Some-clause-bytes
returns-in_ok-add-in-Some-clause-bytes c =
    let feed = rw c.held.ensures at c.in-Some.ensures in
    let added = rw c.held-in-Some.ensures at c.in_ok-add-in-Some.ensures.ok.0 in
    part_bytes c.args.self.now.text.items c.args.self.now.piece c.add.new.line.items c.drop_return-self.new.line.items c.skip.new.self c.in-Some.end c.drop_return-self.result c.requires.unbroken feed added c.drop_return-self.ensures.raw c.drop_return-self.ensures.length c.drop_return-self.ensures.end c.skip.ensures

pub returns-in_ok-add-in-None-clause-part : goal.returns-in_ok-add-in-None-clause-part
returns-in_ok-add-in-None-clause-part c =
    let none = rw c.held.ensures at c.in-None.ensures in
    let added = rw c.held-in-None.ensures at c.in_ok-add-in-None.ensures.ok.0 in (
      rw added (whole_unbroken c.args.self.now.text.items c.args.self.now.piece c.requires.unbroken none),
      c.in_ok-add-in-None.ensures.ok.1,
      added,
      c.skip-in-None.ensures ∙ (ap (λ held. drop (length held) c.args.self.now.piece) c.held-count.ensures ∙ drop-length c.args.self.now.piece),
    )
