use Rattle.std.proofs.Common.{◌≡◌, length, refl, arith, inl, inr}
use Rattle.std.proofs.lemmas.Grind.{common_steps}
use Rattle.relay_ndjson.proofs.Fronts.{nil_of}
use Rattle.relay_ndjson.proofs.body.take_source.Goals as goal

pub returns-in-Ok-read_source-clause-ok : goal.returns-in-Ok-read_source-clause-ok
returns-in-Ok-read_source-clause-ok c = (c.in-Ok.front.0.now, c.in-Ok.ensures.ok, c.in-Ok-read_source.ensures.ok.1)

pub returns-then-is_empty-clause-err : goal.returns-then-is_empty-clause-err
returns-then-is_empty-clause-err c =
    let none : length c.args.bytes.now ≡ 0 = grind (arith, common_steps, c.if-is_empty.true, c.is_empty.ensures) in
    inr (inl (nil_of c.args.bytes.now none, refl, refl))
