use Rattle.std.proofs.Common.{◌≡◌, ◌+◌, ◌≤◌, arith, rules, length, ◌∙◌}
use Rattle.std.proofs.lemmas.Result.{err_from_is_err_and}
use Rattle.relay_ndjson.specs.Operations.{blank_limit, position}
use Rattle.relay_ndjson.proofs.Stopping.{blank_stops}
use Rattle.relay_ndjson.proofs.Taking.{blank_next, skip_fault, blank_fault}
use Rattle.relay_ndjson.proofs.Using.{uses_more}
use Rattle.relay_ndjson.proofs.lines.Lines.skip_blank.Goals as goal

pub returns-then-not-is_empty-clause-used : goal.returns-then-not-is_empty-clause-used
returns-then-not-is_empty-clause-used g c = uses_more _ _ _ _ _ _ c.loop-blank.invariant.used (rw c.if-not-found.false at c.in_ok-found.ensures.used)

pub returns-in_err-found-clause-line : goal.returns-in_err-found-clause-line
returns-in_err-found-clause-line g c =
    let p = err_from_is_err_and c.from_residual.result c.from_residual.ensures.1 in
    let within : c.loop-blank.blank ≤ blank_limit = omega (arith, c.loop-blank-test.true) in
    rw (p.1, p.2) (λ default. skip_fault default _ _ c.loop-blank.blank c.args.self.now.count c.loop-blank.self.count c.in_err-found.field-0.0 within c.loop-blank.invariant.blank c.loop-blank.invariant.count c.in_err-found.ensures.line)

pub returns-clause-line : goal.returns-clause-line
returns-clause-line g c =
    let all : c.loop-blank.blank ≡ blank_limit + 1 = omega (arith, c.loop-blank-test.false, c.loop-blank.auto.blank-end) in
    λ default. blank_fault default _ _ c.loop-blank.blank c.args.self.now.count c.loop-blank.self.count all c.loop-blank.invariant.blank c.loop-blank.invariant.count

pub returns-clause-stop : goal.returns-clause-stop
returns-clause-stop g c =
    let all : c.loop-blank.blank ≡ blank_limit + 1 = omega (arith, c.loop-blank-test.false, c.loop-blank.auto.blank-end) in
    let old = position (g.R.ByteStream.left c.args.reader.now) c.args.self.now.piece c.args.self.now.count in
    let new = position (g.R.ByteStream.left c.loop-blank.reader) c.loop-blank.self.piece c.loop-blank.self.count in
    λ default. blank_stops default old new c.loop-blank.blank all c.loop-blank.invariant.blank c.loop-blank.invariant.count

pub loop-blank-preserved : goal.loop-blank-preserved
loop-blank-preserved g c =
    let none : length c.take_line.new.self.text.items ≡ 0 = search rules in
    let next = blank_next c.loop-blank.blank _ _ _ c.loop-blank.self.count c.take_line.new.self.count c.take_line.new.self.text.items c.in_ok-found.found c.if-not-found.false c.in_ok-found.ensures.line none c.loop-blank.invariant.blank in
    record {
      blank = next.0;
      count = omega (arith, next.1, c.loop-blank.invariant.count);
      used = uses_more _ _ _ _ _ _ c.loop-blank.invariant.used (rw c.if-not-found.false at c.in_ok-found.ensures.used);
      failed = c.in_ok-found.ensures.failed ∙ c.loop-blank.invariant.failed;
    }
