use Rattle.std.proofs.Common.{◌≡◌, ◌≤◌, arith, length}
use Rattle.relay_sift.proofs.Keeping.{after_all, after_more}
use Rattle.relay_sift.proofs.kept.after_lines.Goals as goal

pub lines-preserved : goal.lines-preserved
lines-preserved c = after_more c.args.bytes.now c.lines.rest.now c.after_line-rest.result.now c.lines._line c.lines.invariant c.after_line-rest.ensures

pub returns-then-is_empty : goal.returns-then-is_empty
returns-then-is_empty c =
    let is = c.is_empty.ensures in
    let empty = c.if-is_empty.true in
    let test = c.lines-test.true in
    let none : length c.lines.rest.now ≡ 0 = grind (arith, is, empty) in
    let low : c.lines._line ≤ c.args.count = grind (arith, test) in after_all c.args.bytes.now c.lines.rest.now c.lines._line c.args.count none low c.lines.invariant
