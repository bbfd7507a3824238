use Rattle.std.proofs.Common.{rules, ◌≢◌, ◌+◌, ◌<◌, length, arith, subst, sym, Bool}
use Rattle.relay_ndjson.specs.Lines.{line_limit}
use Rattle.relay_sift.specs.Fronts.{IsFirst}
use Rattle.relay_sift.proofs.FirstLines.{first_long, first_open}
use Rattle.relay_sift.proofs.lines.open_line.Goals as goal

pub returns-then-bytes : goal.returns-then-bytes
returns-then-bytes c =
    let h : line_limit + 2 < length c.args.bytes.now = search rules in first_long c.args.bytes.now c.args.ended c.requires h

pub returns : goal.returns
returns c =
    let n : length c.args.bytes.now ≢ 0 = search rules in
    let low : 0 < length c.args.bytes.now = omega (arith, n) in
    subst (λ (b : Bool). IsFirst c.args.bytes.now b c.sized.result) (sym c.if-not-ended.false) (first_open c.args.bytes.now c.sized.result c.requires low c.sized.ensures)
