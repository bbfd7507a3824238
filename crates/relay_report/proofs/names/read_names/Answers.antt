use Rattle.std.proofs.Common.{◌≡◌, ℕ, ◌+◌, List, length, sym, subst, arith, ◌∙◌, ap, length-append}
use Rattle.std.specs.Io.KnownBytes.{prepend_known}
use Rattle.relay_ndjson.specs.Operations.{saturating_count}
use Rattle.relay_report.specs.declared.names.Named.{Named}
use Rattle.relay_report.specs.Names.{TakesName, TakesNames}
use Rattle.relay_report.proofs.Naming.{takes_one}
use Rattle.relay_report.proofs.names.read_names.Goals as goal

pub lines-preserved : goal.lines-preserved
lines-preserved g c =
    let r = g.R.ByteStream in
    let next = rw c.in-Some.is at c.in_ok-name.ensures.next in
    let old = r.left c.args.report.now in
    let mid = prepend_known c.lines.lines.held (r.left c.lines.report) in
    let new = prepend_known c.next_name.new.lines.held (r.left c.next_name.new.report) in
    let items = c.in-Ok.ensures.items in
    let after : c.next_name.new.lines.count ≡ saturating_count (0 + length c.lines.names.items + 1) = omega (arith, next.1, c.lines.invariant.count) in
    let more : length c.push.new.self.items ≡ length c.lines.names.items + 1 = ap length items ∙ length-append c.lines.names.items _ in
    record {
      taken = subst (λ (ns : List Named). TakesNames old new 0 ns) (sym items) (takes_one old mid new 0 c.lines.names.items c.in-Some.name c.lines.invariant.taken (subst (λ (k : ℕ). TakesName mid new k c.in-Some.name) after next.0));
      count = omega (arith, next.1, c.lines.invariant.count, more);
      failed = c.in_ok-name.ensures.failed ∙ c.lines.invariant.failed;
    }
