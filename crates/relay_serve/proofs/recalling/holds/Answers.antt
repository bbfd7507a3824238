use Rattle.std.proofs.Common.{arith, subst, sym}
use Rattle.relay_results.specs.Words.{Mem}
use Rattle.relay_serve.proofs.Given.{get_or-Mem}
use Rattle.relay_serve.proofs.recalling.holds.Goals as goal

pub returns-then-is_same : goal.returns-then-is_same
returns-then-is_same c = λ t.
    let xs = c.args.entries.now in
    subst (λ e. Mem e xs) (sym (c.if-is_same.ensures t)) (get_or-Mem xs c.entries.other-index c.other-item.result (omega (arith, c.entries-test.true)) c.other-item.is)
