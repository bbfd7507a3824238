use Rattle.std.proofs.Common.{ap, sym, Bool, if◌then◌else◌}
use Rattle.std.proofs.lemmas.Bool.{lt-ltb}
use Rattle.relay_run.proofs.faults.worse.Goals as goal

pub returns-then-rank : goal.returns-then-rank
returns-then-rank c =
    let other = rw c.rank-2.ensures at c.if-rank.true in
    let below = rw c.rank.ensures at other in
    ap (λ (b : Bool). if b then c.args.other else c.args.one) (sym (lt-ltb _ _ below))
