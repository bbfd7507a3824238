use Rattle.std.proofs.Common.{arith, subst}
use Rattle.relay_results.specs.Words.{Mem}
use Rattle.relay_serve.proofs.Given.{get_or-Mem}
use Rattle.relay_serve.proofs.recalling.is_given.Goals as goal

pub returns-then-holds : goal.returns-then-holds
returns-then-holds c = λ t. (
  c.one-item.result,
  get_or-Mem c.args.spoken.now c.workers.one-index c.one-item.result (omega (arith, c.workers-test.true)) c.one-item.is,
  subst (Mem c.args.entry.now) c.as_slice.ensures.value (c.if-holds.ensures t),
)
