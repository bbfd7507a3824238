use Rattle.std.proofs.Common.{take, refl}
use Rattle.relay_keeping.specs.Steps.{and_puts}
use Rattle.relay_keeping.proofs.Following.{puts_more, puts_none}
use Rattle.relay_keeping.proofs.trails.put_all.Goals as goal

pub ends-init : goal.ends-init
ends-init c h s = puts_none h c.args.trail.now s

pub ends-preserved : goal.ends-preserved
ends-preserved c h s =
    puts_more h c.args.ends.now c.ends.end-index _ _ _ c.ends-test.true refl (c.in_ok-put.ensures.ok (and_puts (take c.ends.end-index c.args.ends.now) h) (c.ends.invariant h s))
