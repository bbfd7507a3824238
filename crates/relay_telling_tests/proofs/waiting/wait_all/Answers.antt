use Rattle.std.proofs.Common.{◌∙◌, ◌<◌, length, arith}
use Rattle.relay_telling_tests.proofs.Naming.{names_set}
use Rattle.relay_telling_tests.proofs.waiting.wait_all.Goals as goal

pub loop-p-preserved : goal.loop-p-preserved
loop-p-preserved g c =
    let lt : c.loop-p.p < length c.loop-p.producers.items = omega (arith, c.loop-p-test.true, c.loop-p.invariant.0) in
    (c.loop-p.invariant.0, names_set c.loop-p.producers.items c.loop-p.p c.put_and_wait.new.producer c.index_mut.result.now lt c.index_mut.ensures.value c.put_and_wait.ensures ∙ c.loop-p.invariant.1)
