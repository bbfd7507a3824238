use Rattle.std.proofs.Common.{◌∙◌, ◌<◌, length, arith}
use Rattle.relay_telling_tests.proofs.Naming.{names_set}
use Rattle.relay_telling_tests.proofs.many.put_all.Goals as goal

pub loop-p-preserved : goal.loop-p-preserved
loop-p-preserved g c =
    let lt : c.loop-p.p < length c.loop-p.producers.items = omega (arith, c.loop-p-test.true, c.loop-p.invariant.0) in
    let names = names_set c.loop-p.producers.items c.loop-p.p c.put_some.new.producer c.index_mut.result.now lt c.index_mut.ensures.value c.put_some.ensures.producer in
    (c.loop-p.invariant.0, names ∙ c.loop-p.invariant.1, c.put_some.ensures.control ∙ c.loop-p.invariant.2)
