use Rattle.std.proofs.Common.{arith, ◌∙◌}
use Rattle.relay_telling.proofs.ToldTo.{closes_at, same_ends}
use Rattle.relay_telling.proofs.lane_tells.LaneTellsTell.ended.Goals as goal

pub loop-producer-preserved : goal.loop-producer-preserved
loop-producer-preserved g c =
    let i = c.loop-producer.invariant in
    record {
      len = i.len;
      shown = λ p.
          closes_at c.loop-producer.self.ends.items c.loop-producer.producer c.index_mut.result.now c.close.new.self (omega (arith, c.loop-producer-test.true, c.loop-producer.auto.producer-end, c.loop-producer.self.ends.ok.0, i.len)) c.index_mut.ensures.value c.close.ensures.0 c.close.ensures.1 p
          ∙ i.shown p;
      same = same_ends c.loop-producer.self.ends.items c.loop-producer.producer c.index_mut.result.now c.close.new.self c.index_mut.ensures.value c.close.ensures.2 ∙ i.same;
    }
