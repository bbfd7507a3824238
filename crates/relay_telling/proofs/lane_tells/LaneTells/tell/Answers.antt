use Rattle.std.proofs.Common.{arith}
use Rattle.relay_telling.proofs.ToldTo.{tells_at, tells_nobody}
use Rattle.relay_telling.proofs.lane_tells.LaneTells.tell.Goals as goal

pub returns-then-producer-len : goal.returns-then-producer-len
returns-then-producer-len g c = tells_at c.args.self.now.ends.items c.args.producer c.index_mut.result.now c.tell.new.self c.args.ending (omega (arith, c.if-producer-len.true, c.args.self.now.ends.ok.0)) c.index_mut.ensures.value c.tell.ensures

pub returns-else-producer-len : goal.returns-else-producer-len
returns-else-producer-len g c = tells_nobody c.args.self.now.ends.items c.args.producer c.args.ending (omega (arith, c.if-producer-len.false, c.args.self.now.ends.ok.0))
