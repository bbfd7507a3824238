use Rattle.relay_telling.proofs.ToldTo.{one_applied}
use Rattle.relay_telling.proofs.lane_tells.LaneTells.tell_applied.Goals as goal

pub returns-clause-told : goal.returns-clause-told
returns-clause-told g c p = one_applied p c.args.success.now c.args.self.now.ends.items c.tell.new.self.ends.items c.tell.ensures
