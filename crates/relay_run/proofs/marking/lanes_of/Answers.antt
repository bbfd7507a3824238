use Rattle.std.specs.Vec.Iter.{into_iter_items}
use Rattle.relay_run.proofs.Meeting.{takes_lane}
use Rattle.relay_run.proofs.marking.lanes_of.Goals as goal

pub tells-preserved : goal.tells-preserved
tells-preserved g c =
    takes_lane c.args.tells.items (into_iter_items c.tells.tell-iterator) (into_iter_items c.next.new.self) c.tells.lanes.items c.push.new.self.items c.in-Some.tell c.into_settled.result c.tells.invariant c.in-Some.ensures.steps.0 c.in_ok-push.ensures.items c.into_settled.ensures.via
    c.into_settled.ensures.lane
