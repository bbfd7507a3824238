use Rattle.std.proofs.Common.{refl}
use Rattle.relay_keeping.proofs.Following.{starts_push, trails_push}
use Rattle.relay_keeping.proofs.trails.follow_from.Goals as goal

pub starts-preserved : goal.starts-preserved
starts-preserved c =
    let i = c.starts.invariant in
    let more = c.in_ok-push.ensures.items in
    record {
      trails = trails_push c.starts.inputs.items c.push.new.self.items _ more c.new.ensures i.trails;
      starts = starts_push c.starts.inputs.items c.push.new.self.items _ c.args.starts.now c.starts.start-index _ more c.starts-test.true refl i.starts;
    }
