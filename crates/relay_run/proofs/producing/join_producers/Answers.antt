use Rattle.std.proofs.Common.{map, ap}
use Rattle.std.specs.Vec.Iter.{into_iter_items}
use Rattle.relay_run.specs.Handles.{telling_of}
use Rattle.relay_run.specs.Settling.{teller_of}
use Rattle.relay_run.proofs.Ending.{joins_on}
use Rattle.relay_run.proofs.Feeding.{same_teller}
use Rattle.relay_run.proofs.Meeting.{gives_seen}
use Rattle.relay_run.proofs.producing.join_producers.Goals as goal

pub loop-thread-preserved : goal.loop-thread-preserved
loop-thread-preserved g c = (
  joins_on g.S.ByteStream.left g.S.ByteStream.failed c.args.threads.items _ (into_iter_items c.next.new.self) c.loop-thread.closed.items c.push.new.self.items c.loop-thread.tellings.items c.push-in-loop-thread-2.new.self.items c.loop-thread.faults.items c.push-in-loop-thread.new.self.items c.in-Some.thread c.join-fed.result.closed
      c.join-fed.result.telling c.join-fed.result.fault c.loop-thread.invariant.0 c.in-Some.ensures.steps.0 c.join-fed.ensures c.in_ok-push.ensures.items c.in_ok-push-3.ensures.items c.in_ok-push-2.ensures.items,
  gives_seen teller_of teller_of (map telling_of c.args.threads.items) _ (map telling_of (into_iter_items c.next.new.self)) c.loop-thread.tellings.items c.push-in-loop-thread-2.new.self.items c.join-fed.result.telling (telling_of c.in-Some.thread) c.loop-thread.invariant.1 (ap (map telling_of) c.in-Some.ensures.steps.0) c.in_ok-push-3.ensures.items
      (same_teller g.S.ByteStream.left g.S.ByteStream.failed _ _ _ _ _ _ _ _ c.join-fed.ensures.fed),
)
