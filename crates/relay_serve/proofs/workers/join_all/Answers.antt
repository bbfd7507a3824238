use Rattle.std.specs.Vec.Iter.{into_iter_items}
use Rattle.relay_serve.proofs.Serving.{joins_on}
use Rattle.relay_serve.proofs.workers.join_all.Goals as goal

pub threads-preserved : goal.threads-preserved
threads-preserved g c =
    joins_on c.args.threads.items _ (into_iter_items c.next.new.self) c.threads.closed.items c.push.new.self.items c.threads.receipts.items c.push-in-threads.new.self.items c.threads.spoken.items c.push-in-threads-2.new.self.items c.in-Some.thread c.join-producer.result.0 c.join-producer.result.1 c.join-producer.result.2
    c.threads.invariant c.in-Some.ensures.steps.0 c.join-producer.ensures c.in_ok-push.ensures.items c.in_ok-push-2.ensures.items c.in_ok-push-3.ensures.items
