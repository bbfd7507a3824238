use Rattle.std.proofs.Common.{◌≡◌, ◌∙◌, ap, Option, Some}
use Rattle.std.proofs.lemmas.List.Elements.{All-pop, All-push}
use Rattle.std.specs.declared.thread.PromisedHandle.{PromisedHandle}
use Rattle.relay_queues_tests.specs.declared.queue.tests.SendPromise.{SendPromise}
use Rattle.relay_queue.specs.Ends.{SenderEnd}
use Rattle.relay_queues_tests.proofs.queue.tests.start_all.Goals as goal

pub loop-put-preserved : goal.loop-put-preserved
loop-put-preserved g c queue all =
    let i = c.loop-put.invariant queue all in
    let left = All-pop (λ (p : SenderEnd). p.queue ≡ queue) _ _ (Some c.in-Some.put) c.in-Some.ensures.items i.0 in
    let own : c.in_ok-thread.thread.promise.put.value.queue ≡ queue = ap (λ (p : SendPromise). p.put.value.queue) c.in_ok-thread.ensures.ok ∙ ap (λ (p : SenderEnd). p.queue) c.of.ensures ∙ left.1 in
    (left.0, rw c.in_ok-push.ensures.items (All-push (λ (t : PromisedHandle (Option SenderEnd) SendPromise). t.promise.put.value.queue ≡ queue) _ _ i.1 own))
