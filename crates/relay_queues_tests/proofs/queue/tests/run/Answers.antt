use Rattle.std.proofs.Common.{◌≡◌, ◌∙◌, ap, sym, Option}
use Rattle.std.proofs.lemmas.List.Elements.{All-same, All-weaker}
use Rattle.std.specs.declared.thread.PromisedHandle.{PromisedHandle}
use Rattle.relay_queues_tests.specs.declared.queue.tests.SendPromise.{SendPromise}
use Rattle.relay_queue.specs.Ends.{Queue, SenderEnd, TakerEnd}
use Rattle.relay_queue.proofs.Fresh.{fresh_puts-queue}
use Rattle.relay_queues_tests.proofs.queue.tests.run.Goals as goal

pub meet_all-met-requires : goal.meet_all-met-requires
meet_all-met-requires g c =
    let queue : Queue = c.in_ok-take.take.queue in
    let puts = All-same (λ (p : SenderEnd). p.queue ≡ queue) _ _ c.in_ok-take.ensures.senders (fresh_puts-queue queue c.args.senders) in
    let same : c.end.result.queue ≡ queue = ap (λ (t : TakerEnd). t.queue) c.end.ensures.same ∙ c.take_all-is_in_order.ensures in
    All-weaker (λ (t : PromisedHandle (Option SenderEnd) SendPromise). t.promise.put.value.queue ≡ queue) (λ t. t.promise.put.value.queue ≡ c.end.result.queue) (λ t e. e ∙ sym same) _ (c.in_ok-threads.ensures queue puts)
