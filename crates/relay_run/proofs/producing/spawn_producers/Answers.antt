use Rattle.std.proofs.Common.{◌≡◌, ◌++◌, ◌∷◌, [], map, ap, ◌∙◌, arith, rules}
use Rattle.std.specs.Option.{option_flatten}
use Rattle.std.specs.Vec.Iter.{into_iter_items}
use Rattle.relay_ndjson.specs.Metadata.{bytes_given}
use Rattle.relay_run.specs.Handles.{given_to, all_given, telling_of}
use Rattle.relay_run.proofs.Ending.{takes_reader, given_push, given_more}
use Rattle.relay_run.proofs.Meeting.{gives_one}
use Rattle.relay_run.proofs.producing.spawn_producers.Goals as goal

pub loop-producer-preserved : goal.loop-producer-preserved
loop-producer-preserved g c =
    let left = g.S.ByteStream.left in
    let failed = g.S.ByteStream.failed in
    let h = c.in-Ok.thread in
    let next = c.next-in-loop-producer in
    let rs = into_iter_items c.loop-producer.readers in
    let later = into_iter_items next.new.self in
    let others = into_iter_items c.next.new.self in
    let r = takes_reader left failed next.result rs later _ _ c.loop-producer.readers.rest.ok.0 next.new.self.rest.ok.0 next.ensures.cases in
    let producer = c.in-Ok.ensures.producer in
    let reader = c.in-Ok.ensures.reader ∙ c.flatten-reader.ensures in
    let index = c.in-Ok.ensures.index in
    let is : given_to h ≡ (c.in-Some.producer, option_flatten next.result, bytes_given c.args.index) = λ i. (producer i, reader i, index i) in
    let more = c.push_reserved.ensures.items ∙ ap (λ l. l ++ h ∷ []) c.in_ok-reserve.ensures.items in
    let i = c.loop-producer.invariant in (
      ap (λ l. map given_to l ++ all_given (bytes_given c.args.index) later others) more
          ∙ ap (λ l. l ++ all_given (bytes_given c.args.index) later others) (given_push left failed c.loop-producer.threads.items h)
          ∙ given_more left failed (bytes_given c.args.index) (map given_to c.loop-producer.threads.items) _ (given_to h) rs later _ others c.in-Some.producer (option_flatten next.result) c.in-Some.ensures.steps.0 is r.first r.others i.0,
      gives_one telling_of c.args.tellings.items (into_iter_items c.loop-producer.tellings) (into_iter_items c.next-in-loop-producer-2.new.self) c.loop-producer.threads.items _ h c.in-Some-next.telling i.1 c.in-Some-next.ensures.items more (search rules),
      omega (arith, i.2, c.in-Some.ensures.steps.1, c.in-Some-next.ensures.len),
    )
