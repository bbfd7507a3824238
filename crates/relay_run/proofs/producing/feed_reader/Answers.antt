use Rattle.std.proofs.Common.{Ok, Err, refl, subst}
use Rattle.relay_ndjson.specs.Reading.{Reading}
use Rattle.relay_run.specs.Feeding.{FeedsAllTelling}
use Rattle.relay_run.proofs.producing.feed_reader.Goals as goal

pub returns-in-Ok-clause-fed : goal.returns-in-Ok-clause-fed
returns-in-Ok-clause-fed g c =
    let told = λ (r : Reading). FeedsAllTelling r c.feed.new.input c.args.producer.now c.feed.new.producer c.args.telling.now c.feed.new.telling (Ok tt) in
    let feeds = subst told c.new-input.ensures c.in-Ok.ensures.feeds in
    (feeds.0.ops, (c.feed.new.input, feeds, refl))

pub returns-clause-fed : goal.returns-clause-fed
returns-clause-fed g c =
    let told = λ (r : Reading). FeedsAllTelling r c.feed.new.input c.args.producer.now c.feed.new.producer c.args.telling.now c.feed.new.telling (Err c.in-Err.fault) in
    let feeds = subst told c.new-input.ensures c.in-Err.ensures.feeds in
    (feeds.0.ops, (c.feed.new.input, feeds, refl))
