use Rattle.std.proofs.Common.{◌≡◌, ◌∙◌, ◌+◌, ap, arith}
use Rattle.relay_threads.specs.Relay.{ends_of}
use Rattle.relay_telling_tests.proofs.Naming.{count_closed, rows_fit}
use Rattle.relay_telling_tests.proofs.relays.finish.Goals as goal

pub finish-requires-clause-count : goal.finish-requires-clause-count
finish-requires-clause-count g c κs within =
    let closed = c.in_ok-closed.closed in
    let relay = c.args.relay in
    closed.ok.0 ∙ count_closed relay.queues 0 relay.config.producers closed.items (c.in_ok-closed.ensures ∙ c.requires.producers)

pub finish-requires-clause-rows : goal.finish-requires-clause-rows
finish-requires-clause-rows g c κs within =
    let relay = c.args.relay in
    let n : relay.config.producers ≡ 0 + relay.config.producers = omega arith in
    let own = c.close.ensures.ends ∙ c.requires.control ∙ ap (ends_of relay.queues) n in
    rows_fit relay.queues 0 relay.config.producers c.in_ok-closed.closed.items c.close.result (c.in_ok-closed.ensures ∙ c.requires.producers) own
