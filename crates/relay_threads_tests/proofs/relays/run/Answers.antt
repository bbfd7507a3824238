use Rattle.std.proofs.Common.{◌≡◌, ◌∙◌, ◌+◌, sym, ap, length, arith}
use Rattle.relay_producer.specs.Ends.{identities, closed_puts}
use Rattle.relay_threads.specs.Relay.{ends_of}
use Rattle.relay_threads_tests.specs.Handles.{open_names, closed_names}
use Rattle.relay_threads_tests.proofs.Naming.{rows_fit, same_count, control_fits}
use Rattle.relay_threads_tests.proofs.relays.run.Goals as goal

pub finish-requires-clause-count : goal.finish-requires-clause-count
finish-requires-clause-count g c κs within =
    let closed = c.in-Ok.closed in
    let opened = c.args.producers in
    let e : closed_names closed.items ≡ open_names opened.items = c.in-Ok.ensures ∙ c.put_some-put.ensures in
    closed.ok.0 ∙ same_count closed.items opened.items e ∙ sym opened.ok.0 ∙ c.requires.count

pub finish-requires-clause-rows : goal.finish-requires-clause-rows
finish-requires-clause-rows g c κs within =
    let closed = c.in-Ok.closed in
    let opened = c.args.producers in
    let e : closed_names closed.items ≡ open_names opened.items = c.in-Ok.ensures ∙ c.put_some-put.ensures in
    let qs = c.args.relay.queues in
    let own = control_fits qs c.args.relay.config.producers c.args.control c.close.result c.requires.control c.close.ensures.ends in
    let n : c.args.relay.config.producers ≡ 0 + length opened.items = omega (arith, opened.ok.0, c.requires.count) in
    let all : identities (closed_puts c.close.result.ends) ≡ ends_of qs (0 + length opened.items) = own ∙ ap (ends_of qs) n in
    rows_fit qs c.args.relay.config.epoch 0 closed.items opened.items c.close.result e c.requires.producers all
