use Rattle.std.proofs.Common.{ℕ, List, map, ap, sym, subst, ◌∙◌}
use Rattle.relay_action.specs.declared.operation.Op.{Op}
use Rattle.std.specs.declared.vec.Vec.{Vec}
use Rattle.std.proofs.lemmas.Result.{err_from_is_err_and}
use Rattle.relay_core.specs.declared.config.RelayConfig.{RelayConfig}
use Rattle.relay_ndjson.specs.Metadata.{bytes_given}
use Rattle.relay_common.specs.Putting.{named_ops}
use Rattle.relay_common.proofs.Handing.{rows_of_all, count_back, control_back}
use Rattle.relay_run.specs.Handles.{telling_of}
use Rattle.relay_run.specs.Readers.{AreFedFrom}
use Rattle.relay_run.specs.Saving.{Saver, AllKeep, SayFailed}
use Rattle.relay_run.specs.Settling.{Tellings, teller_of}
use Rattle.relay_threads.specs.DeliveryOfAll.{AllDelivered}
use Rattle.relay_threads.specs.Relay.{rows_of}
use Rattle.relay_threads.specs.Together.{AreDeliveredTogether}
use Rattle.relay_run.proofs.Ending.{all_fed, fed_and_put, said_as}
use Rattle.relay_run.proofs.Savers.{of_end, saves_at_end, seats_at_end, counts_no_wires}
use Rattle.relay_run.proofs.run.run.Goals as goal

pub finish_telling-requires-clause-count : goal.finish_telling-requires-clause-count
finish_telling-requires-clause-count g c κs within =
    let left = g.S.ByteStream.left in
    let failed = g.S.ByteStream.failed in
    let all = all_fed left failed (bytes_given c.args.index) c.in_ok-relay.relay.queues c.args.config.epoch 0 c.args.readers.items c.in_ok-relay.producers.items c.in_ok-threads.threads.items c.in_ok-closed.closed.items c.in_ok-closed.inputs.items c.in_ok-closed.faults.items c.in_ok-relay.ensures.producers c.in_ok-threads.ensures.given c.in_ok-closed.ensures.fed in
    c.in_ok-closed.closed.ok.0 ∙ count_back _ _ all.identities ∙ sym c.in_ok-relay.producers.ok.0 ∙ c.in_ok-relay.ensures.count
    ∙ sym (ap (λ (k : RelayConfig). k.producers) c.in_ok-relay.ensures.config)

pub finish_telling-requires-clause-rows : goal.finish_telling-requires-clause-rows
finish_telling-requires-clause-rows g c κs within =
    let left = g.S.ByteStream.left in
    let failed = g.S.ByteStream.failed in
    let all = all_fed left failed (bytes_given c.args.index) c.in_ok-relay.relay.queues c.args.config.epoch 0 c.args.readers.items c.in_ok-relay.producers.items c.in_ok-threads.threads.items c.in_ok-closed.closed.items c.in_ok-closed.inputs.items c.in_ok-closed.faults.items c.in_ok-relay.ensures.producers c.in_ok-threads.ensures.given c.in_ok-closed.ensures.fed in
    rows_of_all _ c.args.config.epoch c.args.config.producers c.in_ok-relay.producers.items c.in_ok-closed.closed.items c.close-control.result
    (sym c.in_ok-relay.ensures.count ∙ c.in_ok-relay.producers.ok.0) c.in_ok-relay.ensures.producers all.identities
    (control_back _ c.args.config.producers c.in_ok-relay.control c.tick_until_ended.new.control c.close-control.result c.in_ok-relay.ensures.control c.tick_until_ended.ensures.same c.close-control.ensures.ends)

pub returns-clause-count : goal.returns-clause-count
returns-clause-count g c =
    let left = g.S.ByteStream.left in
    let failed = g.S.ByteStream.failed in
    let all = all_fed left failed (bytes_given c.args.index) c.in_ok-relay.relay.queues c.args.config.epoch 0 c.args.readers.items c.in_ok-relay.producers.items c.in_ok-threads.threads.items c.in_ok-closed.closed.items c.in_ok-closed.inputs.items c.in_ok-closed.faults.items c.in_ok-relay.ensures.producers c.in_ok-threads.ensures.given c.in_ok-closed.ensures.fed in
    c.in_ok-closed.faults.ok.0 ∙ all.count ∙ sym c.in_ok-relay.producers.ok.0 ∙ c.in_ok-relay.ensures.count

pub returns-clause-delivered : goal.returns-clause-delivered
returns-clause-delivered g c =
    let left = g.S.ByteStream.left in
    let failed = g.S.ByteStream.failed in
    let queues = c.in_ok-relay.relay.queues in
    let all = all_fed left failed (bytes_given c.args.index) queues c.args.config.epoch 0 c.args.readers.items c.in_ok-relay.producers.items c.in_ok-threads.threads.items c.in_ok-closed.closed.items c.in_ok-closed.inputs.items c.in_ok-closed.faults.items c.in_ok-relay.ensures.producers c.in_ok-threads.ensures.given c.in_ok-closed.ensures.fed in
    let x = fed_and_put left failed (bytes_given c.args.index) queues c.args.config.epoch c.args.readers.items c.in_ok-relay.producers.items c.in_ok-closed.closed.items (map telling_of c.in_ok-threads.threads.items) c.in_ok-closed.inputs.items c.in_ok-closed.faults.items all in
    let rows = rows_of c.in_ok-closed.closed.items c.close-control.result in
    let puts : ℕ → List Op = λ p. named_ops c.args.config.epoch p 1 (x.ops p) in
    let each = said_as (λ k ps ws ls. AllDelivered g.W.Wire.describes g.W.Wire.fits g.W.Wire.carries k ps rows 0 ws ls) c.in_ok-relay.relay.config c.args.config c.in_ok-relay.relay.wires c.args.wires.items puts c.in_ok-closed.closed.items c.finish_telling.result c.in_ok-relay.ensures.config c.in_ok-relay.ensures.wires x.put c.finish_telling.ensures.delivered in
    let together = said_as (AreDeliveredTogether g.W.Wire.describes g.W.Wire.fits) c.in_ok-relay.relay.config c.args.config c.in_ok-relay.relay.wires c.args.wires.items puts c.in_ok-closed.closed.items c.finish_telling.result c.in_ok-relay.ensures.config c.in_ok-relay.ensures.wires x.put c.finish_telling.ensures.together in (
      queues,
      x.ops,
      rows,
      subst (λ (ts : List Tellings). AreFedFrom left failed (bytes_given c.args.index) queues c.args.config.epoch x.ops 0 c.args.readers.items ts c.in_ok-closed.inputs.items c.in_ok-closed.faults.items) c.in_ok-threads.ensures.tellings x.fed,
      of_end (λ (v : Vec Saver _). v.items) (λ s. AllDelivered g.W.Wire.describes g.W.Wire.fits g.W.Wire.carries c.args.config puts rows 0 c.args.wires.items s.lanes.items)
          c.finish_telling.result c.apart-end.result.0 c.apart-end.result.1.items c.apart-end.ensures.ok c.apart-end.ensures.err each,
      of_end (λ (v : Vec Saver _). v.items) (λ s. AreDeliveredTogether g.W.Wire.describes g.W.Wire.fits c.args.config puts c.args.wires.items s.lanes.items)
          c.finish_telling.result c.apart-end.result.0 c.apart-end.result.1.items c.apart-end.ensures.ok c.apart-end.ensures.err together,
    )

pub returns-clause-saved : goal.returns-clause-saved
returns-clause-saved g c =
    saves_at_end (λ (v : Vec Saver _). v.items) g.W.Wire.describes g.W.Wire.fits g.W.Wire.carries c.in_ok-relay.relay.config _ c.in_ok-relay.relay.wires c.in_ok-relay.relay.tells c.args.tells.items c.finish_telling.result c.apart-end.result.0 c.apart-end.result.1.items c.apart-end.ensures.ok c.apart-end.ensures.err
    c.in_ok-relay.ensures.tells c.requires.new (subst AllKeep c.deref.ensures.value c.have_failed-unsaved.ensures.keep) c.finish_telling.ensures.told

pub returns-clause-unsaved : goal.returns-clause-unsaved
returns-clause-unsaved g c = subst (λ ts. SayFailed ts c.have_failed-unsaved.result) c.deref.ensures.value c.have_failed-unsaved.ensures.failed

pub returns-clause-wire_count : goal.returns-clause-wire_count
returns-clause-wire_count g c = c.in_ok-relay.ensures.wire_count

pub returns-in_err-threads-clause-wire_count : goal.returns-in_err-threads-clause-wire_count
returns-in_err-threads-clause-wire_count g c =
    let p = err_from_is_err_and c.from_residual-in_err-threads.result c.from_residual-in_err-threads.ensures.1 in
    rw (p.1, p.2) ((λ is. absurd (counts_no_wires _ c.in_err-threads.ensures.fault is)), (λ x. absurd (c.in_ok-relay.ensures.wire_count.1 x)))

pub returns-clause-tellers : goal.returns-clause-tellers
returns-clause-tellers g c = c.in_ok-closed.ensures.tellers ∙ ap (map teller_of) c.in_ok-threads.ensures.tellings

pub returns-clause-seats : goal.returns-clause-seats
returns-clause-seats g c =
    seats_at_end (λ (v : Vec Saver _). v.items) c.in_ok-relay.relay.tells c.args.tells.items c.finish_telling.result c.apart-end.result.0 c.apart-end.result.1.items c.apart-end.ensures.ok c.apart-end.ensures.err c.in_ok-relay.ensures.tells c.finish_telling.ensures.destinations
