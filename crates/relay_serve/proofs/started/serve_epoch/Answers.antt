use Rattle.std.proofs.Common.{◌≡◌, length, map, ap, refl, subst, sym, arith, ◌∙◌}
use Rattle.std.proofs.lemmas.List.{length-map}
use Rattle.relay_core.specs.declared.config.RelayConfig.{RelayConfig}
use Rattle.relay_telling.specs.declared.lane_tells.LaneTells.{LaneTells}
use Rattle.relay_telling.specs.Destinations.{identities, TellOn}
use Rattle.relay_telling.proofs.New.{tell_on}
use Rattle.relay_threads.specs.Relay.{rows_of}
use Rattle.relay_wires.specs.Numbers.{numbers}
use Rattle.relay_common.proofs.Handing.{rows_of_all, count_back, control_back}
use Rattle.relay_serve.specs.Answering.{index_in}
use Rattle.relay_serve.specs.Remembering.{AllGiven}
use Rattle.relay_serve.specs.Workers.{channel_in, producer_in}
use Rattle.relay_serve.proofs.Delivering.{delivers, workers_identities}
use Rattle.relay_serve.proofs.Serving.{all_served, answered_and_put, served_channels}
use Rattle.relay_serve.proofs.started.serve_epoch.Goals as goal

pub finish_telling-requires-clause-count : goal.finish_telling-requires-clause-count
finish_telling-requires-clause-count g c κs within =
    let given = c.in_ok-relay.producers.items in
    let relay = c.in_ok-relay.relay in
    let served = all_served c.args.options.now.face (index_in c.args.options.now.index) relay.queues c.args.epoch 0 given c.in_ok-closed.closed.items c.in_ok-closed.receipts.items c.in_ok-closed.spoken.items c.in_ok-relay.ensures.producers c.in_ok-closed.ensures.served in
    let same = workers_identities given c.in_ok-closed.closed.items served.identities in
    c.in_ok-closed.closed.ok.0 ∙ count_back (map producer_in given) c.in_ok-closed.closed.items same ∙ length-map given producer_in ∙ sym c.in_ok-relay.producers.ok.0 ∙ c.in_ok-relay.ensures.count

pub finish_telling-requires-clause-rows : goal.finish_telling-requires-clause-rows
finish_telling-requires-clause-rows g c κs within =
    let given = c.in_ok-relay.producers.items in
    let relay = c.in_ok-relay.relay in
    let served = all_served c.args.options.now.face (index_in c.args.options.now.index) relay.queues c.args.epoch 0 given c.in_ok-closed.closed.items c.in_ok-closed.receipts.items c.in_ok-closed.spoken.items c.in_ok-relay.ensures.producers c.in_ok-closed.ensures.served in
    let same = workers_identities given c.in_ok-closed.closed.items served.identities in
    rows_of_all relay.queues c.args.epoch relay.config.producers (map producer_in given) c.in_ok-closed.closed.items c.in_ok-closed.control
    (sym c.in_ok-relay.ensures.count ∙ c.in_ok-relay.producers.ok.0 ∙ sym (length-map given producer_in)) c.in_ok-relay.ensures.producers same
    (control_back relay.queues relay.config.producers c.in_ok-relay.control c.in_ok-relay.control c.in_ok-closed.control c.in_ok-relay.ensures.control refl c.in_ok-closed.ensures.control)

pub meet_all-requires : goal.meet_all-requires
meet_all-requires g c =
    let given = c.in_ok-relay.producers.items in
    record {
      channels = subst (λ cs. TellOn cs 0 c.in-Ok.finished.1.items) (sym (served_channels c.args.options.now.face (index_in c.args.options.now.index) given c.in_ok-closed.closed.items c.in_ok-closed.receipts.items c.in_ok-closed.spoken.items c.in_ok-closed.ensures.served))
          (tell_on (map channel_in given) 0 c.in_ok-relay.relay.tells c.in-Ok.finished.1.items c.in_ok-relay.ensures.tells c.in-Ok.ensures.destinations);
    }

pub returns : goal.returns
returns g c =
    let given = c.in_ok-relay.producers.items in
    let relay = c.in_ok-relay.relay in
    let closed = c.in_ok-closed.closed.items in
    let receipts = c.in_ok-closed.receipts.items in
    let spoken = c.in_ok-closed.spoken.items in
    let tells = c.in-Ok.finished.1.items in
    let channels = map channel_in given in
    let served = all_served c.args.options.now.face (index_in c.args.options.now.index) relay.queues c.args.epoch 0 given closed receipts spoken c.in_ok-relay.ensures.producers c.in_ok-closed.ensures.served in
    let config = c.in_ok-relay.ensures.config in
    let workers = c.args.options.now.config.producers in
    let count : workers ≡ length given = sym (ap (λ (k : RelayConfig). k.producers) config) ∙ sym c.in_ok-relay.ensures.count ∙ c.in_ok-relay.producers.ok.0 in
    let all : length channels ≡ length given = length-map given channel_in in
    let told : LaneTells → _ = λ t. identities t.ends.items in
    let lanes : relay.config.lanes ≡ length tells = sym c.in_ok-relay.ensures.lanes ∙ sym (length-map relay.tells told) ∙ sym (ap length c.in-Ok.ensures.destinations) ∙ length-map tells told in
    let new = c.in_ok-relay.ensures.receipts ∙ ap (λ n. map (Rattle.relay_telling.specs.New.new_take n) channels) lanes in
    let put = answered_and_put c.args.options.now.face (index_in c.args.options.now.index) relay.queues c.args.epoch workers (length tells) given closed receipts spoken channels count served new c.in_ok-taken.ensures.well_taken (subst AllGiven c.as_slice.ensures.value c.in_ok-recall_all.ensures) in
    let on = tell_on channels 0 relay.tells tells c.in_ok-relay.ensures.tells c.in-Ok.ensures.destinations in
    record {
      delivered =
          delivers _ _ _ (λ w. numbers w.out) c.args.options.now.face (index_in c.args.options.now.index) c.args.epoch relay.config c.args.options.now.config relay.queues (rows_of closed c.in_ok-closed.control) relay.wires closed _ channels receipts _ relay.tells tells config
          (omega (arith, count, all)) put c.in_ok-relay.ensures.wires c.in-Ok.ensures.delivered c.in-Ok.ensures.together c.in-Ok.ensures.told_of_puts c.in_ok-relay.ensures.tells on c.in_ok-taken.ensures.met c.in_ok-taken.ensures.same;
    }
