use Rattle.std.proofs.Common.{◌≡◌, ◌∙◌, sym, ap, length}
use Rattle.relay_core.specs.declared.config.RelayConfig.{RelayConfig}
use Rattle.relay_threads.specs.Relay.{ends_of}
use Rattle.relay_telling_tests.specs.Handles.{names_from}
use Rattle.relay_telling_tests.proofs.Naming.{none_put, names_new, control_new}
use Rattle.relay_telling_tests.proofs.relays.launch.Goals as goal

pub returns-in-Ok-start_telling-clause-fresh : goal.returns-in-Ok-start_telling-clause-fresh
returns-in-Ok-start_telling-clause-fresh g c =
    let r = c.in-Ok-start_telling in
    none_put r.started.0.queues c.args.config.epoch 0 r.started.1.items r.ensures.producers

pub returns-in-Ok-start_telling-clause-producers :
    goal.returns-in-Ok-start_telling-clause-producers
returns-in-Ok-start_telling-clause-producers g c =
    let r = c.in-Ok-start_telling in
    let same = sym (ap (λ (x : RelayConfig). x.producers) r.ensures.config) in
    let n : length r.started.1.items ≡ r.started.0.config.producers = sym r.started.1.ok.0 ∙ r.ensures.count ∙ same in
    names_new r.started.0.queues c.args.config.epoch 0 r.started.1.items r.ensures.producers ∙ ap (names_from r.started.0.queues 0) n

pub returns-in-Ok-start_telling-clause-control : goal.returns-in-Ok-start_telling-clause-control
returns-in-Ok-start_telling-clause-control g c =
    let r = c.in-Ok-start_telling in
    let same = sym (ap (λ (x : RelayConfig). x.producers) r.ensures.config) in
    control_new r.started.0.queues c.args.config.producers r.started.2 r.ensures.control ∙ ap (ends_of r.started.0.queues) same
