-- What the lanes delivered is what the workers put.
use Rattle.std.proofs.Common.{◌≡◌, ◌≤◌, ℕ, List, Option, length, map, ap, arith, subst, sym, ◌∙◌}
use Rattle.std.specs.Prelude.{Bool}
use Rattle.relay_action.specs.declared.operation.Op.{Op}
use Rattle.relay_results.specs.Outside.{Outside}
use Rattle.relay_core.specs.declared.config.RelayConfig.{RelayConfig}
use Rattle.relay_lane.specs.Exchanges.{Exchange}
use Rattle.relay_producer.specs.declared.ends.ClosedEnd.{ClosedEnd}
use Rattle.relay_producer.specs.States.{ClosedProducerState}
use Rattle.relay_queue.specs.Ends.{Queue}
use Rattle.relay_receipts.specs.Ends.{Channel, TakeEnd}
use Rattle.relay_receipts.specs.Windows.{WindowState}
use Rattle.relay_telling.specs.declared.ending.Ending.{Ending}
use Rattle.relay_telling.specs.declared.lane_tells.LaneTells.{LaneTells}
use Rattle.relay_telling.specs.Destinations.{TellOn}
use Rattle.relay_telling.specs.New.{AreNewTells}
use Rattle.relay_threads.specs.declared.summary.LaneSummary.{LaneSummary}
use Rattle.relay_threads.specs.DeliveryOfAll.{HavePut, AllDelivered}
use Rattle.relay_threads.specs.Relay.{NoneOut}
use Rattle.relay_threads.specs.ToldAll.{AllToldOfPuts}
use Rattle.relay_threads.specs.Together.{AreDeliveredTogether}
use Rattle.relay_common.specs.Identities.{identity_of, identity_of_closed}
use Rattle.relay_common.specs.Putting.{named_ops}
use Rattle.relay_front.specs.declared.face.Face.{Face}
use Rattle.relay_serve.specs.Answering.{requests_of}
use Rattle.relay_serve.specs.Configs.{config_in}
use Rattle.relay_serve.specs.Acknowledged.{told_by}
use Rattle.relay_serve.specs.Delivered.{IsDelivered}
use Rattle.relay_serve.specs.Meeting.{LanesMet}
use Rattle.relay_serve.specs.Serving.{ops_of}
use Rattle.relay_serve.specs.Workers.{producer_in}
use Rattle.relay_serve.proofs.Acknowledging.{told_of_same, all_acknowledged}
use Rattle.relay_serve.proofs.Pairing.{mapped}
use Rattle.relay_serve.proofs.Serving.{AnsweredAndPut, worker_at}

pub workers_identities : (ws : List (WindowState Ending)) (cs : List ClosedProducerState) → map identity_of_closed cs ≡ map (λ w. identity_of (producer_in w)) ws → map identity_of_closed cs ≡ map identity_of (map producer_in ws)
workers_identities ws cs same = same ∙ mapped identity_of producer_in ws

-- what `finish_telling` says of these operations, with the config of the server, and what was met
pub delivers : {W : Type 0} (describes : W → Bool) (fits : W → Outside → Type 0) (carries : W → Exchange → W → Type 0) (out : W → List ℕ) (face : Face) (index : Option (List ℕ)) (epoch : ℕ) (c k : RelayConfig) (queues : List Queue) (rows : List (List ClosedEnd)) (wires : List W) (cs : List ClosedProducerState) (lanes : List (LaneSummary W))
    (channels : List (Channel Ending)) (takes kept : List (TakeEnd Ending)) (firsts lasts : List LaneTells) → c ≡ config_in epoch k → k.producers ≤ length channels → AnsweredAndPut face index queues epoch k.producers (length lasts) cs takes → NoneOut out wires
    → ((puts : ℕ → List Op) → HavePut puts 0 cs → AllDelivered describes fits carries c puts rows 0 wires lanes)
    → ((puts : ℕ → List Op) → HavePut puts 0 cs → AreDeliveredTogether describes fits c puts wires lanes)
    → ((puts : ℕ → List Op) → HavePut puts 0 cs → AllToldOfPuts describes fits carries told_by c puts rows 0 wires firsts lasts lanes)
    → AreNewTells channels 0 firsts → TellOn channels 0 lasts → LanesMet takes lasts → kept ≡ takes → IsDelivered describes fits carries out face index (config_in epoch k) kept lanes
delivers describes fits carries out face index epoch c k queues rows wires cs lanes channels takes kept firsts lasts is enough put none delivered together told new on met same =
    let puts = ops_of epoch (λ p. requests_of (put.answers p)) in
    let config = config_in epoch k in
    let all = subst (λ x. AllToldOfPuts describes fits carries told_by x puts rows 0 wires firsts lasts lanes) is (told puts put.put) in
    subst (λ l. IsDelivered describes fits carries out face index config l lanes) (sym same) (record {
      queues = queues;
      workers = put.count_is;
      visits = put.visits;
      answers = put.answers;
      answered = put.answered;
      remembered = put.remembered;
      settled = put.settled;
      rows = rows;
      wires = wires;
      none_out = none;
      delivered = subst (λ x. AllDelivered describes fits carries x puts rows 0 wires lanes) is (delivered puts put.put);
      together = subst (λ x. AreDeliveredTogether describes fits x puts wires lanes) is (together puts put.put);
      first = firsts;
      last = lasts;
      acknowledged = λ others settled alike.
          all_acknowledged describes fits carries config queues others rows channels takes enough wires firsts lasts lanes
          (λ p lt. worker_at queues epoch 0 (length lasts) others takes settled put.of_lanes put.well p p (omega arith) (omega (arith, lt, put.count_is)))
          (told_of_same describes fits carries config puts (ops_of epoch others) rows (λ p lt. ap (named_ops epoch p 1) (alike p lt)) 0 wires firsts lasts lanes all) new on met;
    })
