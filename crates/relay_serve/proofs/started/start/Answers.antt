use Rattle.std.proofs.Common.{◌≡◌, List, length, ap, sym, subst, ◌∙◌}
use Rattle.std.proofs.lemmas.List.{length-map}
use Rattle.relay_core.specs.declared.config.RelayConfig.{RelayConfig}
use Rattle.relay_receipts.specs.Ends.{Channel}
use Rattle.relay_telling.specs.declared.ending.Ending.{Ending}
use Rattle.relay_telling.specs.declared.lane_tells.LaneTells.{LaneTells}
use Rattle.relay_telling.specs.New.{channels_of, AreNewTells}
use Rattle.relay_serve.specs.Workers.{AreUnused}
use Rattle.relay_serve.proofs.Pairing.{unused, channels_paired, receipts_new}
use Rattle.relay_serve.proofs.started.start.Goals as goal

pub pair_up-requires-clause-unused : goal.pair_up-requires-clause-unused
pair_up-requires-clause-unused g c =
    let producers = c.in_ok-relay.producers.items in
    let takes = c.in_ok-tells.takes.items in
    let count : length producers ≡ length (channels_of takes) =
    sym c.in_ok-relay.producers.ok.0 ∙ c.in_ok-relay.ensures.count ∙ sym c.in_ok-tells.ensures.producers ∙ c.in_ok-tells.takes.ok.0 ∙ sym (length-map takes (λ t. t.channel)) in
    subst (λ ts. AreUnused producers ts) (sym c.in_ok-tells.ensures.takes) (unused _ _ 0 _ producers (channels_of takes) count c.in_ok-relay.ensures.producers)

pub returns-clause-receipts : goal.returns-clause-receipts
returns-clause-receipts g c =
    receipts_new c.in_ok-paired.paired.items c.in_ok-tells.takes.items _ _ c.in_ok-paired.ensures.receipts c.in_ok-tells.ensures.takes
    (sym (ap (λ (k : RelayConfig). k.lanes) c.in_ok-relay.ensures.config))

pub returns-clause-tells : goal.returns-clause-tells
returns-clause-tells g c =
    let channels = channels_paired c.in_ok-paired.paired.items c.in_ok-tells.takes.items c.in_ok-paired.ensures.receipts in
    subst (λ (x : List (Channel Ending) × List LaneTells). AreNewTells x.0 0 x.1) (λ i. (channels i, sym c.in_ok-relay.ensures.tells i)) c.in_ok-tells.ensures.tells

pub returns-clause-lanes : goal.returns-clause-lanes
returns-clause-lanes g c =
    ap length c.in_ok-relay.ensures.tells ∙ sym c.in_ok-tells.tells.ok.0 ∙ c.in_ok-tells.ensures.lanes ∙ sym (ap (λ (k : RelayConfig). k.lanes) c.in_ok-relay.ensures.config)
