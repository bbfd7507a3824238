use Rattle.std.proofs.Common.{Some, Bor, List, option_map, sym, ap, ◌∙◌}
use Rattle.std.specs.Option.{option_copied}
use Rattle.relay_batch.specs.declared.item.BatchItem.{BatchItem}
use Rattle.relay_flight.specs.Flying.{batch_at}
use Rattle.relay_flight.proofs.Numbers.{batch_seen}
use Rattle.relay_core.specs.State.{Seen}
use Rattle.relay_core.proofs.lane.Lane.items.Goals as goal

pub returns : goal.returns
returns c =
    ap Some c.items.ensures.items ∙ ap option_copied (sym c.in_ok-batch.was) ∙ c.batch.ensures ∙ batch_seen c.args.number c.self.inside.flight.requests
    ∙ ap (λ (v : Seen). batch_at c.args.number v.state.flights) c.self.view_is

pub returns-in_err-batch : goal.returns-in_err-batch
returns-in_err-batch c =
    ap (option_map (λ (b : Bor (List BatchItem)). b.now)) c.from_residual.ensures ∙ ap option_copied (sym c.in_err-batch.was) ∙ c.batch.ensures ∙ batch_seen c.args.number c.self.inside.flight.requests
    ∙ ap (λ (v : Seen). batch_at c.args.number v.state.flights) c.self.view_is
