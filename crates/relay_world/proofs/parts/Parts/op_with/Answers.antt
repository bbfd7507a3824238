use Rattle.std.proofs.Common.{◌≡◌, ◌∷◌, [], Some, sym, ap, ◌∙◌}
use Rattle.std.specs.Prelude.{slice_get}
use Rattle.relay_world.specs.State.{Past, World, running, place_dealt}
use Rattle.relay_world.proofs.Places.{at_index}
use Rattle.relay_world.proofs.Epochs.{dealt}
use Rattle.relay_world.proofs.parts.Parts.op_with.Goals as goal

pub returns-in-Some : goal.returns-in-Some
returns-in-Some c =
    let w = c.args.self.now in
    let n = c.ended.ended-index in
    let p = c.ended-item.result in
    let v = c.args.version in
    let place = c.in-Some.place in
    let all = sym (c.deref-ended-items.ensures.value ∙ ap (λ (x : World). x.ended) c.self.view_is) in
    let at : slice_get w.ended n ≡ Some p = ap (λ ps. slice_get ps n) all ∙ at_index c.deref-ended-items.result.now n p c.ended-test.true c.ended-item.is in
    let is_dealt : place_dealt w.config.deal p.epoch v ≡ Some place =
    ap (λ (x : Past). place_dealt w.config.deal x.epoch v) (sym c.ended-in-ended.view_is) ∙ sym c.dealt_at.ensures ∙ c.in-Some.is in
    c.op_at.ensures
    ∙ sym (dealt w.config.deal c.args.lane v w.ended (running w ∷ []) n p at place is_dealt)
    ∙ c.ended.invariant
