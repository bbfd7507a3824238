use Rattle.std.proofs.Common.{◌≡◌, None, sym, ap, ◌∙◌, subst}
use Rattle.relay_results.proofs.Lists.{at-within}
use Rattle.relay_world.specs.Refusals.{take_refusal}
use Rattle.relay_world.specs.Changes.{at_lane, took_front}
use Rattle.relay_world.specs.Memory.{IsThere}
use Rattle.relay_world.specs.View.{world_of}
use Rattle.relay_world.proofs.Places.{at_index, on_ok}
use Rattle.relay_world.proofs.Holding.{parts_result, view_result, took_works, take_there}
use Rattle.relay_world.proofs.parts.Parts.take_front.Goals as goal

pub invariant_of-self : goal.invariant_of-self
invariant_of-self c =
    let i = c.self.inside in
    let w = world_of i in
    let o : IsThere w c.args.lane = take_there w c.args.lane (subst (λ x. take_refusal x c.args.lane ≡ None) (sym c.self.view_is) c.requires) in
    let there = at_index i.desks.items c.args.lane c.index_mut.result.now (at-within i.desks.items c.args.lane o.desk o.there) c.index_mut.ensures.value in
    parts_result c.take.result w c.args.lane took_front c.index_mut.result.now c.take.new.self there c.take.ensures.ok c.take.ensures.unchanged (took_works w) c.self.invariant

pub returns-clause-ok : goal.returns-clause-ok
returns-clause-ok c =
    let i = c.self.inside in
    let w = world_of i in
    let o : IsThere w c.args.lane = take_there w c.args.lane (subst (λ x. take_refusal x c.args.lane ≡ None) (sym c.self.view_is) c.requires) in
    let there = at_index i.desks.items c.args.lane c.index_mut.result.now (at-within i.desks.items c.args.lane o.desk o.there) c.index_mut.ensures.value in
    on_ok c.take.result _ _ (λ e. e ∙ ap (at_lane c.args.lane took_front) c.self.view_is)
    (view_result c.take.result w c.args.lane took_front c.index_mut.result.now c.take.new.self there c.take.ensures.ok)
