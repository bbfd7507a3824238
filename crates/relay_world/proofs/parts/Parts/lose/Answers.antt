use Rattle.std.proofs.Common.{sym, ap, ◌∙◌, subst}
use Rattle.relay_results.specs.declared.cause.Loss.TheVariants as loss
use Rattle.relay_results.proofs.Lists.{at-within}
use Rattle.relay_world.specs.State.{desk_at}
use Rattle.relay_world.specs.Changes.{at_lane, answered_desk}
use Rattle.relay_world.specs.Memory.{IsThere}
use Rattle.relay_world.specs.View.{world_of}
use Rattle.relay_world.proofs.Places.{at_index, on_ok}
use Rattle.relay_world.proofs.Holding.{parts_result, view_result, answered_works}
use Rattle.relay_results.specs.Outside.{Lost}
use Rattle.relay_world.specs.Refusals.{flies_at}
use Rattle.relay_world.proofs.Places.{if_ok_two}
use Rattle.relay_world.proofs.parts.Parts.lose.Goals as goal

pub invariant_of-self : goal.invariant_of-self
invariant_of-self c =
    let i = c.self.inside in
    let w = world_of i in
    let o : IsThere w c.args.lane = subst (λ x. IsThere x c.args.lane) (sym c.self.view_is) c.requires in
    let there = at_index i.desks.items c.args.lane c.index_mut.result.now (at-within i.desks.items c.args.lane o.desk o.there) c.index_mut.ensures.value in
    parts_result c.lost.result w c.args.lane (answered_desk c.args.number (Lost loss.Closed)) c.index_mut.result.now c.lost.new.self there c.lost.ensures.ok c.lost.ensures.unchanged (answered_works w c.args.number (Lost loss.Closed)) c.self.invariant

pub returns-clause-flies : goal.returns-clause-flies
returns-clause-flies c =
    let i = c.self.inside in
    let w = world_of i in
    let o : IsThere w c.args.lane = subst (λ x. IsThere x c.args.lane) (sym c.self.view_is) c.requires in
    let there = at_index i.desks.items c.args.lane c.index_mut.result.now (at-within i.desks.items c.args.lane o.desk o.there) c.index_mut.ensures.value in
    c.lost.ensures.flies ∙ ap (flies_at c.args.number) (sym there ∙ ap (λ x. desk_at x c.args.lane) c.self.view_is)

pub returns-clause-ok : goal.returns-clause-ok
returns-clause-ok c =
    let i = c.self.inside in
    let w = world_of i in
    let o : IsThere w c.args.lane = subst (λ x. IsThere x c.args.lane) (sym c.self.view_is) c.requires in
    let there = at_index i.desks.items c.args.lane c.index_mut.result.now (at-within i.desks.items c.args.lane o.desk o.there) c.index_mut.ensures.value in
    on_ok c.lost.result _ _ (λ e. e ∙ ap (at_lane c.args.lane (answered_desk c.args.number (Lost loss.Closed))) c.self.view_is)
    (view_result c.lost.result w c.args.lane (answered_desk c.args.number (Lost loss.Closed)) c.index_mut.result.now c.lost.new.self there c.lost.ensures.ok)

pub returns-clause-counts : goal.returns-clause-counts
returns-clause-counts c =
    let i = c.self.inside in
    let w = world_of i in
    let o : IsThere w c.args.lane = subst (λ x. IsThere x c.args.lane) (sym c.self.view_is) c.requires in
    let there = at_index i.desks.items c.args.lane c.index_mut.result.now (at-within i.desks.items c.args.lane o.desk o.there) c.index_mut.ensures.value in
    if_ok_two c.lost.result _ _ _ (λ x are m. record { desk = c.index_mut.result.now; there = ap (λ y. desk_at y c.args.lane) (sym c.self.view_is) ∙ there; are = are; matched = m })
    c.lost.ensures.counts c.lost.ensures.matched
