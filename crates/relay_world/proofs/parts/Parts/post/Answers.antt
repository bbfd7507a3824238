use Rattle.std.proofs.Common.{sym, ap, ◌∙◌, subst}
use Rattle.relay_results.proofs.Lists.{at-within}
use Rattle.relay_world.specs.Changes.{at_lane, after_post}
use Rattle.relay_world.specs.Memory.{IsOpenIn}
use Rattle.relay_world.specs.View.{world_of}
use Rattle.relay_world.proofs.Places.{at_index, on_ok}
use Rattle.relay_world.proofs.Holding.{parts_result, view_result, posted_works}
use Rattle.relay_world.proofs.parts.Parts.post.Goals as goal

pub invariant_of-self : goal.invariant_of-self
invariant_of-self c =
    let i = c.self.inside in
    let w = world_of i in
    let o : IsOpenIn w c.args.sender c.args.lane = subst (λ x. IsOpenIn x c.args.sender c.args.lane) (sym c.self.view_is) c.requires in
    let there = at_index i.desks.items c.args.lane c.index_mut.result.now (at-within i.desks.items c.args.lane o.desk o.there) c.index_mut.ensures.value in
    parts_result c.post.result w c.args.lane (after_post c.args.sender c.args.body) c.index_mut.result.now c.post.new.self there c.post.ensures.ok c.post.ensures.unchanged (posted_works w c.args.sender c.args.body) c.self.invariant

pub returns-clause-ok : goal.returns-clause-ok
returns-clause-ok c =
    let i = c.self.inside in
    let w = world_of i in
    let o : IsOpenIn w c.args.sender c.args.lane = subst (λ x. IsOpenIn x c.args.sender c.args.lane) (sym c.self.view_is) c.requires in
    let there = at_index i.desks.items c.args.lane c.index_mut.result.now (at-within i.desks.items c.args.lane o.desk o.there) c.index_mut.ensures.value in
    on_ok c.post.result _ _ (λ e. e ∙ ap (at_lane c.args.lane (after_post c.args.sender c.args.body)) c.self.view_is)
    (view_result c.post.result w c.args.lane (after_post c.args.sender c.args.body) c.index_mut.result.now c.post.new.self there c.post.ensures.ok)
