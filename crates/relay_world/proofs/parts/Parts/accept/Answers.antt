use Rattle.std.proofs.Common.{◌≡◌, None, sym, ap, ◌∙◌, subst, arith}
use Rattle.relay_results.specs.Documents.{document_of}
use Rattle.relay_results.proofs.Lists.{at-within, some_same}
use Rattle.relay_world.specs.State.{lane_of}
use Rattle.relay_world.specs.Refusals.{put_refusal}
use Rattle.relay_world.specs.Changes.{after_put}
use Rattle.relay_world.specs.Memory.{IsOpenAt}
use Rattle.relay_world.specs.View.{world_of}
use Rattle.relay_world.proofs.Places.{at_index, on_ok, on_err}
use Rattle.relay_world.proofs.Holding.{accepted_parts, accepted_view, accepted_same, put_open}
use Rattle.relay_world.proofs.parts.Parts.accept.Goals as goal

pub accept-requires : goal.accept-requires
accept-requires c =
    let i = c.self.inside in
    let w = world_of i in
    let o = (put_open w c.args.op.producer c.args.lane c.self.invariant (subst (λ x. put_refusal x c.args.op.producer c.args.lane ≡ None) (sym c.self.view_is) c.requires.fits)).0 in
    let there = at_index i.desks.items c.args.lane c.index_mut-2.result.now (at-within i.desks.items c.args.lane o.desk o.there) c.index_mut-2.ensures.value in
    subst (IsOpenAt c.args.op.producer) (some_same o.desk c.index_mut-2.result.now (sym o.there ∙ there)) o.is_open

pub invariant_of-self : goal.invariant_of-self
invariant_of-self c =
    let i = c.self.inside in
    let w = world_of i in
    let p = put_open w c.args.op.producer c.args.lane c.self.invariant (subst (λ x. put_refusal x c.args.op.producer c.args.lane ≡ None) (sym c.self.view_is) c.requires.fits) in
    let there = at_index i.desks.items c.args.lane c.index_mut-2.result.now (at-within i.desks.items c.args.lane p.0.desk p.0.there) c.index_mut-2.ensures.value in
    accepted_parts c.accept.result w c.args.op c.args.lane c.index_mut-2.result.now c.accept.new.desk c.accept.new.self there c.accept.ensures.queue c.accept.ensures.same_queue c.self.invariant

pub returns-clause-ok : goal.returns-clause-ok
returns-clause-ok c =
    let i = c.self.inside in
    let w = world_of i in
    let p = put_open w c.args.op.producer c.args.lane c.self.invariant (subst (λ x. put_refusal x c.args.op.producer c.args.lane ≡ None) (sym c.self.view_is) c.requires.fits) in
    let there = at_index i.desks.items c.args.lane c.index_mut-2.result.now (at-within i.desks.items c.args.lane p.0.desk p.0.there) c.index_mut-2.ensures.value in
    let n = c.self.invariant.producers in
    let lt = p.1 in
    let list = at_index i.accepted.items c.args.op.producer c.index_mut.result.now (omega (arith, n, lt)) c.index_mut.ensures.value in
    on_ok c.accept.result _ _ (λ e. e ∙ ap (λ x. after_put x c.args.op) c.self.view_is)
    (accepted_view c.accept.result w c.args.op c.args.lane c.index_mut-2.result.now c.accept.new.desk c.index_mut.result.now c.accept.new.self there list (c.requires.lane ∙ ap (λ x. lane_of x (document_of c.args.op.key)) (sym c.self.view_is)) c.accept.ensures.queue c.accept.ensures.list)

pub returns-clause-unchanged : goal.returns-clause-unchanged
returns-clause-unchanged c =
    let i = c.self.inside in
    let w = world_of i in
    let p = put_open w c.args.op.producer c.args.lane c.self.invariant (subst (λ x. put_refusal x c.args.op.producer c.args.lane ≡ None) (sym c.self.view_is) c.requires.fits) in
    let there = at_index i.desks.items c.args.lane c.index_mut-2.result.now (at-within i.desks.items c.args.lane p.0.desk p.0.there) c.index_mut-2.ensures.value in
    let n = c.self.invariant.producers in
    let lt = p.1 in
    let list = at_index i.accepted.items c.args.op.producer c.index_mut.result.now (omega (arith, n, lt)) c.index_mut.ensures.value in
    on_err c.accept.result _ _ (λ e. e ∙ c.self.view_is)
    (accepted_same c.accept.result w c.args.op c.args.lane c.index_mut-2.result.now c.accept.new.desk c.index_mut.result.now c.accept.new.self there list c.accept.ensures.same_queue c.accept.ensures.unchanged)
