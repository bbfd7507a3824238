use Rattle.std.proofs.Common.{sym, subst}
use Rattle.std.specs.Prelude.{◌≡◌, None, IfOk, OnErr}
use Rattle.relay_world.specs.Refusals.{send_refusal}
use Rattle.relay_results.proofs.Lists.{at-within}
use Rattle.relay_world.specs.Memory.{IsThere}
use Rattle.relay_world.specs.View.{world_of}
use Rattle.relay_world.proofs.Places.{at_index}
use Rattle.relay_world.proofs.Holding.{formed, formed_parts, form_due}
use Rattle.relay_world.specs.Memory.{Forms}
use Rattle.std.specs.Prelude.{slice_set}
use Rattle.relay_world.proofs.parts.Parts.form.Goals as goal

pub invariant_of-self : goal.invariant_of-self
invariant_of-self c =
    let i = c.self.inside in
    let w = world_of i in
    let o : IsThere w c.args.lane = subst (λ x. IsThere x c.args.lane) (sym c.self.view_is) c.requires in
    let there = at_index i.desks.items c.args.lane c.index_mut.result.now (at-within i.desks.items c.args.lane o.desk o.there) c.index_mut.ensures.value in
    formed_parts c.send_from.result w c.args.lane c.index_mut.result.now c.send_from.new.desk c.send_from.new.sent.items there c.send_from.ensures.desk c.send_from.ensures.same_desk c.self.invariant

pub returns-clause-ok : goal.returns-clause-ok
returns-clause-ok c =
    let i = c.self.inside in
    let w = world_of i in
    let o : IsThere w c.args.lane = subst (λ x. IsThere x c.args.lane) (sym c.self.view_is) c.requires in
    let there = at_index i.desks.items c.args.lane c.index_mut.result.now (at-within i.desks.items c.args.lane o.desk o.there) c.index_mut.ensures.value in
    subst (λ x. IfOk c.send_from.result (λ b. Forms x c.args.lane b (record w { desks = slice_set w.desks c.args.lane c.send_from.new.desk; sent = c.send_from.new.sent.items }))) c.self.view_is
    (formed c.send_from.result w c.args.lane c.index_mut.result.now c.send_from.new.desk c.send_from.new.sent.items there c.send_from.ensures.when c.send_from.ensures.desk c.send_from.ensures.sent)

pub returns-clause-due : goal.returns-clause-due
returns-clause-due c =
    let i = c.self.inside in
    let w = world_of i in
    let o : IsThere w c.args.lane = subst (λ x. IsThere x c.args.lane) (sym c.self.view_is) c.requires in
    let there = at_index i.desks.items c.args.lane c.index_mut.result.now (at-within i.desks.items c.args.lane o.desk o.there) c.index_mut.ensures.value in
    subst (λ x. OnErr c.send_from.result (send_refusal x c.args.lane ≡ None)) c.self.view_is (form_due c.send_from.result w c.args.lane c.index_mut.result.now there c.send_from.ensures.due)
