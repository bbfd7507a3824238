use Rattle.std.proofs.Common.{arith, ap, subst, set, length, false, ◌≡◌, ◌<◌, ◌∙◌}
use Rattle.std.proofs.lemmas.Option.{get_or_from_slice_get}
use Rattle.relay_action.specs.declared.mail.Body.TheVariants.{Put}
use Rattle.relay_producer.specs.declared.ends.OpenEnd.{OpenEnd}
use Rattle.relay_producer.specs.Ends.{with_sent, with_mark}
use Rattle.relay_producer.proofs.Putting.{set_change}
use Rattle.relay_producer.proofs.lanes.send_op.Goals as goal

pub returns-in-Ok-clause-sent : goal.returns-in-Ok-clause-sent
returns-in-Ok-clause-sent g c =
    let lt : c.args.lane < length c.args.ends.now.items = omega arith in
    ap (set c.args.ends.now.items c.args.lane) c.in-Ok.ensures.sent.sent ∙ set_change c.args.lane (with_sent (Put c.args.op)) c.args.ends.now.items c.index_mut.result.now lt c.index_mut.ensures.value

pub returns-in-Ok-clause-reached : goal.returns-in-Ok-clause-reached
returns-in-Ok-clause-reached g c e at =
    let is = c.index_mut.ensures.value ∙ get_or_from_slice_get c.args.ends.now.items c.args.lane e c.index_mut.result.now at in
    subst (λ (z : OpenEnd). z.gone ≡ false) is c.in-Ok.ensures.sent.reached

pub returns-in-Err-Gone-Put-clause-gone : goal.returns-in-Err-Gone-Put-clause-gone
returns-in-Err-Gone-Put-clause-gone g c =
    let lt : c.args.lane < length c.args.ends.now.items = omega arith in
    ap (set c.args.ends.now.items c.args.lane) (c.in-Err-Gone-Put.ensures.gone c.in-Err-Gone-Put.field-0-0-is) ∙ set_change c.args.lane with_mark c.args.ends.now.items c.index_mut.result.now lt c.index_mut.ensures.value
