use Rattle.std.proofs.Common.{◌≡◌, ◌-◌, sym, ap, ◌∙◌, subst, arith}
use Rattle.relay_results.specs.Words.{update}
use Rattle.relay_results.proofs.Lists.{at-within}
use Rattle.relay_world.specs.State.{World}
use Rattle.relay_world.specs.Changes.{with_answer}
use Rattle.relay_world.specs.View.{world_of}
use Rattle.relay_world.proofs.Places.{at_index}
use Rattle.relay_world.specs.Memory.{answer_of, IsSent}
use Rattle.relay_world.proofs.Places.{numbered_at, set-update}
use Rattle.relay_world.proofs.parts.Parts.note.Goals as goal

pub returns : goal.returns
returns c =
    let i = c.self.inside in
    let w = world_of i in
    let r : IsSent w c.args.request = subst (λ x. IsSent x c.args.request) (sym c.self.view_is) c.requires in
    let s : c.saturating_sub.result ≡ c.args.request - 1 = omega (arith, c.saturating_sub.ensures) in
    let lt = at-within i.sent.items (c.args.request - 1) r.sent (numbered_at i.sent.items c.args.request r.sent r.was_sent) in
    let there = at_index i.sent.items c.saturating_sub.result c.index_mut.result.now (omega (arith, s, lt)) c.index_mut.ensures.value in
    let ss = set-update (with_answer (answer_of c.args.given)) i.sent.items c.saturating_sub.result c.index_mut.result.now c.note.new.self there c.note.ensures
    ∙ ap (λ n. update n (with_answer (answer_of c.args.given)) i.sent.items) s in
    (λ j. record w { sent = ss j }) ∙ ap (λ (x : World). record x { sent = update (c.args.request - 1) (with_answer (answer_of c.args.given)) x.sent }) c.self.view_is
