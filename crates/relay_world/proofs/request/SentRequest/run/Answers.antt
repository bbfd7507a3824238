use Rattle.std.proofs.Common.{◌≡◌, ◌-◌, ◌<◌, length, sym, ap, ◌∙◌, subst, arith}
use Rattle.relay_index.specs.Runs.{done_of, outcome_of_run}
use Rattle.relay_results.specs.Words.{update}
use Rattle.relay_world.specs.State.{Sent}
use Rattle.relay_world.specs.Changes.{with_outcome, ran_item}
use Rattle.relay_world.specs.Memory.{answer_of}
use Rattle.relay_world.proofs.Places.{at_index, on_ok, set-update}
use Rattle.relay_world.proofs.request.SentRequest.run.Goals as goal

pub returns-clause-sent : goal.returns-clause-sent
returns-clause-sent c =
    let i = c.self.inside in
    let o = outcome_of_run (done_of c.args.index.now c.args.write.now c.args.choice) in
    let v : Sent = record { epoch = c.self.inside.epoch; lane = i.lane; number = i.number; items = i.items.items; answer = answer_of i.given } in
    let s : c.saturating_sub.result ≡ c.args.item - 1 = omega (arith, c.saturating_sub.ensures) in
    let lt : c.args.item - 1 < length v.items = subst (λ (x : Sent). c.args.item - 1 < length x.items) (sym c.self.view_is) c.requires.item in
    let there = at_index i.items.items c.saturating_sub.result c.index_mut.result.now (omega (arith, s, lt)) c.index_mut.ensures.value in
    on_ok c.run.result _ _
    (λ is.
    let ss = set-update (with_outcome o) i.items.items c.saturating_sub.result c.index_mut.result.now c.run.new.item there is ∙ ap (λ n. update n (with_outcome o) i.items.items) s in
    (λ j. record v { items = ss j }) ∙ ap (ran_item c.args.item o) c.self.view_is)
    c.run.ensures.item
