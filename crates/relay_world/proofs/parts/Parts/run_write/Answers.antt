use Rattle.std.proofs.Common.{◌≡◌, ◌-◌, sym, subst, arith}
use Rattle.std.specs.Prelude.{IfOk}
use Rattle.relay_results.proofs.Lists.{at-within}
use Rattle.relay_world.specs.State.{World}
use Rattle.relay_world.specs.View.{world_of}
use Rattle.relay_world.proofs.Places.{at_index}
use Rattle.std.specs.Prelude.{slice_set}
use Rattle.relay_world.specs.declared.event.StepAnswer.TheVariants as answer
use Rattle.relay_world.specs.Changes.{RunsItem}
use Rattle.relay_world.specs.Memory.{IsItemOf}
use Rattle.relay_world.proofs.Places.{numbered_at}
use Rattle.relay_world.proofs.Running.{ran}
use Rattle.relay_world.proofs.parts.Parts.run_write.Goals as goal

pub returns-clause-ok : goal.returns-clause-ok
returns-clause-ok c =
    let i = c.self.inside in
    let w = world_of i in
    let f : IsItemOf w c.args.request c.args.item c.args.name c.args.write.now = subst (λ x. IsItemOf x c.args.request c.args.item c.args.name c.args.write.now) (sym c.self.view_is) c.requires.item in
    let s : c.saturating_sub.result ≡ c.args.request - 1 = omega (arith, c.saturating_sub.ensures) in
    let lt = at-within i.sent.items (c.args.request - 1) f.sent (numbered_at i.sent.items c.args.request f.sent f.was_sent) in
    let there = at_index i.sent.items c.saturating_sub.result c.index_mut.result.now (omega (arith, s, lt)) c.index_mut.ensures.value in
    let new : World = record w { sent = slice_set w.sent c.saturating_sub.result c.run.new.self; index = c.run.new.index; kept = c.run.new.names } in
    subst (λ x. IfOk c.run.result (λ n. RunsItem x c.args.request c.args.item c.args.choice (answer.Ran n) new)) c.self.view_is
    (ran c.run.result w c.args.request c.args.item c.args.choice c.args.name c.args.write.now f c.index_mut.result.now c.run.new.self c.saturating_sub.result s there c.run.new.index c.run.new.names
    c.run.ensures.status c.run.ensures.sent c.run.ensures.effect c.run.ensures.names c.run.ensures.before)
