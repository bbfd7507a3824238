use Rattle.std.proofs.Common.{take, ◌∙◌, ◌++◌, ◌∷◌, [], ap, sym, arith}
use Rattle.std.proofs.lemmas.List.{take_more}
use Rattle.relay_world.specs.Steps.{none_yet}
use Rattle.relay_world.proofs.Playing.{plays-push, counts-one}
use Rattle.relay_world.proofs.world.play_all.Goals as goal

pub events-preserved : goal.events-preserved
events-preserved c =
    let event = c.event-item.result in
    let es = c.args.events.now in
    let more = take_more es c.events.event-index event (omega arith) ∙ ap (λ e. take c.events.event-index es ++ e ∷ []) (sym c.event-item.is) in
    record {
      plays = rw (more, c.counted-end.ensures) (plays-push c.args.parts.now none_yet (take c.events.event-index es) c.events.end c.events.parts event c.in-Ok.answer c.play.new.parts c.events.invariant.plays c.in-Ok.ensures.ok);
      counts = (let n = counts-one c.in-Ok.answer c.events.end in let i = c.events.invariant.counts in rw c.counted-end.ensures (omega (arith, n, i)));
    }

pub returns-clause-unfinished : goal.returns-clause-unfinished
returns-clause-unfinished c = tt
