use Rattle.std.proofs.Common.{take, ◌∙◌, ◌++◌, ◌∷◌, [], ap, sym, arith, rules}
use Rattle.std.proofs.lemmas.List.{take_more}
use Rattle.relay_index.specs.Runs.{RunsOne}
use Rattle.relay_index.specs.Plans.{choice_at}
use Rattle.relay_index.specs.Serving.{under}
use Rattle.relay_index.proofs.Served.{RunsAll-push, AreStatable-push}
use Rattle.relay_index.proofs.index.Index.run_all.Goals as goal

pub writes-preserved : goal.writes-preserved
writes-preserved c =
    let write = c.write-item.result in
    let ws = c.args.writes.now in
    let more = take_more ws c.writes.write-index write (omega arith) ∙ ap (λ w. take c.writes.write-index ws ++ w ∷ []) (sym c.write-item.is) in
    let run : RunsOne c.writes.self write (choice_at c.writes.script) c.in-Ok-run.done c.run.new.self =
    record { item_of = rw c.choice-choice.ensures.choice at c.in-Ok-run.ensures.item; effect = rw c.choice-choice.ensures.choice at c.in-Ok-run.ensures.effect } in
    record {
      runs = rw (more, c.push_reserved.ensures.items, c.step.ensures)
          (RunsAll-push (under c.args.self.now c.args.script.now) (take c.writes.write-index ws) c.writes.items.items (under c.writes.self c.writes.script) write c.in-Ok-run.done c.run.new.self c.writes.invariant.runs run);
      statable = rw c.push_reserved.ensures.items (AreStatable-push c.writes.items.items c.in-Ok-run.done c.writes.invariant.statable c.in-Ok-run.ensures.statable);
      counted = search rules;
      room = search rules;
    }
