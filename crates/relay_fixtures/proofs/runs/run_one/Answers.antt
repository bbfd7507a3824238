use Rattle.std.proofs.Common.{refl, sym, subst}
use Rattle.relay_results.specs.Documents.{document_of}
use Rattle.relay_results.specs.Outside.{IsOutcomeOf}
use Rattle.relay_index.specs.Runs.{outcome_of_run}
use Rattle.relay_fixtures.specs.Runs.{entry_of}
use Rattle.relay_fixtures.proofs.Items.{ran_item, one_entry}
use Rattle.relay_fixtures.proofs.runs.run_one.Goals as goal

pub returns : goal.returns
returns c o number place shows at =
    let w = c.args.write.now in
    let done = c.in_ok-done.done in
    let run = outcome_of_run done in
    ran_item number place c.args.index.now c.run.new.self o w run at
    (subst (λ v. IsOutcomeOf v w run) (sym (shows.versions (document_of w.key))) c.in_ok-done.ensures.versioned)
    (c.in_ok-done.ensures.outside o (record { request = number; place = place; outcome = run }) shows refl)
    (entry_of c.outcome.result)
    (λ rs m. one_entry rs number place done c.outcome.result m c.outcome.ensures)
