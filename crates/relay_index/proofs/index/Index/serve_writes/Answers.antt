use Rattle.relay_index.specs.Serving.{under}
use Rattle.relay_index.proofs.Served.{HaveStatuses-RunsAll}
use Rattle.relay_index.proofs.index.Index.serve_writes.Goals as goal

pub returns-in-Ok-clause-ok : goal.returns-in-Ok-clause-ok
returns-in-Ok-clause-ok c =
    let items = c.in_ok-items.items.items in
    let statuses = HaveStatuses-RunsAll (under c.args.self.now c.args.script.now) c.args.writes.now items (under c.run_all.new.self c.run_all.new.script) c.in_ok-items.ensures.ok in
    let text = rw c.as_slice.ensures.value at c.in-Ok.ensures.text in
    let reads = rw c.as_slice.ensures.value at c.in-Ok.ensures.reads_back in
    record { items = items; runs = c.in_ok-items.ensures.ok; text_of = text; reads_back = reads statuses c.in_ok-items.ensures.statable }
