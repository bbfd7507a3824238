use Rattle.std.proofs.Common.{sym, ◌∙◌}
use Rattle.relay_serve.proofs.Putting.{settles_all}
use Rattle.relay_serve.proofs.Staying.{stays_on}
use Rattle.relay_serve.proofs.settler.Settler.settle.Goals as goal

pub returns-clause-ok : goal.returns-clause-ok
returns-clause-ok g c =
    let filled = c.finish_ends-ends.ensures.filled in
    let ends = c.finish_ends-ends.result in
    settles_all c.args.self.now.producer c.put_all-others.new.self.producer c.hear_all.new.self.producer c.args.writes.items c.put_all-others.result ends.items filled.0 c.put_all-others.new.batch c.hear_all.new.batch
    (stays_on _ _ _ c.put_all-others.ensures.stays c.hear_all.ensures.stays) c.put_all-others.ensures.puts c.hear_all.ensures.hears c.hear_all.ensures.keeps.len
    (sym ends.ok.0 ∙ c.finish_ends-ends.ensures.len ∙ c.len-count.ensures ∙ c.args.writes.ok.0) filled.1 filled.2
