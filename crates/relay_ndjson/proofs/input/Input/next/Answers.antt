use Rattle.std.proofs.Common.{ap, subst, ◌∙◌}
use Rattle.relay_ndjson.specs.Operations.{failed_after}
use Rattle.relay_ndjson.specs.Reading.{Reading, Steps, reading}
use Rattle.relay_ndjson.proofs.input.Input.next.Goals as goal

pub returns-clause-lines : goal.returns-clause-lines
returns-clause-lines g c =
    let new = reading (g.R.ByteStream.left c.next.new.reader) (g.R.ByteStream.failed c.next.new.reader) c.next.new.self in
    subst (λ (old : Reading). Steps old.phase old new c.next.result) c.self.view_is c.next.ensures.lines

pub returns-clause-failed : goal.returns-clause-failed
returns-clause-failed g c = c.next.ensures.failed ∙ ap (λ (old : Reading). failed_after c.next.result old.failed) c.self.view_is

pub returns-clause-held : goal.returns-clause-held
returns-clause-held g c = c.next.ensures.held
