use Rattle.std.proofs.Common.{rules}
use Rattle.relay_scenario.proofs.Passing.{passes_broken, passes_line}
use Rattle.relay_scenario.proofs.ending.pass_on.Goals as goal

pub returns-in-Ok : goal.returns-in-Ok
returns-in-Ok g c = passes_line _ c.add_line.new.self _ c.as_slice.result.now _ _ _ _ (search rules) c.add_line.ensures.sent c.in-Ok.ensures.ok c.in-Ok.ensures.succeeded

pub returns-in-Err : goal.returns-in-Err
returns-in-Err g c =
    passes_broken _ c.add_line.new.self _ c.as_slice.result.now _ _ _ _ c.in-Err.sent (search rules) c.add_line.ensures.sent c.in-Err.ensures.err c.in-Err.ensures.failed
