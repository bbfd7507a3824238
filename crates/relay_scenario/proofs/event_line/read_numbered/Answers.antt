use Rattle.relay_scenario.proofs.Refusing.{no_event}
use Rattle.relay_scenario.proofs.event_line.read_numbered.Goals as goal

pub returns-in-None-clause-err : goal.returns-in-None-clause-err
returns-in-None-clause-err c = no_event c.args.word.now c.args.rest.now c.in_ok-numbers.numbers.items c.in_ok-numbers.ensures.ok c.in-None.ensures
