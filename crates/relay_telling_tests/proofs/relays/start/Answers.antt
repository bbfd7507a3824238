use Rattle.relay_telling_tests.proofs.Naming.{none_taken}
use Rattle.relay_telling_tests.proofs.relays.start.Goals as goal

pub windowed-requires-clause-takes : goal.windowed-requires-clause-takes
windowed-requires-clause-takes g c = none_taken c.args.config.lanes c.in-Ok.takes.items c.in-Ok.ensures.takes
