use Rattle.relay_serve.proofs.Serving.{front_kept, goes_by}
use Rattle.relay_serve.proofs.worker.serve_turn.Goals as goal

pub returns-clause-front : goal.returns-clause-front
returns-clause-front g c = front_kept c.args.service.now c.serve-turn.new.service c.serve-turn.ensures.0 c.serve-turn.ensures.2

pub returns-clause-on : goal.returns-clause-on
returns-clause-on g c = goes_by c.args.service.now c.serve-turn.new.service c.args.client.now c.serve-turn.new.self c.serve-turn.ensures
