use Rattle.relay_keeping.proofs.Following.{mark_there}
use Rattle.relay_keeping.proofs.keeper.mark_at.Goals as goal

pub returns-in-Some : goal.returns-in-Some
returns-in-Some c taken all =
    let l = c.in-Some.ensures.lookup in
    mark_there c.args.inputs.now c.args.producer c.in-Some.input.now c.mark.result taken l.3.0 l.1 c.mark.ensures all
