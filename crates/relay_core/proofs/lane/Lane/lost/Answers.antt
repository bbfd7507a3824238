use Rattle.relay_results.specs.Outside.{Lost}
use Rattle.relay_core.specs.State.{writes_of}
use Rattle.relay_core.proofs.Saying.{lost_says, lost_tells}
use Rattle.relay_core.proofs.lane.Lane.lost.Goals as goal

pub returns-in-Some-clause-ok : goal.returns-in-Some-clause-ok
returns-in-Some-clause-ok c =
    let ws = writes_of c.args.number c.args.self.now.state in
    c.in-Some.ensures.settled (Lost c.args.why) (lost_says ws c.args.why _ c.new.ensures.items) (lost_tells ws c.args.why _ c.new.ensures.items)

pub returns-in-Some-clause-counts : goal.returns-in-Some-clause-counts
returns-in-Some-clause-counts c =
    let ws = writes_of c.args.number c.args.self.now.state in
    c.in-Some.ensures.counts (Lost c.args.why) (lost_says ws c.args.why _ c.new.ensures.items)
