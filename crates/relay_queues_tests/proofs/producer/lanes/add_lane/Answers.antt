use Rattle.relay_queues_tests.proofs.producer.lanes.add_lane.Goals as goal

-- the ends are distributed from the last one on: the control's, and then each producer's
pub returns-clause-control : goal.returns-clause-control
returns-clause-control c = c.in_ok-deal.ensures.row c.in_ok-take.take.queue 2 c.in_ok-take.ensures.senders

pub returns-clause-second : goal.returns-clause-second
returns-clause-second c =
    let queue = c.in_ok-take.take.queue in
    c.in_ok-deal-2.ensures.row queue 1 (c.in_ok-deal.ensures.puts queue 2 c.in_ok-take.ensures.senders)

pub returns-clause-first : goal.returns-clause-first
returns-clause-first c =
    let queue = c.in_ok-take.take.queue in
    c.in_ok-deal-3.ensures.row queue 0 (c.in_ok-deal-2.ensures.puts queue 1 (c.in_ok-deal.ensures.puts queue 2 c.in_ok-take.ensures.senders))
