use Rattle.relay_flight.proofs.Numbers.{first_oldest}
use Rattle.relay_flight.proofs.flight.Flight.oldest.Goals as goal

pub returns : goal.returns
returns c =
    let rs = c.self.inside.held.items in
    let item = rw c.deref.ensures.value at c.in_ok-request.ensures.item in
    rw (← c.self.view_is, item.1)
    (first_oldest c.self.inside.max c.self.inside.next rs c.in_ok-request.request.now c.self.invariant.flight.numbered item.3.0)
