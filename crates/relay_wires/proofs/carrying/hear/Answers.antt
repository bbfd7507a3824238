use Rattle.std.proofs.Common.{ap}
use Rattle.relay_http.specs.Connection.{Connection}
use Rattle.relay_wires.proofs.carrying.hear.Goals as goal

pub returns-in-Ok-clause-outside : goal.returns-in-Ok-clause-outside
returns-in-Ok-clause-outside g c =
    let written = c.apart-stream.ensures.stream.1 in
    let left = ap (λ (k : Connection). k.left) c.over.ensures in
    λ d. rw (← written, left) (c.in-Ok.ensures.outside d)

pub returns-in-Ok-clause-does : goal.returns-in-Ok-clause-does
returns-in-Ok-clause-does g c =
    let written = c.apart-stream.ensures.stream.1 in
    let left = ap (λ (k : Connection). k.left) c.over.ensures in
    rw (← written, left) c.in-Ok.ensures.does
