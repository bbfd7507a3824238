use Rattle.std.proofs.Common.{inr}
use Rattle.relay_front.proofs.service.Front.health.Goals as goal

pub returns-in-Some : goal.returns-in-Some
returns-in-Some g c = inr (c.as_str.result.now, c.down.ensures)
