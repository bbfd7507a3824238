use Rattle.std.proofs.Common.{inr, refl}
use Rattle.relay_stub.proofs.document.run_and_answer.Goals as goal

pub returns : goal.returns
returns c = inr (refl, (c.in-Ok.done, record { item_of = c.in-Ok.ensures.item; effect = c.in-Ok.ensures.effect }))
