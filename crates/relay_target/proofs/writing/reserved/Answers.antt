use Rattle.relay_target.proofs.Escapes.{reserved}
use Rattle.relay_target.proofs.writing.reserved.Goals as goal

pub returns : goal.returns
returns c =
    reserved c.remove.result c.remove-2.result c.remove-3.result c.remove-4.result
    (record { removed = c.remove.ensures.removed; others = c.remove.ensures.others })
    (record { removed = c.remove-2.ensures.removed; others = c.remove-2.ensures.others })
    (record { removed = c.remove-3.ensures.removed; others = c.remove-3.ensures.others })
    (record { removed = c.remove-4.ensures.removed; others = c.remove-4.ensures.others })
