-- One more wire of a run.
use Rattle.std.proofs.Common.{ℕ, List, [], ◌∷◌, ◌++◌}
use Rattle.relay_wires.specs.Carriers.{Carrier}
use Rattle.relay_run.specs.Wires.{IsNewWire, AreNewWires}

-- one more wire that has sent nothing
pub new_wires_push : {P : Type 0} (host : List ℕ) (places : ℕ) (ws : List (Carrier P)) (w : Carrier P) → AreNewWires host places ws → IsNewWire host places w → AreNewWires host places (ws ++ w ∷ [])
new_wires_push host places [] w all is = (is, tt)
new_wires_push host places (x ∷ ws) w all is = (all.0, new_wires_push host places ws w all.1 is)
