-- The wires of a run.
use Rattle.std.specs.Prelude.{◌≡◌, ℕ, List, [], ◌∷◌}
use Rattle.relay_wires.specs.Carriers.{Carrier}

-- a wire that names this host in its requests and has this many places in flight, and that has not sent anything
pub record IsNewWire {P : Type 0} (host : List ℕ) (places : ℕ) (w : Carrier P) : Type 0 where
  pub names : w.host ≡ host
  pub most : w.most ≡ places
  pub none_out : w.out ≡ []
  pub none_free : w.free ≡ []

-- each of these wires is one
abbrev pub AreNewWires : {P : Type 0} → List ℕ → ℕ → List (Carrier P) → Type 0
AreNewWires host places [] = Unit {0}
AreNewWires host places (w ∷ ws) = IsNewWire host places w × AreNewWires host places ws
