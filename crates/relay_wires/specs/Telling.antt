-- What is outside of a wire over HTTP connections whose far end is described.
use Rattle.std.specs.Prelude.{ℕ, ◌<◌, List, [], ◌∷◌}
use Rattle.relay_action.specs.declared.write.Write.{Write}
use Rattle.relay_results.specs.Numbers.{from_zero}
use Rattle.relay_results.specs.Outside.{Outside}
use Rattle.relay_http.specs.Connection.{Connection, HasNone}
use Rattle.relay_wires.specs.Numbers.{numbers}
use Rattle.relay_wires.specs.Peers.{MayGo, IsWritten, IsOpenAt}
use Rattle.relay_wires.specs.Carriers.{Carrier}

-- the request with this number is open, and it is what was written on its connection
pub record IsOut (host : List ℕ) (number : ℕ) (c : Connection) (o : Outside) : Type 0 where
  pub writes : List Write
  pub sent : IsOpenAt number writes o
  pub may : MayGo writes
  pub written_is : IsWritten host writes c.written

-- each of these was sent before the request at this place
abbrev pub AllBefore : ℕ → List ℕ → Type 0
AllBefore place [] = Unit {0}
AllBefore place (n ∷ ns) = (from_zero n < place) × AllBefore place ns

-- each of these is outstanding, the newest first
abbrev pub AreOut : List ℕ → List (ℕ × Connection) → Outside → Type 0
AreOut host [] o = Unit {0}
AreOut host (e ∷ es) o = IsOut host e.0 e.1 o × AllBefore (from_zero e.0) (numbers es) × AreOut host es o

-- of what was written on these connections, the far end had everything
abbrev pub AllUnwritten : List Connection → Type 0
AllUnwritten [] = Unit {0}
AllUnwritten (c ∷ cs) = HasNone c.written × AllUnwritten cs

-- An outside fits the wire if it fits the far end, and what is outstanding was sent there, each request on its own
-- connection; on a free connection nothing is left that the far end did not have.
pub record Fits {P : Type 0} (fits : P → Outside → Type 0) (w : Carrier P) (o : Outside) : Type 0 where
  pub peer : fits w.peer o
  pub out : AreOut w.host w.out o
  pub free : AllUnwritten w.free
