-- The terms of a server, one after another.
use Rattle.std.specs.Prelude.{ℕ, ◌+◌, ◌≤◌, Bool, List, [], ◌∷◌, Option, map}
use Rattle.std.specs.declared.net.tcp.TcpListener.{TcpListener}
use Rattle.std.specs.declared.net.tcp.TcpStream.{TcpStream}
use Rattle.std.specs.declared.rt.LibcRuntime.{LibcRuntime}
use Rattle.relay_results.specs.Outside.{Outside}
use Rattle.relay_core.specs.declared.config.RelayConfig.{RelayConfig}
use Rattle.relay_lane.specs.Exchanges.{Exchange}
use Rattle.relay_receipts.specs.Ends.{TakeEnd}
use Rattle.relay_common.specs.Counts.{total}
use Rattle.relay_front.specs.declared.face.Face.{Face}
use Rattle.relay_telling.specs.declared.ending.Ending.{Ending}
use Rattle.relay_threads.specs.declared.summary.LaneSummary.{LaneSummary}
use Rattle.relay_net.specs.declared.timed.TimedDial.{TimedDial}
use Rattle.relay_net.specs.declared.timed.TimedStream.{TimedStream}
use Rattle.relay_progress.specs.declared.dial.CountedDial.{CountedDial}
use Rattle.relay_progress.specs.declared.wire.CountedWire.{CountedWire}
use Rattle.relay_wires.specs.declared.http_wire.HttpWire.{HttpWire}
use Rattle.relay_wires.specs.declared.peer.Unknown.{Unknown}
use Rattle.relay_serve.specs.declared.terms.Term.{Term}
use Rattle.relay_serve.specs.Configs.{config_in}
use Rattle.relay_serve.specs.Delivered.{IsDelivered}

-- a term that has ended: its epoch, what its workers took from their channels, and what its lanes have done
pub record Ended (W : Type 0) : Type 0 where
  pub epoch : ℕ
  pub receipts : List (TakeEnd Ending)
  pub lanes : List (LaneSummary W)

abbrev pub ended : {W : Type 0} → ℕ → List (TakeEnd Ending) → List (LaneSummary W) → Ended W
ended epoch receipts lanes = record { epoch = epoch; receipts = receipts; lanes = lanes }

-- a wire of a server's lanes
abbrev pub Wire : Type 0
Wire = CountedWire (HttpWire (TimedStream TcpStream LibcRuntime) (TimedDial (CountedDial LibcRuntime TcpStream TcpListener) LibcRuntime) Unknown)

-- what is noted of each term
abbrev pub rows_of : List (Term × Unit {0}) → List (Ended Wire)
rows_of log = map (λ (x : Term × Unit {0}). ended x.0.epoch x.0.taken.items x.0.summary.lanes.items) log

-- the sum over the lanes of all terms, from this one on; it saturates at 2^64 - 1
abbrev pub total_of : {W : Type 0} → (LaneSummary W → ℕ) → ℕ → List (Ended W) → ℕ
total_of count sum [] = sum
total_of count sum (t ∷ ts) = total_of count (total count sum t.lanes) ts

-- the first epoch above those of these terms
abbrev pub floor_after : {W : Type 0} → ℕ → List (Ended W) → ℕ
floor_after floor [] = floor
floor_after floor (t ∷ ts) = floor_after (t.epoch + 1) ts

module _ {W : Type 0} (describes : W → Bool) (fits : W → Outside → Type 0) (carries : W → Exchange → W → Type 0) (out : W → List ℕ) (face : Face) (index : Option (List ℕ)) (c : RelayConfig) where
  -- Each of these terms, in order, worked in an epoch above that of the term before, the first in this one or one above it; what its
  -- workers put was delivered, and what they answered is true.
  abbrev pub HaveDelivered : ℕ → List (Ended W) → Type 0
  HaveDelivered floor [] = Unit {0}
  HaveDelivered floor (t ∷ ts) =
      (floor ≤ t.epoch) × IsDelivered describes fits carries out face index (config_in t.epoch c) t.receipts t.lanes × HaveDelivered (t.epoch + 1) ts
