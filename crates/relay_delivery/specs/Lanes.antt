-- Several lanes: what was accepted from each producer, the queues, and a core for each lane.
use Rattle.std.specs.Prelude.{◌≡◌, ℕ, ◌+◌, List, [], ◌∷◌, ◌++◌, Bool, true, false, ◌==◌, if◌then◌else◌, length}
use Rattle.relay_action.specs.declared.operation.Op.{Op}
use Rattle.relay_results.specs.Documents.{Document, document_of}
use Rattle.relay_delivery.specs.Machine.{Config, Core, Step, Takes, Sends, Runs, Answers, step, MayStep, IsNew}

-- For each producer what was accepted from it and whether it has closed; for each lane the operations in its queue,
-- and its core. The outside of a lane has the requests of that lane alone, and the index as far as its own documents
-- are concerned.
pub record Lanes : Type 0 where
  pub accepted : ℕ → List Op
  pub closed : ℕ → Bool
  pub queue : ℕ → List Op
  pub lane : ℕ → Core

-- a function of numbers, with one more element at the end of the list for this number
abbrev pub with_added : {A : Type 0} → (ℕ → List A) → ℕ → A → ℕ → List A
with_added f n x m = if m == n then f m ++ x ∷ [] else f m

-- a function of numbers, with another value for this number
abbrev pub with_value : {A : Type 0} → (ℕ → A) → ℕ → A → ℕ → A
with_value f n x m = if m == n then x else f m

-- an operation is put into the queue of its document's lane, a producer closes, a lane takes the front of its queue,
-- or makes another step
pub data Move : Type 0 where
  Puts : Op → Move
  Closes : ℕ → Move
  Fetches : ℕ → Move
  Steps : ℕ → Step → Move

abbrev pub after_fetch : Config → ℕ → Lanes → List Op → Lanes
after_fetch g l w [] = w
after_fetch g l w (o ∷ os) = record {
  accepted = w.accepted;
  closed = w.closed;
  queue = with_value w.queue l os;
  lane = with_value w.lane l (step g (Takes o) (w.lane l));
}

abbrev pub move : Config → (Document → ℕ) → Move → Lanes → Lanes
move g lane_of (Puts o) w = record {
  accepted = with_added w.accepted o.producer o;
  closed = w.closed;
  queue = with_added w.queue (lane_of (document_of o.key)) o;
  lane = w.lane;
}
move g lane_of (Closes p) w = record { accepted = w.accepted; closed = with_value w.closed p true; queue = w.queue; lane = w.lane }
move g lane_of (Fetches l) w = after_fetch g l w (w.queue l)
move g lane_of (Steps l s) w = record { accepted = w.accepted; closed = w.closed; queue = w.queue; lane = with_value w.lane l (step g s (w.lane l)) }

-- the next operation of a producer that has not closed, in the current epoch
pub record MayPut (g : Config) (w : Lanes) (o : Op) : Type 0 where
  pub epoch : o.epoch ≡ g.epoch
  pub open_yet : w.closed o.producer ≡ false
  pub number : o.number ≡ length (w.accepted o.producer) + 1

-- a step that takes nothing: a lane takes only from its queue
abbrev pub IsInner : Step → Type 0
IsInner (Takes o) = ⊥
IsInner (Sends chosen) = Unit {0}
IsInner (Runs r) = Unit {0}
IsInner (Answers number a old) = Unit {0}

abbrev pub MayMove : Config → Move → Lanes → Type 0
MayMove g (Puts o) w = MayPut g w o
MayMove g (Closes p) w = Unit {0}
MayMove g (Fetches l) w = Unit {0}
MayMove g (Steps l s) w = IsInner s × MayStep s (w.lane l)

abbrev pub moves_of : Config → (Document → ℕ) → List Move → Lanes → Lanes
moves_of g lane_of [] w = w
moves_of g lane_of (m ∷ ms) w = moves_of g lane_of ms (move g lane_of m w)

abbrev pub AllMayMove : Config → (Document → ℕ) → List Move → Lanes → Type 0
AllMayMove g lane_of [] w = Unit {0}
AllMayMove g lane_of (m ∷ ms) w = MayMove g m w × AllMayMove g lane_of ms (move g lane_of m w)

-- nothing was accepted or queued, and no lane took or sent anything
pub record IsStart (w : Lanes) : Type 0 where
  pub accepted : (p : ℕ) → w.accepted p ≡ []
  pub queue : (l : ℕ) → w.queue l ≡ []
  pub lane : (l : ℕ) → IsNew (w.lane l)

-- nothing is queued, and no lane holds an operation
pub record IsFinished (w : Lanes) : Type 0 where
  pub queues : (l : ℕ) → w.queue l ≡ []
  pub lanes : (l : ℕ) → (w.lane l).held ≡ []

-- nothing more is accepted from a closed producer
abbrev pub NothingAfterClose : Type 0
NothingAfterClose =
    (g : Config) (lane_of : Document → ℕ) (w : Lanes) (moves : List Move) (p : ℕ) → AllMayMove g lane_of moves w →
    w.closed p ≡ true → (moves_of g lane_of moves w).accepted p ≡ w.accepted p
