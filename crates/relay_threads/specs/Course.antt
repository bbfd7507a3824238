-- What a lane does with the messages of its queue.
use Rattle.std.specs.Prelude.{◌≡◌, ◌≢◌, ◌+◌, ◌<◌, ◌≤◌, ℕ, List, [], ◌∷◌, ◌++◌, Bool, true, false, IsTrue, Some, length, slice_index_or}
use Rattle.relay_action.specs.declared.operation.Op.{Op}
use Rattle.relay_action.specs.declared.mail.Mail.{Mail}
use Rattle.relay_results.specs.Words.{Mem}
use Rattle.relay_results.specs.Documents.{Document}
use Rattle.relay_results.specs.Outside.{Outside, IsOpening}
use Rattle.relay_queue.specs.Messages.{mail_of, HasDone}
use Rattle.relay_core.specs.declared.config.RelayConfig.{RelayConfig}
use Rattle.relay_core.specs.State.{State, config_of, all_closed, is_put}
use Rattle.relay_core.specs.Ties.{ops_of}
use Rattle.relay_lane.specs.Delivers.{GoesOn}
use Rattle.relay_lane.specs.Exchanges.{Exchange, Passes}
use Rattle.relay_lane.specs.Reach.{IsReached}
use Rattle.relay_threads.specs.declared.lane_end.LaneEndKind.{LaneEndKind}
use Rattle.relay_threads.specs.declared.lane_end.LaneEndKind.TheVariants.{Finished, Memory, Gone}
use Rattle.relay_delivery.specs.Machine.{first_in}
use Rattle.relay_delivery.specs.Reach.{Call}

-- the operations of messages, in order
abbrev pub puts_of : List Mail → List Op
puts_of [] = []
puts_of (m ∷ ms) = ops_of m.body ++ puts_of ms

-- a sender that the lane knows to have closed sent its Done
abbrev pub KnowsClosed : List Bool → List Mail → Type 0
KnowsClosed closed heard = (sender : ℕ) → slice_index_or closed sender false ≡ true → HasDone (mail_of sender heard)

-- a sender that the lane does not know to have closed sent no Done
abbrev pub KnowsOpen : List Bool → List Mail → Type 0
KnowsOpen closed heard = (sender : ℕ) → sender < length closed → slice_index_or closed sender false ≡ false → ¬ HasDone (mail_of sender heard)

-- not all senders have closed: no Done was taken from one of them
abbrev pub OneIsOpen : ℕ → List Mail → Type 0
OneIsOpen senders taken = (sender : ℕ) × (sender < senders) × (¬ HasDone (mail_of sender taken))

-- The lane heard all messages that were taken from the queue, except that the last one, if it is an operation, may be
-- missing after a failed allocation.
pub record HasHeard (kind : LaneEndKind) (taken heard : List Mail) : Type 0 where
  pub missed : List Mail
  pub all : taken ≡ heard ++ missed
  pub most : length missed ≤ 1
  pub puts : (m : Mail) → Mem m missed → is_put m.body ≡ true
  pub memory : kind ≢ Memory → missed ≡ []

-- each operation that was taken is held, was applied or is reported
abbrev pub HasTotals : State → Type 0
HasTotals s = length s.core.held + (s.core.applied + s.core.already) + length s.core.reports ≡ s.core.taken

-- each version that was stored at the start is below the first one assigned
abbrev pub IsBelow : ℕ → Outside → Type 0
IsBelow first o = (k : Document) (u : ℕ) → o.stored k ≡ Some u → u < first

-- if the wire describes the outside: each opening that fitted the wire at the start led to an outside that fits it now and
-- explains these calls, for which delivery of what was heard is as promised
abbrev pub DeliversFrom : {S : Type 0} → Bool → (S → Outside → Type 0) → S → S → RelayConfig → List Mail → State → List Call → Type 0
DeliversFrom describes fits start now c heard s calls =
    IsTrue describes → (o : Outside) → fits start o → IsOpening o → IsBelow (first_in c.epoch) o → GoesOn fits now s (puts_of heard) calls o

-- A lane with this config that started fresh has heard these messages, and worked on its wire; it reached its state
-- by calls that it may make, whatever the wire returned, and these are exactly what passed over the wire since. If the
-- wire describes the outside, that explains these calls.
pub record Course {S : Type 0} (describes : Bool) (fits : S → Outside → Type 0) (carries : S → Exchange → S → Type 0) (start now : S) (c : RelayConfig) (heard : List Mail) (s : State) : Type 0 where
  pub config : s.config ≡ c
  pub core : s.core.config ≡ config_of c
  pub taken : s.core.taken ≡ length (puts_of heard)
  pub senders : length s.closed ≡ c.producers + 1
  pub closed : KnowsClosed s.closed heard
  pub not_closed : KnowsOpen s.closed heard
  pub totals : HasTotals s
  pub reached : IsReached s (puts_of heard)
  pub passes : Passes carries reached.core.calls 0 start s.core.requests now
  pub delivers : DeliversFrom describes fits start now c heard s reached.core.calls

-- How it ended, and what it heard of what was taken. If it finished, each sender closed and nothing is held; if it
-- ended as Gone, not all of them had closed.
pub record EndsAs {S : Type 0} (describes : Bool) (fits : S → Outside → Type 0) (carries : S → Exchange → S → Type 0) (start now : S) (c : RelayConfig) (taken : List Mail) (kind : LaneEndKind) (s : State) : Type 0 where
  pub messages : List Mail
  pub heard : HasHeard kind taken messages
  pub course : Course describes fits carries start now c messages s
  pub closed : kind ≡ Finished → all_closed s ≡ true
  pub not_closed : kind ≡ Gone → OneIsOpen (c.producers + 1) taken
  pub none_held : kind ≡ Finished → s.core.held ≡ []
