-- Restarts: a sequence of incarnations over one index, each in an epoch above all earlier ones, while requests that
-- earlier ones sent may still be run.
use Rattle.std.specs.Prelude.{◌≡◌, ℕ, ◌+◌, ◌^◌, ◌<◌, ◌≤◌, List, [], ◌∷◌, ◌++◌, Option, false, length}
use Rattle.relay_action.specs.declared.operation.Op.{Op}
use Rattle.relay_results.specs.Words.{Mem}
use Rattle.relay_results.specs.Documents.{Document}
use Rattle.relay_delivery.specs.Machine.{Config, Core, in_epoch}
use Rattle.relay_delivery.specs.Lanes.{Lanes}
use Rattle.relay_delivery.specs.Together.{Together, Act, Plain, SendsFrom, RunsAt, AnswersAt, act, MayAct, IsFreshTogether}

-- What is known of an incarnation: its config, what was accepted in it from each producer, what each of its lanes
-- took, and how many requests there are, including those of earlier ones.
pub record Incarnation : Type 0 where
  pub config : Config
  pub accepted : ℕ → List Op
  pub taken : ℕ → List Op
  pub sent : ℕ

abbrev pub incarnation_of : Config → Together → Incarnation
incarnation_of g s = record { config = g; accepted = s.lanes.accepted; taken = λ l. (s.lanes.lane l).taken; sent = length s.sent }

-- the incarnations that have ended, the oldest first, and the state of the current one
pub record Life : Type 0 where
  pub ended : List Incarnation
  pub config : Config
  pub together : Together

abbrev pub born : Config → Together → Life
born g s = record { ended = []; config = g; together = s }

-- all incarnations, the current one last
abbrev pub with_running : List Incarnation → Config → Together → List Incarnation
with_running ended g s = ended ++ incarnation_of g s ∷ []

-- ---- a restart

-- what was taken, held and reported is gone, and the outside is unchanged
abbrev pub restarted_core : Core → Core
restarted_core c = record { taken = []; held = []; reports = []; applied = 0; already = 0; outside = c.outside }

-- queues, accepted lists and closings start afresh
abbrev pub restarted_lanes : Lanes → Lanes
restarted_lanes w = record { accepted = λ p. []; closed = λ p. false; queue = λ l. []; lane = λ l. restarted_core (w.lane l) }

-- requests keep their numbers and their origins, and the runs are unchanged
abbrev pub after_restart : Together → Together
after_restart s = record { lanes = restarted_lanes s.lanes; sent = s.sent; origins = s.origins; runs = s.runs }

-- ---- what happens

-- the current incarnation performs an act, or it ends and a new one begins
pub data Happening : Type 0 where
  Acts : Act → Happening
  Restarts : Config → Happening

abbrev pub happen : (Document → ℕ) → Happening → Life → Life
happen lane_of (Acts a) l = record { ended = l.ended; config = l.config; together = act l.config lane_of a l.together }
happen lane_of (Restarts g) l = record { ended = with_running l.ended l.config l.together; config = g; together = after_restart l.together }

-- only answers to requests of the current incarnation are taken
abbrev pub IsOfNow : List Incarnation → Act → Type 0
IsOfNow ended (Plain m) = Unit {0}
IsOfNow ended (SendsFrom l chosen) = Unit {0}
IsOfNow ended (RunsAt request place outcome from) = Unit {0}
IsOfNow ended (AnswersAt request a old from) = (p : Incarnation) → Mem p ended → p.sent ≤ request

-- a new incarnation has a higher epoch, and assigns versions above all that the previous one may assign
pub record IsAbove (old new : Config) : Type 0 where
  pub epoch : old.epoch < new.epoch
  pub versions : old.first + old.deals ≤ new.first

-- this holds if epochs rise, and a lane assigns fewer than 2^40 versions
abbrev pub EpochsAreAbove : Type 0
EpochsAreAbove = (e f deals more max least cap other : ℕ) (age years : Option ℕ) → e < f → deals < 2 ^ 40 → IsAbove (in_epoch e deals max age cap) (in_epoch f more least years other)

abbrev pub MayBe : Happening → Life → Type 0
MayBe (Acts a) l = MayAct l.config a l.together × IsOfNow l.ended a
MayBe (Restarts g) l = IsAbove l.config g

-- after a sequence of happenings
abbrev pub after_happenings : (Document → ℕ) → List Happening → Life → Life
after_happenings lane_of [] l = l
after_happenings lane_of (h ∷ hs) l = after_happenings lane_of hs (happen lane_of h l)

abbrev pub AllMayBe : (Document → ℕ) → List Happening → Life → Type 0
AllMayBe lane_of [] l = Unit {0}
AllMayBe lane_of (h ∷ hs) l = MayBe h l × AllMayBe lane_of hs (happen lane_of h l)

-- These incarnations have ended, and the state of the current one, with this config, came about by acts and restarts
-- that may happen, starting from fresh lanes over an index with these versions stored.
pub record CameAboutTogether (stored : Document → Option ℕ) (g : Config) (lane_of : Document → ℕ) (ended : List Incarnation) (s : Together) : Type 0 where
  pub first : Config
  pub start : Together
  pub fresh : IsFreshTogether stored start
  pub happenings : List Happening
  pub may : AllMayBe lane_of happenings (born first start)
  pub reached : after_happenings lane_of happenings (born first start) ≡ record { ended = ended; config = g; together = s }
