-- The summary of lanes that have ended, and what it is compared with.
use Rattle.std.specs.Prelude.{◌≡◌, ◌+◌, ◌<◌, ℕ, false, List, [], ◌∷◌, Option, Some, None, slice_get, map}
use Rattle.relay_action.specs.declared.mail.Mail.{Mail}
use Rattle.relay_queue.specs.Ends.{Queue}
use Rattle.relay_queue.specs.Messages.{mail_of, HasDone}
use Rattle.relay_core.specs.State.{IsLane}
use Rattle.relay_core.specs.Walk.{report_of}
use Rattle.relay_producer.specs.declared.ends.ClosedEnd.{ClosedEnd}
use Rattle.relay_producer.specs.declared.ends.ClosedEnd.TheVariants.{Closed, Gone}
use Rattle.relay_producer.specs.Ends.{is_gone}
use Rattle.relay_threads.specs.declared.lane_end.LaneEnd.{LaneEnd}
use Rattle.relay_threads.specs.declared.summary.LaneSummary.{LaneSummary}

-- ---- one lane's column of closed ends

-- this is the closed end of this sender on this queue
abbrev pub IsClosedOn : Queue → ℕ → ClosedEnd → Type 0
IsClosedOn queue sender (Closed put) = (put.queue ≡ queue) × (put.sender ≡ sender)
IsClosedOn queue sender (Gone put) = ⊥

-- these are the closed ends of the senders p, p + 1 and so on
abbrev pub AreClosedOn : Queue → ℕ → List ClosedEnd → Type 0
AreClosedOn queue p [] = Unit {0}
AreClosedOn queue p (e ∷ es) = IsClosedOn queue p e × AreClosedOn queue (p + 1) es

-- what was taken from this sender is what it sent by this end, which is closed
abbrev pub IsMet : ℕ → List Mail → ClosedEnd → Type 0
IsMet sender taken (Closed put) = mail_of sender taken ≡ put.sent
IsMet sender taken (Gone put) = ⊥

-- this holds for the senders p, p + 1 and so on
abbrev pub AreMet : ℕ → List Mail → List ClosedEnd → Type 0
AreMet p taken [] = Unit {0}
AreMet p taken (e ∷ es) = IsMet p taken e × AreMet (p + 1) taken es

-- ---- all lanes

-- what was taken from this sender is what it sent to the lane, by its end of the lane's queue, which it has
abbrev pub IsMetAt : Option ClosedEnd → ℕ → List Mail → Type 0
IsMetAt None sender taken = ⊥
IsMetAt (Some e) sender taken = IsMet sender taken e

-- what was taken on this lane from the senders p, p + 1 and so on is what they sent there
abbrev pub AreMetAt : ℕ → ℕ → List Mail → List (List ClosedEnd) → Type 0
AreMetAt lane p taken [] = Unit {0}
AreMetAt lane p taken (row ∷ rows) = IsMetAt (slice_get row lane) p taken × AreMetAt lane (p + 1) taken rows

-- no lane is marked
abbrev pub NoneGoneIn : List ClosedEnd → Type 0
NoneGoneIn [] = Unit {0}
NoneGoneIn (e ∷ es) = (is_gone e ≡ false) × NoneGoneIn es

abbrev pub NoneGone : List (List ClosedEnd) → Type 0
NoneGone [] = Unit {0}
NoneGone (row ∷ rows) = NoneGoneIn row × NoneGone rows

module _ {W : Type 0} where
  abbrev pub queues_of_ends : List (LaneEnd W) → List Queue
  queues_of_ends ends = map (λ (e : LaneEnd W). e.taken.queue) ends

  -- each lane took the Done of each of its senders
  abbrev pub AreDone : ℕ → List (LaneEnd W) → Type 0
  AreDone n [] = Unit {0}
  AreDone n (e ∷ es) = ((sender : ℕ) → sender < n → HasDone (mail_of sender e.taken.taken)) × AreDone n es

  -- a lane's summary
  pub record SumsUp (e : LaneEnd W) (s : LaneSummary W) : Type 0 where
    pub lane : IsLane e.lane.state
    pub taken : s.taken ≡ e.lane.state.core.taken
    pub applied : s.applied ≡ e.lane.state.core.applied
    pub already : s.already ≡ e.lane.state.core.already
    pub requests : s.requests ≡ e.lane.state.core.requests
    pub reports : map report_of s.reports.items ≡ e.lane.state.core.reports
    pub wire : s.wire ≡ e.wire

  -- the summaries of the lanes from this one on, each of which was compared with what was sent there
  abbrev pub AllSumUp : List (List ClosedEnd) → ℕ → List (LaneEnd W) → List (LaneSummary W) → Type 0
  AllSumUp rows lane [] [] = Unit {0}
  AllSumUp rows lane [] (s ∷ ss) = ⊥
  AllSumUp rows lane (e ∷ es) [] = ⊥
  AllSumUp rows lane (e ∷ es) (s ∷ ss) = (AreMetAt lane 0 e.taken.taken rows × SumsUp e s) × AllSumUp rows (lane + 1) es ss
