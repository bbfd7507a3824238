-- What lanes have told that have finished.
use Rattle.std.specs.Prelude.{◌≡◌, ◌+◌, ◌<◌, ◌≤◌, ℕ, Bool, IsTrue, List, [], ◌∷◌, Option, length, map}
use Rattle.relay_action.specs.declared.mail.Mail.{Mail}
use Rattle.relay_action.specs.declared.operation.Op.{Op}
use Rattle.relay_action.specs.declared.operation.OpName.{OpName}
use Rattle.relay_results.specs.Words.{Mem, count}
use Rattle.relay_results.specs.Outside.{Outside, IsOpening}
use Rattle.relay_delivery.specs.Delivery.{HasDistinctNames, taken_of}
use Rattle.relay_delivery.specs.Explained.{Explains}
use Rattle.relay_delivery.specs.Lane.{fresh_state}
use Rattle.relay_delivery.specs.Machine.{first_in}
use Rattle.relay_delivery.specs.Reach.{Call}
use Rattle.relay_delivery.specs.Stating.{BeginsBeside, StatesVersions}
use Rattle.relay_core.specs.declared.config.RelayConfig.{RelayConfig}
use Rattle.relay_core.specs.declared.success.Success.{Success}
use Rattle.relay_core.specs.Endings.{is_success_as, is_report_as}
use Rattle.relay_core.specs.State.{config_of}
use Rattle.relay_core.specs.Walk.{report_of}
use Rattle.relay_lane.specs.Once.{is_op_as}
use Rattle.relay_lane.specs.Exchanges.{Exchange}
use Rattle.relay_producer.specs.declared.ends.ClosedEnd.{ClosedEnd}
use Rattle.relay_producer.specs.Puts.{ops_for}
use Rattle.relay_queue.specs.Messages.{mail_of}
use Rattle.relay_threads.specs.declared.summary.LaneSummary.{LaneSummary}
use Rattle.relay_threads.specs.Course.{puts_of, IsBelow}
use Rattle.relay_threads.specs.Ending.{CameTo, LeadsTo}
use Rattle.relay_threads.specs.Sums.{AreMetAt}
use Rattle.relay_threads.specs.Told.{Told, Shows, noted_in, IsOfTaken, IsToldTruly}

module _ {W T : Type 0} (describes : W → Bool) (fits : W → Outside → Type 0) (carries : W → Exchange → W → Type 0) (told : T → ℕ → Option Told) (c : RelayConfig) where
  -- An outside fits the wire of the summary, continues the one before and explains the lane's calls, and delivery is sound
  -- and complete for it (`LeadsTo`); and what was told is true beside it.
  pub record LeadsToTruly (ops : List Op) (calls : List Call) (applied : List Success) (s : LaneSummary W) (before : Outside) : Type 0 where
    pub delivery : LeadsTo describes fits carries c ops calls s before
    pub truly : IsToldTruly (config_of c) ops applied (map report_of s.reports.items) delivery.outside

  -- What a lane has told that finished, and took what each sender sent: that these operations ended as applied, and the
  -- reports of its summary. It told of each operation once. What it told of as applied is what the answers in its calls
  -- ended so, in order, each with the version assigned for its place. If no two operations that it took have the same name, what it told is true beside each outside that
  -- explains the calls by which it reached its summary, if the versions stored at the start were below those of the lane,
  -- or if the outside states the stored version in each conflict and none of them is one that the lane assigns; and each
  -- opening that fitted the wire at the start is continued to the end by an outside that explains these calls, beside which
  -- it is true.
  pub record ToldLane (rows : List (List ClosedEnd)) (lane : ℕ) (start : W) (first last : T) (s : LaneSummary W) : Type 0 where
    pub messages : List Mail
    pub met : AreMetAt lane 0 messages rows
    pub no_other : (sender : ℕ) → length rows ≤ sender → mail_of sender messages ≡ []
    pub applied : List Success
    pub shown : Shows (told first) (told last) applied (map report_of s.reports.items)
    pub once : (n : OpName) → count (is_success_as n) applied + count (is_report_as n) (map report_of s.reports.items) ≡ count (is_op_as n) (puts_of messages)
    pub versions : (x : Success) → Mem x applied → IsOfTaken (config_of c) (puts_of messages) x
    pub reached : CameTo describes fits carries c start (puts_of messages) s
    pub noted : noted_in reached.reached.calls (fresh_state (config_of c)) ≡ applied
    pub explained : HasDistinctNames (puts_of messages) → (o p : Outside) → IsOpening o → IsBelow (first_in c.epoch) o → Explains reached.reached.calls o p → IsToldTruly (config_of c) (puts_of messages) applied (map report_of s.reports.items) p
    pub explained_if_stated : HasDistinctNames (puts_of messages) → (o p : Outside) → BeginsBeside (config_of c) o → Explains reached.reached.calls o p → StatesVersions p → IsToldTruly (config_of c) (puts_of messages) applied (map report_of s.reports.items) p
    pub described : HasDistinctNames (puts_of messages) → IsTrue (describes start) → (o : Outside) → fits start o → IsOpening o → IsBelow (first_in c.epoch) o → LeadsToTruly (puts_of messages) reached.reached.calls applied s o

  -- The same, and the operations that it took are exactly those on its documents that the producers put, each producer's in
  -- order, and no others. No two of them have the same name.
  pub record ToldOfPuts (puts : ℕ → List Op) (rows : List (List ClosedEnd)) (lane : ℕ) (start : W) (first last : T) (s : LaneSummary W) : Type 0 where
    pub lane_told : ToldLane rows lane start first last s
    pub own : (p : ℕ) → p < c.producers → taken_of (puts_of lane_told.messages) p ≡ ops_for c.lanes lane (puts p)
    pub none_besides : (p : ℕ) → c.producers ≤ p → taken_of (puts_of lane_told.messages) p ≡ []
    pub distinct : HasDistinctNames (puts_of lane_told.messages)

  -- this holds for the lanes from this one on, each with its wire, and with what it told by at the start and at the end
  abbrev pub AllTold : List (List ClosedEnd) → ℕ → List W → List T → List T → List (LaneSummary W) → Type 0
  AllTold rows lane [] [] [] [] = Unit {0}
  AllTold rows lane [] [] [] (s ∷ ss) = ⊥
  AllTold rows lane [] [] (t ∷ ts) ss = ⊥
  AllTold rows lane [] (f ∷ fs) ts ss = ⊥
  AllTold rows lane (w ∷ ws) [] ts ss = ⊥
  AllTold rows lane (w ∷ ws) (f ∷ fs) [] ss = ⊥
  AllTold rows lane (w ∷ ws) (f ∷ fs) (t ∷ ts) [] = ⊥
  AllTold rows lane (w ∷ ws) (f ∷ fs) (t ∷ ts) (s ∷ ss) = ToldLane rows lane w f t s × AllTold rows (lane + 1) ws fs ts ss

  abbrev pub AllToldOfPuts : (ℕ → List Op) → List (List ClosedEnd) → ℕ → List W → List T → List T → List (LaneSummary W) → Type 0
  AllToldOfPuts puts rows lane [] [] [] [] = Unit {0}
  AllToldOfPuts puts rows lane [] [] [] (s ∷ ss) = ⊥
  AllToldOfPuts puts rows lane [] [] (t ∷ ts) ss = ⊥
  AllToldOfPuts puts rows lane [] (f ∷ fs) ts ss = ⊥
  AllToldOfPuts puts rows lane (w ∷ ws) [] ts ss = ⊥
  AllToldOfPuts puts rows lane (w ∷ ws) (f ∷ fs) [] ss = ⊥
  AllToldOfPuts puts rows lane (w ∷ ws) (f ∷ fs) (t ∷ ts) [] = ⊥
  AllToldOfPuts puts rows lane (w ∷ ws) (f ∷ fs) (t ∷ ts) (s ∷ ss) = ToldOfPuts puts rows lane w f t s × AllToldOfPuts puts rows (lane + 1) ws fs ts ss
