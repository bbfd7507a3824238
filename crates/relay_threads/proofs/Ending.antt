-- How a lane ends.
use Rattle.std.proofs.Common.{◌≡◌, ◌≢◌, ℕ, ◌+◌, ◌<◌, ◌≤◌, Option, Result, Ok, Err, OnOk, OnErr, List, [], ◌∷◌, ◌++◌, Bool, true, false, sym, ap, ◌∙◌, subst, arith, length, append-nil}
use Rattle.std.specs.Prelude.{unwrap_or}
use Rattle.std.specs.List.{list_all}
use Rattle.relay_action.specs.declared.mail.Mail.{Mail}
use Rattle.relay_results.specs.Outside.{Outside}
use Rattle.relay_queue.specs.Messages.{mail_of, HasDone}
use Rattle.relay_core.specs.declared.config.RelayConfig.{RelayConfig}
use Rattle.relay_core.specs.State.{State, all_closed, oldest, without_successes}
use Rattle.relay_lane.specs.Turns.{Turn, Sends, Fails, Settles, Pauses, after_answer, after_ticks, after_turns, AllMayTurn, Worked, Stays, collects}
use Rattle.relay_lane.specs.Delivers.{WorkedOn}
use Rattle.relay_lane.proofs.Sends.{none_left}
use Rattle.relay_lane.specs.Exchanges.{Exchange}
use Rattle.relay_threads.specs.declared.lane_end.LaneEndKind.{LaneEndKind}
use Rattle.relay_threads.specs.declared.lane_end.LaneEndKind.TheVariants.{Finished, Memory, Gone}
use Rattle.relay_threads.specs.Course.{KnowsOpen, OneIsOpen, HasHeard, Course, EndsAs}
use Rattle.relay_threads.specs.Told.{Told, HasTold, EndsTold}
use Rattle.relay_threads.proofs.ToldOnce.{told_of_all, explained_truly, stated_truly, described_truly}
use Rattle.relay_threads.proofs.Hearing.{heard_all, all_done, done_more, one_open}
use Rattle.relay_threads.proofs.Keeping.{works, marks}

-- ---- what is in flight is settled

turns_none : (ts : List Turn) (s : State) → AllMayTurn collects ts s → s.core.held ≡ [] → (after_turns ts s).core.held ≡ []
turns_none [] s may none = none
turns_none (Sends n ∷ ts) s may none = absurd (let k = may.0 in cc)
turns_none (Fails why n ∷ ts) s may none = absurd (let k = may.0 in cc)
turns_none (Settles n a ∷ ts) s may none = turns_none ts (after_answer a (after_ticks n s)) may.2 (none_left (after_ticks n s) (unwrap_or (oldest s) 0) a none)
turns_none (Pauses n ∷ ts) s may none = absurd (let k = may.0 in cc)

collected_none : (s t : State) → Worked collects s t → s.core.held ≡ [] → t.core.held ≡ []
collected_none s t w none = ap (λ (x : State). x.core.held) w.reached ∙ turns_none w.turns s w.may none

-- ---- how it ends

gone_apart : (kind : LaneEndKind) → kind ≡ Gone → kind ≡ Memory → ⊥
gone_apart kind g m = cc

-- a lane that ended as Gone heard all that was taken, so of the sender that it does not know to have closed no Done was taken
left_open : (producers : ℕ) (taken : List Mail) (kind : LaneEndKind) (s : State) (heard : List Mail) → kind ≡ Gone → HasHeard kind taken heard → length s.closed ≡ producers + 1 → KnowsOpen s.closed heard → all_closed s ≡ false → OneIsOpen (producers + 1) taken
left_open producers taken kind s heard gone h n knows left =
    let none : h.missed ≡ [] = h.memory (λ m. absurd (gone_apart kind gone m)) in
    let all : taken ≡ heard = h.all ∙ ap (λ l. heard ++ l) none ∙ append-nil heard in
    subst (OneIsOpen (producers + 1)) (sym all) (one_open s.closed heard (producers + 1) n knows left)

module _ {S : Type 0} (d : Bool) (fits : S → Outside → Type 0) (carries : S → Exchange → S → Type 0) where
  -- it stopped early
  pub ends_early : (start w : S) (c : RelayConfig) (taken : List Mail) (kind : LaneEndKind) (s : State) → kind ≢ Finished → (kind ≡ Gone → all_closed s ≡ false) → (heard : List Mail) → HasHeard kind taken heard → Course d fits carries start w c heard s → EndsAs d fits carries start w c taken kind s
  ends_early start w c taken kind s early left heard h course = record {
    messages = heard;
    heard = h;
    course = course;
    closed = λ f. absurd (early f);
    not_closed = λ g. left_open c.producers taken kind s heard g h course.senders course.not_closed (left g);
    none_held = λ f. absurd (early f);
  }

  -- it drained
  pub ends_drained : (start w : S) (c : RelayConfig) (taken : List Mail) (kind : LaneEndKind) (s t : State) → Course d fits carries start w c taken t → all_closed s ≡ true → t.closed ≡ s.closed → (kind ≡ Finished → t.core.held ≡ []) → kind ≢ Gone → EndsAs d fits carries start w c taken kind t
  ends_drained start w c taken kind s t course closed stays none early = record {
    messages = taken;
    heard = heard_all kind taken;
    course = course;
    closed = λ f. ap (list_all (λ (b : Bool). b)) stays ∙ closed;
    not_closed = λ g. absurd (early g);
    none_held = none;
  }

  -- what is forgotten at the end is no part of it
  pub ends_forgotten : (start w : S) (c : RelayConfig) (taken : List Mail) (kind : LaneEndKind) (s t : State) → t ≡ without_successes s → EndsAs d fits carries start w c taken kind s → EndsAs d fits carries start w c taken kind t
  ends_forgotten start w c taken kind s t e k = subst (λ z. EndsAs d fits carries start w c taken kind z) (sym e) (record {
    messages = k.messages;
    heard = k.heard;
    course = marks d fits carries start w s c k.messages s.mark [] k.course;
    closed = k.closed;
    not_closed = k.not_closed;
    none_held = k.none_held;
  })

  -- what was in flight is settled then
  pub ends_collected : (start v w : S) (c : RelayConfig) (taken : List Mail) (kind : LaneEndKind) (s t : State) (e : Bool) → e ≡ d → EndsAs d fits carries start v c taken kind s
      → WorkedOn e fits carries collects v w s t → Stays s t → EndsAs d fits carries start w c taken kind t
  ends_collected start v w c taken kind s t e same x worked stays = record {
    messages = x.messages;
    heard = x.heard;
    course = works d fits carries collects start v w s t c x.messages (subst (λ z. WorkedOn z fits carries collects v w s t) same worked) stays x.course;
    closed = λ f. ap (list_all (λ (b : Bool). b)) stays.closed ∙ x.closed f;
    not_closed = x.not_closed;
    none_held = λ f. collected_none s t worked.worked (x.none_held f);
  }

  -- if it finished, it took each sender's Done
  pub all_closed_there : (start w : S) (c : RelayConfig) (taken : List Mail) (kind : LaneEndKind) (s : State) (senders : ℕ) → EndsAs d fits carries start w c taken kind s → senders ≡ c.producers + 1 → kind ≡ Finished
      → (sender : ℕ) → sender < senders → HasDone (mail_of sender taken)
  all_closed_there start w c taken kind s senders x count f sender lt =
      let k = x.course.senders in
      let within : sender < length s.closed = omega (arith, count, lt, k) in
      subst (λ l. HasDone (mail_of sender l)) (sym x.heard.all) (done_more sender x.messages x.heard.missed (all_done s.closed x.messages sender x.course.closed within (x.closed f)))

-- ---- after it has told what was left

heard_as : (kind kind' : LaneEndKind) (taken heard : List Mail) → (kind ≡ Memory → kind' ≡ Memory) → HasHeard kind taken heard → HasHeard kind' taken heard
heard_as kind kind' taken heard memory h = record { missed = h.missed; all = h.all; most = h.most; puts = h.puts; memory = λ n. h.memory (λ m. n (memory m)) }

pub ends_told_as : {S A E : Type 0} (d : Bool) (fits : S → Outside → Type 0) (carries : S → Exchange → S → Type 0) (start w : S) (c : RelayConfig) (taken : List Mail) (kind kind' : LaneEndKind) (s : State) (r : Result A E)
    → OnOk r (kind' ≡ kind) → OnErr r ((kind' ≢ Finished) × (kind' ≡ Gone → kind ≡ Gone)) → (kind ≡ Memory → kind' ≡ Memory) → EndsAs d fits carries start w c taken kind s → EndsAs d fits carries start w c taken kind' s
ends_told_as d fits carries start w c taken kind kind' s (Ok x) ok err memory k = subst (λ z. EndsAs d fits carries start w c taken z s) (sym ok) k
ends_told_as d fits carries start w c taken kind kind' s (Err x) ok err memory k = record {
  messages = k.messages;
  heard = heard_as kind kind' taken k.messages memory k.heard;
  course = k.course;
  closed = λ f. absurd (err.0 f);
  not_closed = λ g. k.not_closed (err.1 g);
  none_held = λ f. absurd (err.0 f);
}

-- a lane that finished told all that was left
finished_ok : {A E : Type 0} (kind kind' : LaneEndKind) (r : Result A E) (P : Type 0) → OnErr r ((kind' ≢ Finished) × (kind' ≡ Gone → kind ≡ Gone)) → OnOk r P → kind' ≡ Finished → P
finished_ok kind kind' (Ok x) P err ok f = ok
finished_ok kind kind' (Err x) P err ok f = absurd (err.0 f)

pub finished_as : {A E : Type 0} (kind kind' : LaneEndKind) (r : Result A E) → OnOk r (kind' ≡ kind) → OnErr r ((kind' ≢ Finished) × (kind' ≡ Gone → kind ≡ Gone)) → kind' ≡ Finished → kind ≡ Finished
finished_as kind kind' (Ok x) ok err f = sym ok ∙ f
finished_as kind kind' (Err x) ok err f = absurd (err.0 f)

pub told_at_the_end : {S A E : Type 0} (d : Bool) (fits : S → Outside → Type 0) (carries : S → Exchange → S → Type 0) (first last : S) (c : RelayConfig) (start now : ℕ → Option Told) (number : ℕ) (s t : State) (taken heard : List Mail) (kind kind' : LaneEndKind) (r : Result A E)
    → t ≡ without_successes s → HasHeard kind taken heard → HasTold d fits carries first last c start now number t heard
    → OnErr r ((kind' ≢ Finished) × (kind' ≡ Gone → kind ≡ Gone)) → (kind ≡ Memory → kind' ≡ Memory) → OnOk r (length t.core.reports ≤ number) → EndsTold d fits carries first last start now c taken kind' t
told_at_the_end d fits carries first last c start now number s t taken heard kind kind' r none h x err memory all = record {
  messages = heard;
  heard = heard_as kind kind' taken heard memory h;
  number = number;
  has_told = x;
  none_noted = ap (λ (z : State). z.successes) none;
  all_reported = λ f. told_of_all d fits carries first last c start now number t heard x (finished_ok kind kind' r (length t.core.reports ≤ number) err all f);
  explained = λ distinct o p begins explains. explained_truly d fits carries first last c start now number t heard x distinct o p begins explains;
  explained_if_stated = λ distinct o p begins explains states. stated_truly d fits carries first last c start now number t heard x distinct o p begins explains states;
  described = λ distinct is o f opening below. described_truly d fits carries first last c start now number t heard x distinct o opening below (x.course.delivers is o f opening below);
}
