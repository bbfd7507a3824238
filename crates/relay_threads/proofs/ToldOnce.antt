-- What a lane tells: each operation that it took once, and only what is true.
use Rattle.std.proofs.Common.{◌≡◌, ◌≢◌, ℕ, zero, suc, get_or, ◌+◌, ◌<◌, ◌≤◌, List, [], ◌∷◌, ◌++◌, length, length-append, Option, Some, None, Bool, inl, inr, refl, sym, ap, ◌∙◌, subst, ⊎_elim, append_assoc, append-nil, arith}
use Rattle.std.specs.Prelude.{◌==◌, map, slice_get, unwrap_or}
use Rattle.std.proofs.lemmas.List.Elements.{filter-append}
use Rattle.relay_action.specs.declared.mail.Mail.{Mail}
use Rattle.relay_action.specs.declared.mail.Body.{Body}
use Rattle.relay_action.specs.declared.mail.Body.TheVariants as body
use Rattle.relay_action.specs.declared.operation.Op.{Op}
use Rattle.relay_action.specs.declared.operation.OpName.{OpName}
use Rattle.relay_action.specs.declared.write.Write.{Write}
use Rattle.relay_batch.specs.declared.item.BatchItem.{BatchItem}
use Rattle.relay_results.specs.Words.{Mem, count}
use Rattle.relay_results.specs.Numbers.{from_zero}
use Rattle.relay_results.specs.Documents.{document_of, name_of, same_name, write_for}
use Rattle.relay_results.specs.Outside.{Answer, Outside, IsOpening, Lost}
use Rattle.relay_results.specs.Fates.{Fate, Flies, Applied, Already, Retried, Halved, Reported}
use Rattle.relay_results.proofs.Lists.{count-append, count_some, Mem-left, Mem-one, Mem-cases, some_same, none_some}
use Rattle.relay_results.proofs.Same.{same_name-self}
use Rattle.relay_delivery.specs.Delivery.{HasDistinctNames}
use Rattle.relay_delivery.specs.Explained.{Begins, Explains}
use Rattle.relay_delivery.specs.Lane.{Entry, tries_in, held_of, fresh_state}
use Rattle.relay_delivery.specs.Lane as delivery
use Rattle.relay_delivery.specs.Machine.{Config, Core, Held, Report, fate_of, first_in, IsFresh, CameAboutFrom}
use Rattle.relay_delivery.specs.Reach.{Ticks}
use Rattle.relay_delivery.specs.Stating.{BeginsBeside, StatesVersions, IsNewBeside}
use Rattle.relay_delivery.proofs.Explained.{explained_from}
use Rattle.relay_delivery.proofs.Facts.{Past, TellsOwn, CoreFacts, IsHeldAt, IsAppliedAt, IsReported}
use Rattle.relay_delivery.proofs.Fitting.{sound_from, fresh_from, new_core, new_is_new}
use Rattle.relay_delivery.proofs.Keeps.{none_past, tells_none, facts_of}
use Rattle.relay_delivery.proofs.Names.{taken_once}
use Rattle.relay_delivery.proofs.Stating.{others_past, facts_beside, tells_if_stated}
use Rattle.relay_core.specs.declared.config.RelayConfig.{RelayConfig}
use Rattle.relay_core.specs.declared.report.Report as core
use Rattle.relay_core.specs.declared.success.Success.{Success}
use Rattle.relay_core.specs.Walk.{report_of}
use Rattle.relay_core.specs.Endings.{is_held_as, is_success_as, is_report_as, new_successes, new_reports}
use Rattle.relay_core.specs.State.{State, fresh, after_take, after_flush, after_request, after_answer_to, next_batch, oldest, mark_of, without_successes, writes_of}
use Rattle.relay_core.specs.Successes.{status_of, success_of, successes_from}
use Rattle.relay_core.specs.Ties.{ops_of}
use Rattle.relay_lane.specs.Once.{is_op_as, times}
use Rattle.relay_lane.specs.Reach.{IsReached}
use Rattle.relay_lane.specs.Calls.{called_in}
use Rattle.relay_lane.specs.Delivers.{GoesOn, WorkedOn}
use Rattle.relay_lane.specs.Turns.{Turn, Sends, Fails, Settles, Pauses, after_send, after_ticks, after_turn, after_turns, AllMayTurn, MayTurn, Stays, Ticked}
use Rattle.relay_lane.proofs.Once.{fresh_has_none, take_adds_one, work_keeps_times, forgetting_passes_on}
use Rattle.relay_lane.proofs.Reaching.{turn_is_reached, ticks_reached, reached_is_orderly}
use Rattle.relay_lane.specs.Exchanges.{Exchange}
use Rattle.relay_threads.specs.declared.run.Message.{Message}
use Rattle.relay_threads.specs.declared.run.Message.TheVariants.{Mark, Other, Nothing}
use Rattle.relay_threads.specs.Course.{puts_of, IsBelow, Course}
use Rattle.relay_threads.specs.Steps as steps
use Rattle.relay_threads.specs.Told.{Told, applied_of, reports_of, AddsApplied, AddsReport, AddsNothing, Shows, noted_in, IsOfTaken, IsApplied, IsToldTruly, Telling, TellsMore, HasTold, GoesOnTelling, StaysTold, GoesOnTruly}
use Rattle.relay_threads.proofs.Hearing.{puts_push, puts_tick}
use Rattle.relay_threads.proofs.Noting.{noted_more, work_notes}
use Rattle.relay_threads.proofs.Keeping.{fresh_course, works, marks, ticks, heard_as, hears, takes, wakes}
use Rattle.relay_threads.proofs.Answering.{IsAnsweredAs, answered_in}

-- ---- lists

at_front : (xs ys : List Op) (place : ℕ) (o : Op) → slice_get xs place ≡ Some o → slice_get (xs ++ ys) place ≡ Some o
at_front [] ys place o e = absurd (cc)
at_front (x ∷ xs) ys zero o e = e
at_front (x ∷ xs) ys (suc n) o e = at_front xs ys n o e

at_Mem : (xs : List Op) (place : ℕ) (o : Op) → slice_get xs place ≡ Some o → Mem o xs
at_Mem [] place o e = absurd (cc)
at_Mem (x ∷ xs) zero o e = inl (let s : x ≡ o = cc in sym s)
at_Mem (x ∷ xs) (suc n) o e = inr (at_Mem xs n o e)

-- ---- each is of an operation that was taken

of_more : (g : Config) (taken more : List Op) (x : Success) → IsOfTaken g taken x → IsOfTaken g (taken ++ more) x
of_more g taken more x h = record { op = h.op; place = h.place; was_taken = at_front taken more h.place h.op h.was_taken; name = h.name; version = h.version }

success_head : (t : Fate) (status : Option ℕ) (h : Held) (x : Success) → Mem x (success_of t status h) → (x.name ≡ name_of h.op) × (x.version ≡ h.version)
success_head Flies status h x m = elim m [ ]
success_head Applied status h x m = let e = Mem-one x (record { name = name_of h.op; version = h.version; status = status }) m in (ap (λ (z : Success). z.name) e, ap (λ (z : Success). z.version) e)
success_head Already status h x m = let e = Mem-one x (record { name = name_of h.op; version = h.version; status = None }) m in (ap (λ (z : Success). z.name) e, ap (λ (z : Success). z.version) e)
success_head Retried status h x m = elim m [ ]
success_head (Halved cap) status h x m = elim m [ ]
success_head (Reported cause) status h x m = elim m [ ]

-- a success that an answer adds is of an operation that is held, with its version
success_from : (allowed : ℕ → ℕ) (number : ℕ) (ws : List Write) (a : Answer) (hs : List Held) (x : Success) → Mem x (successes_from allowed number ws a hs) → (h : Held) × Mem h hs × (x.name ≡ name_of h.op) × (x.version ≡ h.version)
success_from allowed number ws a [] x m = elim m [ ]
success_from allowed number ws a (h ∷ hs) x m = ⊎_elim
    (λ y. let e = success_head (fate_of allowed number ws a h h.flies) (status_of ws a h.flies) h x y in (h, inl refl, e.0, e.1))
    (λ y. let r = success_from allowed number ws a hs x y in (r.0, inr r.1, r.2, r.3))
    (Mem-cases x (success_of (fate_of allowed number ws a h h.flies) (status_of ws a h.flies) h) (successes_from allowed number ws a hs) m)

-- the entry of a held operation
entry_of : (es : List Entry) (h : Held) → Mem h (held_of es) → (e : Entry) × Mem e es × (h ≡ e.held)
entry_of [] h m = elim m [ ]
entry_of (e ∷ es) h (inl s) = (e, inl refl, s)
entry_of (e ∷ es) h (inr m) = let r = entry_of es h m in (r.0, inr r.1, r.2)

new_are_of : (s : State) (number : ℕ) (a : Answer) (taken : List Op) → IsReached s taken → (x : Success) → Mem x (new_successes s number a) → IsOfTaken s.core.config taken x
new_are_of s number a taken r x m =
    let f = success_from (tries_in s.core) (from_zero number) (writes_of number s) a (held_of s.core.held) x m in
    let e = entry_of s.core.held f.0 f.1 in
    let t = (reached_is_orderly s taken r).held e.0 e.1 in
    record {
      op = e.0.held.op;
      place = t.place;
      was_taken = t.was_taken;
      name = f.2 ∙ ap (λ (h : Held). name_of h.op) e.2;
      version = f.3 ∙ ap (λ (h : Held). h.version) e.2 ∙ t.version;
    }

-- ---- what a turn adds

-- reports at the end, and successes of operations that were taken
record Adds (taken : List Op) (s t : State) : Type 0 where
  config : t.core.config ≡ s.core.config
  reports : List Report
  all_reports : t.core.reports ≡ s.core.reports ++ reports
  successes : List Success
  all_successes : t.successes ≡ s.successes ++ successes
  of_taken : (x : Success) → Mem x successes → IsOfTaken s.core.config taken x

adds_none : (taken : List Op) (s t : State) → t.core.config ≡ s.core.config → t.core.reports ≡ s.core.reports → t.successes ≡ s.successes → Adds taken s t
adds_none taken s t g r x = record { config = g; reports = []; all_reports = r ∙ sym (append-nil s.core.reports); successes = []; all_successes = x ∙ sym (append-nil s.successes); of_taken = λ y m. elim m [ ] }

adds_on : (taken : List Op) (r s t : State) → Adds taken r s → Adds taken s t → Adds taken r t
adds_on taken r s t a b = record {
  config = b.config ∙ a.config;
  reports = a.reports ++ b.reports;
  all_reports = b.all_reports ∙ ap (λ l. l ++ b.reports) a.all_reports ∙ append_assoc r.core.reports a.reports b.reports;
  successes = a.successes ++ b.successes;
  all_successes = b.all_successes ∙ ap (λ l. l ++ b.successes) a.all_successes ∙ append_assoc r.successes a.successes b.successes;
  of_taken = λ x m. ⊎_elim (a.of_taken x) (λ y. subst (λ g. IsOfTaken g taken x) a.config (b.of_taken x y)) (Mem-cases x a.successes b.successes m);
}

asked_adds : (taken : List Op) (s : State) (b : Option (List BatchItem)) → Adds taken s (after_request s b)
asked_adds taken s None = adds_none taken s s refl refl refl
asked_adds taken s (Some items) = adds_none taken s (after_request s (Some items)) refl refl refl

answered_adds : (taken : List Op) (s : State) (number : ℕ) (a : Answer) → IsReached s taken → Adds taken s (after_answer_to s number a)
answered_adds taken s number a r = record { config = refl; reports = new_reports s number a; all_reports = refl; successes = new_successes s number a; all_successes = refl; of_taken = new_are_of s number a taken r }

sends_adds : (taken : List Op) (n : ℕ) (s : State) → Adds taken s (after_turn (Sends n) s)
sends_adds taken n s = adds_on taken s (after_send s) (after_turn (Sends n) s) (asked_adds taken s (next_batch s)) (adds_none taken (after_send s) (after_turn (Sends n) s) refl refl refl)

turn_adds : (taken : List Op) (t : Turn) (s : State) → MayTurn t s → IsReached s taken → Adds taken s (after_turn t s)
turn_adds taken (Sends n) s may r = sends_adds taken n s
turn_adds taken (Fails why n) s may r =
    let sent = after_turn (Sends n) s in
    adds_on taken s sent (after_turn (Fails why n) s) (sends_adds taken n s) (answered_adds taken sent s.flights.next (Lost why) (turn_is_reached (Sends n) s taken may r))
turn_adds taken (Settles n a) s may r =
    adds_on taken s (after_ticks n s) (after_turn (Settles n a) s) (adds_none taken s (after_ticks n s) refl refl refl) (answered_adds taken (after_ticks n s) (unwrap_or (oldest s) 0) a (ticks_reached n s taken r))
turn_adds taken (Pauses n) s may r = adds_none taken s (after_ticks n s) refl refl refl

turns_add : (taken : List Op) (going : Turn → State → Bool) (ts : List Turn) (s : State) → AllMayTurn going ts s → IsReached s taken → Adds taken s (after_turns ts s)
turns_add taken going [] s may r = adds_none taken s s refl refl refl
turns_add taken going (t ∷ ts) s may r =
    adds_on taken s (after_turn t s) (after_turns ts (after_turn t s)) (turn_adds taken t s may.1 r) (turns_add taken going ts (after_turn t s) may.2 (turn_is_reached t s taken may.1 r))

-- ---- it works, and tells nothing

module _ {S : Type 0} (d : Bool) (fits : S → Outside → Type 0) (carries : S → Exchange → S → Type 0) where
  -- more is noted and reported
  adds_told : (first v w : S) (c : RelayConfig) (start told : ℕ → Option Told) (k : ℕ) (s t : State) (heard : List Mail) → (h : HasTold d fits carries first v c start told k s heard) → (course : Course d fits carries first w c heard t)
      → noted_in course.reached.core.calls (fresh_state t.core.config) ≡ h.telling.applied ++ t.successes → Adds (puts_of heard) s t → ((n : OpName) → times n t ≡ times n s) → HasTold d fits carries first w c start told k t heard
  adds_told first v w c start told k s t heard h course noted a same =
      let l = h.telling in
      record {
        course = course;
        telling = record {
          applied = l.applied;
          reported = l.reported;
          waiting = l.waiting ++ a.reports;
          reports = a.all_reports ∙ ap (λ rs. rs ++ a.reports) l.reports ∙ append_assoc l.reported l.waiting a.reports;
          counted = l.counted;
          noted = noted;
          once = λ n. let x = same n in let y = l.once n in omega (arith, x, y);
          versions = λ x m.
              let old : Mem x (l.applied ++ s.successes) → IsOfTaken t.core.config (puts_of heard) x = λ y. subst (λ g. IsOfTaken g (puts_of heard) x) (sym a.config) (l.versions x y) in
              let more : Mem x a.successes → IsOfTaken t.core.config (puts_of heard) x = λ y. subst (λ g. IsOfTaken g (puts_of heard) x) (sym a.config) (a.of_taken x y) in
              let all : l.applied ++ t.successes ≡ (l.applied ++ s.successes) ++ a.successes = ap (λ xs. l.applied ++ xs) a.all_successes ∙ sym (append_assoc l.applied s.successes a.successes) in
              ⊎_elim old more (Mem-cases x (l.applied ++ s.successes) a.successes (subst (Mem x) all m));
          shown = l.shown;
        };
      }

  pub works_told : (going : Turn → State → Bool) (v w : S) (s t : State) → WorkedOn d fits carries going v w s t → Stays s t → StaysTold d fits carries v w s t
  works_told going v w s t x stays told k heard first c start h =
      let ops = puts_of heard in
      let cs = called_in x.worked.turns s in
      let r = h.course.reached in
      let a : Adds ops s t = subst (Adds ops s) (sym x.worked.reached) (turns_add ops going x.worked.turns s x.worked.may r) in
      adds_told first v w c start told k s t heard h (works d fits carries going first v w s t c heard x stays h.course)
      (noted_more s ops cs t.core.config h.telling.applied t.successes r a.config h.telling.noted (work_notes going s t x.worked r.next)) a (λ n. work_keeps_times going s t n x.worked)

  pub as_told : (v : S) (s t : State) → t ≡ s → StaysTold d fits carries v v s t
  as_told v s t e told k heard first c start h = subst (λ z. HasTold d fits carries first v c start told k z heard) (sym e) h

  pub flushed_told : (v : S) (s : State) → StaysTold d fits carries v v s (after_flush s)
  flushed_told v s told k heard first c start h =
      adds_told first v v c start told k s (after_flush s) heard h (marks d fits carries first v s c heard (mark_of s) s.successes h.course) h.telling.noted
      (adds_none (puts_of heard) s (after_flush s) refl refl refl) (λ n. refl)

  pub ticked_told : (v : S) (s t : State) → Ticked s t → StaysTold d fits carries v v s t
  ticked_told v s t x told k heard first c start h =
      let u = after_ticks x.ticks s in
      subst (λ z. HasTold d fits carries first v c start told k z heard) (sym x.reached)
      (adds_told first v v c start told k s u heard h (ticks d fits carries first v x.ticks s c heard h.course)
      (noted_more s (puts_of heard) (Ticks (s.core.clock + x.ticks) ∷ []) s.core.config h.telling.applied s.successes h.course.reached refl h.telling.noted (sym (append-nil s.successes)))
      (adds_none (puts_of heard) s u refl refl refl) (λ n. refl))

  -- ---- at the start

  pub fresh_told : (v : S) (start : ℕ → Option Told) (c : RelayConfig) (k : ℕ) (s : State) (heard : List Mail) → s ≡ fresh c → heard ≡ [] → k ≡ 0 → HasTold d fits carries v v c start start k s heard
  fresh_told v start c k s heard is none zero_told = subst (λ (z : State × (List Mail × ℕ)). HasTold d fits carries v v c start start z.1.1 z.0 z.1.0) (λ i. (sym is i, (sym none i, sym zero_told i))) (record {
    course = fresh_course d fits carries v c;
    telling = record {
      applied = [];
      reported = [];
      waiting = [];
      reports = refl;
      counted = refl;
      noted = refl;
      once = λ n. let x = fresh_has_none c n in omega (arith, x);
      versions = λ x m. elim m [ ];
      shown = λ p all e. (all, e, λ i. record { applied = sym (append-nil all.applied) i; reported = sym (append-nil all.reported) i });
    };
  })

-- ---- it takes

op_adds : (taken : List Op) (s : State) (sender : ℕ) (b : Body) → Adds taken s (after_take s sender b)
op_adds taken s sender (body.Put o) = record { config = refl; reports = _; all_reports = refl; successes = []; all_successes = sym (append-nil s.successes); of_taken = λ x m. elim m [ ] }
op_adds taken s sender body.Tick = adds_none taken s (after_take s sender body.Tick) refl refl refl
op_adds taken s sender body.Flush = adds_none taken s (after_take s sender body.Flush) refl refl refl
op_adds taken s sender body.Done = adds_none taken s (after_take s sender body.Done) refl refl refl

module _ {S : Type 0} (d : Bool) (fits : S → Outside → Type 0) (carries : S → Exchange → S → Type 0) where
  -- more was taken
  hears_told : (first v : S) (c : RelayConfig) (start told : ℕ → Option Told) (k : ℕ) (s : State) (heard : List Mail) (m : Mail) → m.sender < length s.closed → HasTold d fits carries first v c start told k s heard → HasTold d fits carries first v c start told k (after_take s m.sender m.body) (heard ++ m ∷ [])
  hears_told first v c start told k s heard m lt h =
      let l = h.telling in
      let t = after_take s m.sender m.body in
      let a = op_adds (puts_of heard) s m.sender m.body in
      let put = puts_push heard m in
      let x = hears s m.sender m.body in
      record {
        course = takes d fits carries first v s c heard m lt h.course;
        telling = record {
          noted = noted_more s (puts_of heard) (heard_as s m.body) t.core.config l.applied t.successes h.course.reached x.same l.noted x.notes;
          applied = l.applied;
          reported = l.reported;
          waiting = l.waiting ++ a.reports;
          reports = a.all_reports ∙ ap (λ rs. rs ++ a.reports) l.reports ∙ append_assoc l.reported l.waiting a.reports;
          counted = l.counted;
          once = λ n.
              let x = take_adds_one s m.sender m.body n in
              let y = l.once n in
              let z = ap (count (is_op_as n)) put ∙ count-append (is_op_as n) (puts_of heard) (ops_of m.body) in
              omega (arith, x, y, z);
          versions = λ x i.
              let all : l.applied ++ t.successes ≡ (l.applied ++ s.successes) ++ a.successes = ap (λ xs. l.applied ++ xs) a.all_successes ∙ sym (append_assoc l.applied s.successes a.successes) in
              let one : IsOfTaken s.core.config (puts_of heard) x = ⊎_elim (l.versions x) (a.of_taken x) (Mem-cases x (l.applied ++ s.successes) a.successes (subst (Mem x) all i)) in
              subst (λ (z : Config × List Op). IsOfTaken z.0 z.1 x) (λ j. (sym a.config j, sym put j)) (of_more s.core.config (puts_of heard) (ops_of m.body) x one);
          shown = l.shown;
        };
      }

  -- a tick that only woke it
  wakes_told : (first v : S) (c : RelayConfig) (start told : ℕ → Option Told) (k : ℕ) (s : State) (heard : List Mail) (m : Mail) → m.body ≡ body.Tick → HasTold d fits carries first v c start told k s heard → HasTold d fits carries first v c start told k s (heard ++ m ∷ [])
  wakes_told first v c start told k s heard m tick h =
      let l = h.telling in
      let same = puts_tick heard m tick in
      record {
        course = wakes d fits carries first v s c heard m tick h.course;
        telling = record {
          noted = l.noted;
          applied = l.applied;
          reported = l.reported;
          waiting = l.waiting;
          reports = l.reports;
          counted = l.counted;
          once = λ n. let y = l.once n in let z = ap (count (is_op_as n)) same in omega (arith, y, z);
          versions = λ x i. subst (λ ops. IsOfTaken s.core.config ops x) (sym same) (l.versions x i);
          shown = l.shown;
        };
      }

  pub takes_told : (v : S) (told : ℕ → Option Told) (k : ℕ) (s t : State) (old new : List Mail) → steps.Takes s t old new → GoesOnTelling d fits carries v v told told k k s t old new
  takes_told v told k s t old new x first c start h =
      ⊎_elim {C = HasTold d fits carries first v c start told k t new}
      (λ (e : t ≡ after_take s x.mail.sender x.mail.body). subst (λ (z : List Mail × State). HasTold d fits carries first v c start told k z.1 z.0) (λ i. (sym x.taken i, sym e i)) (hears_told first v c start told k s old x.mail x.sender h))
      (λ (e : (x.mail.body ≡ body.Tick) × (t ≡ s)). subst (λ (z : List Mail × State). HasTold d fits carries first v c start told k z.1 z.0) (λ i. (sym x.taken i, sym e.1 i)) (wakes_told first v c start told k s old x.mail e.0 h))
      x.reached

  -- a message was taken, or none was there
  pub takes_some_told : (v : S) (told : ℕ → Option Told) (k : ℕ) (s t : State) (old new : List Mail) (m : Message) → (m ≢ Nothing → steps.Takes s t old new) → (m ≡ Nothing → (t ≡ s) × (new ≡ old)) → GoesOnTelling d fits carries v v told told k k s t old new
  takes_some_told v told k s t old new Mark some none = takes_told v told k s t old new (some (λ e. absurd (cc)))
  takes_some_told v told k s t old new Other some none = takes_told v told k s t old new (some (λ e. absurd (cc)))
  takes_some_told v told k s t old new Nothing some none = λ first c start h. subst (λ (z : List Mail × State). HasTold d fits carries first v c start told k z.1 z.0) (λ i. (sym (none refl).1 i, sym (none refl).0 i)) h

-- ---- it tells

-- of what it notes
shows_applied : (start old new : ℕ → Option Told) (applied more : List Success) (reported : List Report) → ((p : ℕ) → AddsApplied p more (old p) (new p)) → Shows start old applied reported → Shows start new (applied ++ more) reported
shows_applied start old new applied more reported adds shown p all e =
    let a = adds p all e in
    let b = shown p a.0 a.1 in (
      b.0,
      b.1,
      a.2 ∙ (λ i. record {
        applied = (ap (λ (t : Told). t.applied ++ applied_of p more) b.2 ∙ append_assoc b.0.applied (applied_of p applied) (applied_of p more) ∙ ap (λ l. b.0.applied ++ l) (sym (filter-append (λ (x : Success). x.name.producer == p) applied more))) i;
        reported = ap (λ (t : Told). t.reported) b.2 i;
      }),
    )

pub tells_applied : (old new : ℕ → Option Told) (k : ℕ) (s t : State) → t ≡ without_successes s → ((p : ℕ) → AddsApplied p s.successes (old p) (new p)) → TellsMore old new k k s t
tells_applied old new k s t e adds all start heard h = subst (λ z. Telling all start new k z heard) (sym e) (record {
  noted = h.noted ∙ sym (append-nil (h.applied ++ s.successes));
  applied = h.applied ++ s.successes;
  reported = h.reported;
  waiting = h.waiting;
  reports = h.reports;
  counted = h.counted;
  once = λ n.
      let x = h.once n in
      let y = forgetting_passes_on s n in
      let z = count-append (is_success_as n) h.applied s.successes in
      omega (arith, x, y, z);
  versions = λ x m. h.versions x (subst (Mem x) (append-nil (h.applied ++ s.successes)) m);
  shown = shows_applied start old new h.applied s.successes h.reported adds h.shown;
})

-- of the next report
shows_report : (start old new : ℕ → Option Told) (applied : List Success) (reported : List Report) (r : Report) → ((p : ℕ) → AddsReport p r (old p) (new p)) → Shows start old applied reported → Shows start new applied (reported ++ r ∷ [])
shows_report start old new applied reported r adds shown p all e =
    let a = adds p all e in
    let b = shown p a.0 a.1 in (
      b.0,
      b.1,
      a.2 ∙ (λ i. record {
        applied = ap (λ (t : Told). t.applied) b.2 i;
        reported = (ap (λ (t : Told). t.reported ++ reports_of p (r ∷ [])) b.2 ∙ append_assoc b.0.reported (reports_of p reported) (reports_of p (r ∷ [])) ∙ ap (λ l. b.0.reported ++ l) (sym (filter-append (λ (x : Report). x.name.producer == p) reported (r ∷ [])))) i;
      }),
    )

-- the report at a place of a list
pub report_at : (rs : List core.Report) (k : ℕ) (r : core.Report) → k < length rs → r ≡ get_or rs k r → slice_get (map report_of rs) k ≡ Some (report_of r)
report_at [] k r lt e = absurd (omega (arith, lt))
report_at (x ∷ rs) zero r lt e = ap (λ z. Some (report_of z)) (sym e)
report_at (x ∷ rs) (suc k) r lt e = report_at rs k r (omega (arith, lt)) e

-- the report at the place after the first ones is the next
next_is : (xs : List Report) (ys : List Report) (r : Report) → slice_get (xs ++ ys) (length xs) ≡ Some r → (rest : List Report) × (ys ≡ r ∷ rest)
next_is [] [] r e = absurd (none_some r e)
next_is [] (y ∷ ys) r e = (ys, ap (λ x. x ∷ ys) (some_same y r e))
next_is (x ∷ xs) ys r e = next_is xs ys r e

pub tells_report : (old new : ℕ → Option Told) (k l : ℕ) (s : State) (r : Report) → slice_get s.core.reports k ≡ Some r → l ≡ k + 1 → ((p : ℕ) → AddsReport p r (old p) (new p)) → TellsMore old new k l s s
tells_report old new k l s r at more adds all start heard h =
    let n = next_is h.reported h.waiting r (ap (slice_get (h.reported ++ h.waiting)) h.counted ∙ ap (λ rs. slice_get rs k) (sym h.reports) ∙ at) in
    record {
      noted = h.noted;
      applied = h.applied;
      reported = h.reported ++ r ∷ [];
      waiting = n.0;
      reports = h.reports ∙ ap (λ rs. h.reported ++ rs) n.1 ∙ sym (append_assoc h.reported (r ∷ []) n.0);
      counted = let c = h.counted in let g = length-append h.reported (r ∷ []) in omega (arith, c, g, more);
      once = h.once;
      versions = h.versions;
      shown = shows_report start old new h.applied h.reported r adds h.shown;
    }

-- of nothing
pub tells_nothing : (old new : ℕ → Option Told) (k : ℕ) (s : State) → ((p : ℕ) → AddsNothing (old p) (new p)) → TellsMore old new k k s s
tells_nothing old new k s adds all start heard h = record {
  noted = h.noted;
  applied = h.applied;
  reported = h.reported;
  waiting = h.waiting;
  reports = h.reports;
  counted = h.counted;
  once = h.once;
  versions = h.versions;
  shown = λ p told e. h.shown p told (adds p told e);
}

pub tells_more : (t0 t1 t2 : ℕ → Option Told) (j k l : ℕ) (r s t : State) → TellsMore t0 t1 j k r s → TellsMore t1 t2 k l s t → TellsMore t0 t2 j l r t
tells_more t0 t1 t2 j k l r s t x y all start heard h = y all start heard (x all start heard h)

-- a lane that tells is where it was
pub goes_on_by : {S : Type 0} (d : Bool) (fits : S → Outside → Type 0) (carries : S → Exchange → S → Type 0) (v : S) (old new : ℕ → Option Told) (k l : ℕ) (s t : State) (heard : List Mail) → t ≡ without_successes s → TellsMore old new k l s t → GoesOnTelling d fits carries v v old new k l s t heard heard
goes_on_by d fits carries v old new k l s t heard e x first g start h =
    let all = noted_in h.course.reached.core.calls (fresh_state s.core.config) in
    subst (λ z. HasTold d fits carries first v g start new l z heard) (sym e) (record {
      course = marks d fits carries first v s g heard s.mark [] h.course;
      telling = subst (λ z. Telling all start new l z heard) e (x all start heard h.telling);
    })

-- the lane that has ended
pub goes_on_there : {S : Type 0} (d : Bool) (fits : S → Outside → Type 0) (carries : S → Exchange → S → Type 0) (v : S) (old new : ℕ → Option Told) (k l : ℕ) (s : State) (heard : List Mail) → TellsMore old new k l s s → GoesOnTelling d fits carries v v old new k l s s heard heard
goes_on_there d fits carries v old new k l s heard x first g start h = record { course = h.course; telling = x (noted_in h.course.reached.core.calls (fresh_state s.core.config)) start heard h.telling }

-- one after another
pub goes_on_telling : {S : Type 0} (d e : Bool) (fits : S → Outside → Type 0) (carries : S → Exchange → S → Type 0) (u v w : S) (t0 t1 t2 : ℕ → Option Told) (j k l : ℕ) (r s t : State) (a b c : List Mail) → e ≡ d → GoesOnTelling d fits carries u v t0 t1 j k r s a b → GoesOnTelling e fits carries v w t1 t2 k l s t b c → GoesOnTelling d fits carries u w t0 t2 j l r t a c
goes_on_telling d e fits carries u v w t0 t1 t2 j k l r s t a b c same x y first g start h =
    subst (λ z. HasTold z fits carries first w g start t2 l t c) same (y first g start (subst (λ z. HasTold z fits carries first v g start t1 k s b) (sym same) (x first g start h)))

-- when it tells nothing
pub stays_told : {S : Type 0} (d e : Bool) (fits : S → Outside → Type 0) (carries : S → Exchange → S → Type 0) (u v w : S) (r s t : State) → e ≡ d → StaysTold d fits carries u v r s → StaysTold e fits carries v w s t → StaysTold d fits carries u w r t
stays_told d e fits carries u v w r s t same x y told k heard = goes_on_telling d e fits carries u v w told told told k k k r s t heard heard heard same (x told k heard) (y told k heard)

-- the same from the start
pub told_on : {S : Type 0} (d e : Bool) (fits : S → Outside → Type 0) (carries : S → Exchange → S → Type 0) (first v w : S) (g : RelayConfig) (start old new : ℕ → Option Told) (k l : ℕ) (s t : State) (a b : List Mail) → e ≡ d → HasTold d fits carries first v g start old k s a → GoesOnTelling e fits carries v w old new k l s t a b → HasTold d fits carries first w g start new l t b
told_on d e fits carries first v w g start old new k l s t a b same h x = subst (λ z. HasTold z fits carries first w g start new l t b) same (x first g start (subst (λ z. HasTold z fits carries first v g start old k s a) (sym same) h))

-- all reports were told of, if at least as many were as there are
pub told_of_all : {S : Type 0} (d : Bool) (fits : S → Outside → Type 0) (carries : S → Exchange → S → Type 0) (first v : S) (g : RelayConfig) (start told : ℕ → Option Told) (k : ℕ) (s : State) (heard : List Mail) → (x : HasTold d fits carries first v g start told k s heard) → length s.core.reports ≤ k → x.telling.reported ≡ s.core.reports
told_of_all d fits carries first v g start told k s heard x le =
    let h = x.telling in
    let n : length s.core.reports ≡ length h.reported + length h.waiting = ap length h.reports ∙ length-append h.reported h.waiting in
    let none : h.waiting ≡ [] = empty h.waiting (let c = h.counted in omega (arith, n, c, le)) in
    sym (h.reports ∙ ap (λ rs. h.reported ++ rs) none ∙ append-nil h.reported) where
      empty : (rs : List Report) → length rs ≡ 0 → rs ≡ []
      empty [] e = refl
      empty (r ∷ rs) e = absurd (omega (arith, e))

-- ---- what it tells is true

module _ (s : State) (taken : List Op) (applied : List Success) (once : (n : OpName) → times n s + count (is_success_as n) applied ≡ count (is_op_as n) taken) (distinct : HasDistinctNames taken) (x : Success) (was_told : Mem x applied) where
  counted_told : 1 ≤ count (is_success_as x.name) applied
  counted_told = count_some (is_success_as x.name) x applied was_told (same_name-self x.name)

  -- an operation that was told of as applied is not held
  not_held : (h : Held) → Mem h (held_of s.core.held) → x.name ≡ name_of h.op → ⊥
  not_held h m e =
      let one = count_some (is_held_as x.name) h (held_of s.core.held) m (ap (same_name x.name) (sym e) ∙ same_name-self x.name) in
      let most = taken_once taken distinct x.name in
      let all = once x.name in
      let told = counted_told in
      omega (arith, one, most, all, told)

  -- and not reported
  not_reported : (r : Report) → Mem r s.core.reports → x.name ≡ r.name → ⊥
  not_reported r m e =
      let one = count_some (is_report_as x.name) r s.core.reports m (ap (same_name x.name) (sym e) ∙ same_name-self x.name) in
      let most = taken_once taken distinct x.name in
      let all = once x.name in
      let told = counted_told in
      omega (arith, one, most, all, told)

  -- the write of an operation that was answered so, if the index has one with its version
  applied_write : (g : Config) (past : Past) (c : Core) → CoreFacts g past c → ((w : Write) → past.writes w → ⊥) → c.taken ≡ taken → (t : IsOfTaken g taken x) → (y : IsAppliedAt g c.outside.applied t.op t.place) → Mem (write_for t.op x.version) (c.outside.applied (document_of t.op.key))
  applied_write g past c facts nothing took t y =
      let sent = facts.sent y.write ((facts.index (document_of t.op.key)).sent y.write y.is_in) in
      ⊎_elim {C = Mem (write_for t.op x.version) (c.outside.applied (document_of t.op.key))}
      (λ one.
      let a = one.dealt.version in
      let b = y.version in
      let place : one.dealt.place ≡ t.place = omega (arith, a, b) in
      let op : one.op ≡ t.op = some_same one.op t.op (sym one.dealt.stands ∙ (λ i. slice_get (took i) (place i)) ∙ t.was_taken) in
      let version : y.write.version ≡ x.version = b ∙ sym t.version in
      let same : y.write ≡ write_for t.op x.version = one.write ∙ (λ i. write_for (op i) (version i)) in
      subst (λ w. Mem w (c.outside.applied (document_of t.op.key))) same y.is_in)
      (λ before. absurd (nothing y.write before))
      sent

  pub is_applied : (begin : Config → Core → Type 0) (past : Past) → ((w : Write) → past.writes w → ⊥) → (p : Outside) → IsReached s taken → (f : delivery.FitsFrom begin s.core taken p) → CoreFacts s.core.config past f.core → TellsOwn s.core.config past f.core.outside.runs
      → IsAnsweredAs s.core.config taken p x → IsApplied taken p x
  is_applied begin past nothing p r f facts tells k =
      let g = s.core.config in
      let c = f.core in
      let t = k.of in
      let held : IsHeldAt g c.held t.place → IsApplied taken p x = λ y.
      let e = entry_of s.core.held y.held_op (subst (Mem y.held_op) (sym f.is_of.held) y.is_in) in
      let own = (reached_is_orderly s taken r).held e.0 e.1 in
      let version = ap (λ (h : Held). h.version) e.2 in
      let place : own.place ≡ t.place = (let a = own.version in let b = y.version in omega (arith, a, b, version)) in
      let op : e.0.held.op ≡ t.op = some_same e.0.held.op t.op (sym own.was_taken ∙ ap (slice_get taken) place ∙ t.was_taken) in
      absurd (not_held y.held_op (subst (Mem y.held_op) (sym f.is_of.held) y.is_in) (t.name ∙ ap name_of (sym op) ∙ ap (λ (h : Held). name_of h.op) (sym e.2))) in
      let reported : IsReported c.reports t.op → IsApplied taken p x = λ y.
      absurd (not_reported y.report (subst (Mem y.report) (sym f.is_of.reports) y.is_in) (t.name ∙ sym y.name)) in
      let applied_at : IsAppliedAt g c.outside.applied t.op t.place → IsApplied taken p x = λ y. record {
        op = t.op;
        was_taken = at_Mem taken t.place t.op t.was_taken;
        name = t.name;
        is_in = subst (λ (o : Outside). Mem (write_for t.op x.version) (o.applied (document_of t.op.key))) f.outside (applied_write g past c facts nothing f.took t y);
        outcome = k.outcome;
        answered = k.answered;
        status = k.status;
      } in
      let there = facts.nothing_lost tells t.place t.op (subst (λ ops. slice_get ops t.place ≡ Some t.op) (sym f.took) t.was_taken) in
      ⊎_elim held (λ z. ⊎_elim applied_at reported z) there

module _ {S : Type 0} (d : Bool) (fits : S → Outside → Type 0) (carries : S → Exchange → S → Type 0) (first now : S) (g : RelayConfig) (start told : ℕ → Option Told) (k : ℕ) (s : State) (heard : List Mail) (h : HasTold d fits carries first now g start told k s heard) (distinct : HasDistinctNames (puts_of heard)) where
  -- beside an outside that explains its calls, from a start of some kind
  truly_from : (begin : Config → Core → Type 0) (past : Config → Past) → ((g : Config) (w : Write) → (past g).writes w → ⊥) → ((g : Config) (c : Core) → CameAboutFrom begin g c → CoreFacts g (past g) c) → (o p : Outside) → IsOpening o → begin s.core.config (new_core o)
      → Explains h.course.reached.core.calls o p → ((f : delivery.FitsFrom begin s.core (puts_of heard) p) → TellsOwn s.core.config (past s.core.config) f.core.outside.runs) → IsToldTruly s.core.config (puts_of heard) h.telling.applied h.telling.reported p
  truly_from begin past nothing facts o p opening fresh explains tells =
      let r = h.course.reached in
      let config = s.core.config in
      let f = explained_from begin (λ g c came. (facts g c came).in_rise) s.core (puts_of heard) r.core o p opening fresh explains in
      let known = facts config f.core f.came_about in
      let sound = sound_from begin past nothing s.core (puts_of heard) p f known distinct in
      let answered : (x : Success) → Mem x h.telling.applied → IsAnsweredAs config (puts_of heard) p x = λ x m.
      subst (λ ops. IsAnsweredAs config ops p x) r.core.took
      (answered_in begin past facts r.core.calls (fresh_state config) [] o p r.core.may explains (fresh_from begin config o opening fresh) x (subst (Mem x) (sym h.telling.noted) (Mem-left x h.telling.applied s.successes m))) in
      record {
        each_applied = λ x m. is_applied s (puts_of heard) h.telling.applied h.telling.once distinct x m begin (past config) (nothing config) p r f known (tells f) (answered x m);
        versions = sound.versions;
        assignment = sound.assignment;
        assigned = sound.assigned;
        each_reported = λ r m. sound.true_reports r (subst (Mem r) (sym h.telling.reports) (Mem-left r h.telling.reported h.telling.waiting m));
      }

  pub explained_truly : (o p : Outside) → Begins s.core.config.first o → Explains h.course.reached.core.calls o p → IsToldTruly s.core.config (puts_of heard) h.telling.applied h.telling.reported p
  explained_truly o p begins explains =
      truly_from IsFresh none_past (λ g w m. m) facts_of o p begins.opening (record { new = new_is_new o begins.opening; below = begins.below }) explains (λ f. tells_none s.core.config f.core)

  -- and, if it states the stored versions, whatever was stored before but the versions of the lane
  pub stated_truly : (o p : Outside) → BeginsBeside s.core.config o → Explains h.course.reached.core.calls o p → StatesVersions p → IsToldTruly s.core.config (puts_of heard) h.telling.applied h.telling.reported p
  stated_truly o p begins explains states =
      truly_from IsNewBeside others_past (λ g w m. m) facts_beside o p begins.opening (record { new = new_is_new o begins.opening; others = begins.others }) explains
      (λ f. tells_if_stated s.core.config f.core (subst (λ q. StatesVersions q) (sym f.outside) states))

  -- and beside the one to which an opening that the wire described leads
  pub described_truly : (o : Outside) → IsOpening o → IsBelow (first_in g.epoch) o → (x : GoesOn fits now s (puts_of heard) h.course.reached.core.calls o) → GoesOnTruly fits now s (puts_of heard) h.course.reached.core.calls h.telling.applied h.telling.reported o
  described_truly o opening below x =
      let lowest : s.core.config.first ≡ first_in g.epoch = ap (λ (z : Config). z.first) h.course.core in
      record {
        goes_on = x;
        truly = explained_truly o x.outside (record { opening = opening; below = λ k u at. subst (λ a. u < a) (sym lowest) (below k u at) }) x.explains;
      }
