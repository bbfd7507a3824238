-- Each event keeps a world tied.
use Rattle.std.proofs.Common.{◌≡◌, ◌≢◌, ℕ, zero, suc, ◌+◌, ◌-◌, ◌<◌, List, [], ◌∷◌, ◌++◌, length, Option, Some, None, Bool, true, false, ◌==◌, refl, sym, ap, ◌∙◌, subst, arith, append-nil}
use Rattle.std.specs.Prelude.{slice_get, option_and_then, option_map, is_some, unwrap_or, not, ◌&&◌, nat_lt, nat_le, if◌then◌else◌}
use borrow.Author.Tests.{ltb-false, ltb-true, leb-false, leb-true}
use Rattle.relay_results.specs.declared.cause.Loss.TheVariants as loss
use Rattle.relay_action.specs.declared.operation.Op.{Op}
use Rattle.relay_action.specs.declared.mail.Mail.{Mail}
use Rattle.relay_batch.specs.declared.item.BatchItem.{BatchItem}
use Rattle.relay_action.specs.declared.mail.Body.TheVariants as body
use Rattle.relay_results.specs.declared.outcome.Outcome.{Outcome}
use Rattle.relay_results.specs.Words.{Mem, update}
use Rattle.relay_results.specs.Documents.{write_for}
use Rattle.relay_results.specs.Outside.{Answer, Items, Whole, Lost, Ran, RunOutcome, EachWasRun, IsHonest}
use Rattle.relay_results.proofs.Lists.{and_left, and_right, not_true, equal, equal_test, at-Mem, some_same}
use Rattle.relay_index.specs.declared.choice.Choice.{Choice}
use Rattle.relay_index.specs.declared.choice.Choice.TheVariants as choice
use Rattle.relay_index.specs.Choices.{MayChoose}
use Rattle.relay_index.specs.States as index
use Rattle.relay_delivery.specs.Together.{Together}
use Rattle.relay_core.specs.State as lane
use Rattle.relay_world.specs.declared.event.Event.{Event}
use Rattle.relay_world.specs.declared.event.Event.TheVariants as event
use Rattle.relay_world.specs.declared.event.Refusal.{Refusal}
use Rattle.relay_world.specs.declared.event.StepAnswer.{StepAnswer}
use Rattle.relay_world.specs.declared.sender.Sender.{Sender}
use Rattle.relay_world.specs.State.{Desk, Item, Sent, World, desk_at, element_at, request_at, op_with, write_at, writes_of, is_closed}
use Rattle.relay_world.specs.Headline.{runs_of, runs_at, StatesVersions}
use Rattle.relay_world.specs.Refusals.{cause_if, at_desk, is_spent, may_choose, flies_at, is_flying, run_by, entry_for, entry_at, and_more, entries_from, entries, are_picks, at_request, is_whole, front_refusal, is_above, refusal}
use Rattle.relay_world.specs.Changes.{op_of_put, items_of, request_of, sent_by, after_send, outcome_of, with_answer, after_answer, Answers, Changes}
use Rattle.relay_world.specs.Steps.{StepsBy}
use Rattle.relay_world.specs.Ties.{IsTied, HasMachines, IsWorld, StepsKeepTied}
use Rattle.relay_world.proofs.Alike.{seen_unmoved}
use Rattle.relay_world.proofs.Logged.{LoggedRun, logged_run, pushed_at}
use Rattle.relay_world.proofs.Stated.{states_one, runs_in, AreStated, stated_same, stated_more}
use Rattle.relay_world.proofs.Posting.{control_tied, close_tied, put_tied}
use Rattle.relay_world.proofs.Fetching.{take_tied}
use Rattle.relay_world.proofs.Requesting.{none_run, send_tied}
use Rattle.relay_world.proofs.Answering.{answer_tied}
use Rattle.relay_world.proofs.Outcomes.{run_tied}
use Rattle.relay_world.proofs.Restarting.{restart_machines}

-- ---- no cause holds

-- if there is no refusal, neither the first cause holds nor a later one
pub unrefused : (b : Bool) (r : Refusal) (next : Option Refusal) → cause_if b r next ≡ None → (b ≡ false) × (next ≡ None)
unrefused true r next e = absurd (cc)
unrefused false r next e = (refl, e)

-- there is the lane, and it has no cause
at_desk_none : (o : Option Desk) (f : Desk → Option Refusal) → at_desk o f ≡ None → (d : Desk) × (o ≡ Some d) × (f d ≡ None)
at_desk_none None f e = absurd (cc)
at_desk_none (Some d) f e = (d, refl, e)

pub not_false : (b : Bool) → not b ≡ false → b ≡ true
not_false true e = refl
not_false false e = absurd (cc)

some_is : {A : Type 0} (o : Option A) → is_some o ≡ true → (x : A) × (o ≡ Some x)
some_is None e = absurd (cc)
some_is (Some x) e = (x, refl)

-- the element with a number is at the place one below it
at_number : {A : Type 0} (xs : List A) (n : ℕ) (x : A) → element_at xs n ≡ Some x → slice_get xs (n - 1) ≡ Some x
at_number xs n x e = by (n == 0) e
  where
    by : (b : Bool) → (if b then None else slice_get xs (n - 1)) ≡ Some x → slice_get xs (n - 1) ≡ Some x
    by true q = absurd (cc)
    by false q = q

there_at : {A : Type 0} (xs : List A) (n : ℕ) → n < length xs → (x : A) × (slice_get xs n ≡ Some x)
there_at [] n lt = absurd (omega (arith, lt))
there_at (x ∷ xs) zero lt = (x, refl)
there_at (x ∷ xs) (suc n) lt = there_at xs n (omega (arith, lt))

-- ---- a reply is honest

run_by_mem : (os : List RunOutcome) (pick : Option ℕ) (o : RunOutcome) → run_by os pick ≡ Some o → Mem o os
run_by_mem os None o e = at-Mem os (length os - 1) o e
run_by_mem os (Some number) o e = at-Mem os (number - 1) o (at_number os number o e)

-- what an entry says is what one of its item's runs returned
record SaysRun (i : Item) (e : Outcome) : Type 0 where
  run : RunOutcome
  among : Mem run i.runs
  status : run.status ≡ e.status
  error : run.error ≡ e.error

entry_says : (w : World) (l : ℕ) (pick : Option ℕ) (i : Item) (e : Outcome) → entry_at w l pick i ≡ Some e → SaysRun i e
entry_says w l pick i e = by (op_with w l i.version) (run_by i.runs pick) (run_by_mem i.runs pick)
  where
    by : (p : Option Op) (r : Option RunOutcome) → ((o : RunOutcome) → r ≡ Some o → Mem o i.runs)
        → option_and_then (λ o. option_map (entry_for (write_for o i.version)) r) p ≡ Some e → SaysRun i e
    by None r m q = absurd (cc)
    by (Some o) None m q = absurd (cc)
    by (Some o) (Some r) m q =
        let same = some_same (entry_for (write_for o i.version) r) e q in
        record { run = r; among = m r refl; status = ap (λ (x : Outcome). x.status) same; error = ap (λ (x : Outcome). x.error) same }

record IsMore (o : Option Outcome) (rest : Option (List Outcome)) (os : List Outcome) : Type 0 where
  head : Outcome
  tail : List Outcome
  first : o ≡ Some head
  others : rest ≡ Some tail
  all : head ∷ tail ≡ os

more_is : (o : Option Outcome) (rest : Option (List Outcome)) (os : List Outcome) → and_more o rest ≡ Some os → IsMore o rest os
more_is None rest os e = absurd (cc)
more_is (Some o) None os e = absurd (cc)
more_is (Some o) (Some rest) os e = record { head = o; tail = rest; first = refl; others = refl; all = some_same (o ∷ rest) os e }

each_says : (w : World) (l : ℕ) (picks : List ℕ) (log : List Ran) (request : ℕ) (is : List Item) (place at : ℕ) (os : List Outcome) → entries_from w l picks place is ≡ Some os
    → ((n : ℕ) (i : Item) → slice_get is n ≡ Some i → (o : RunOutcome) → Mem o i.runs → LoggedRun request (at + n) log o) → EachWasRun log request at os
each_says w l picks log request [] place at os e logged = subst (λ xs. EachWasRun log request at xs) (some_same [] os e) tt
each_says w l picks log request (i ∷ is) place at os e logged =
    let m = more_is (entry_at w l (slice_get picks place) i) (entries_from w l picks (place + 1) is) os e in
    let s = entry_says w l (slice_get picks place) i m.head m.first in
    let r = logged 0 i refl s.run s.among in
    let here : at + 0 ≡ at = omega arith in
    subst (λ xs. EachWasRun log request at xs) m.all (
      record {
        run = r.run;
        among = r.among;
        of_request = r.of_request;
        of_place = r.of_place ∙ here;
        status = ap (λ (x : RunOutcome). x.status) r.outcome ∙ s.status;
        error = ap (λ (x : RunOutcome). x.error) r.outcome ∙ s.error;
      },
      each_says w l picks log request is (place + 1) (suc at) m.tail m.others
          (λ n j p o mo. subst (λ k. LoggedRun request k log o) (omega arith) (logged (suc n) j p o mo)),
    )

-- the entries of a reply are what its items' runs returned
entries_say : (w : World) (t : Together) (b : ℕ → ℕ) (i : IsTied w t b) (k : ℕ) (s : Sent) (picks : List ℕ) (os : List Outcome) → slice_get w.sent k ≡ Some s → entries w s picks ≡ Some os → EachWasRun t.runs k 0 os
entries_say w t b i k s picks os here e =
    each_says w s.lane picks t.runs k s.items 0 0 os (by (are_picks picks s) e)
    (λ n item at o m. subst (λ j. LoggedRun k j t.runs o) (omega arith) (logged_run k n t.runs o (subst (λ xs. Mem o xs) (sym (i.requests.runs k n ∙ runs_here n item at)) m)))
  where
    by : (b : Bool) → (if b then entries_from w s.lane picks 0 s.items else None) ≡ Some os → entries_from w s.lane picks 0 s.items ≡ Some os
    by true q = q
    by false q = absurd (cc)

    runs_here : (n : ℕ) (item : Item) → slice_get s.items n ≡ Some item → runs_at w k n ≡ item.runs
    runs_here n item at =
        ap (λ q. runs_of (option_and_then (λ (z : Sent). slice_get z.items n) q)) here
        ∙ ap runs_of at

-- ---- what is known if an event is accepted

front_is : (s : lane.State) (ms : List Mail) → front_refusal s ms ≡ None → (m : Mail) × (rest : List Mail) × (ms ≡ m ∷ rest)
front_is s [] e = absurd (cc)
front_is s (m ∷ ms) e = (m, ms, refl)

may_choose_is : (c : Choice) → may_choose c ≡ true → MayChoose c
may_choose_is choice.Run e = tt
may_choose_is (choice.Refuse status) e =
    let range = and_left (nat_le 400 status && nat_le status 599) (not (status == 404) && not (status == 409)) e in
    let others = and_right (nat_le 400 status && nat_le status 599) (not (status == 404) && not (status == 409)) e in
    record {
      least = leb-true 400 status (and_left (nat_le 400 status) (nat_le status 599) range);
      most = leb-true status 599 (and_right (nat_le 400 status) (nat_le status 599) range);
      no_absence = λ q. cc (equal_test status 404 q, not_true (status == 404) (and_left (not (status == 404)) (not (status == 409)) others));
      no_conflict = λ q. cc (equal_test status 409 q, not_true (status == 409) (and_right (not (status == 404)) (not (status == 409)) others));
    }

not_ok : (status : ℕ) → is_whole status ≡ true → status ≢ 200
not_ok status e q = let lt = ltb-true 200 status (and_left (nat_lt 200 status) (nat_le status 599) e) in omega (arith, lt, q)

-- ---- two worlds that differ in what happened alone

alike : {new made : World} → new ≡ made → (new.opening ≡ made.opening) × (new.index.states ≡ made.index.states)
alike e = (ap (λ (z : World). z.opening) e, ap (λ (z : World). z.index.states) e)

none_sent : (b : Option (List BatchItem)) (place : ℕ) → runs_of (slice_get (items_of b) place) ≡ []
none_sent None place = refl
none_sent (Some is) place = none_run is place

-- ---- an answer

answers_keep : (w new : World) (k : HasMachines w) (request : ℕ) (s : Sent) (a : Answer) (x : StepAnswer) → request_at w request ≡ Some s → is_flying w s ≡ true → Answers w request s a x new
    → IsHonest k.machines.runs (request - 1) (writes_of w s) a → HasMachines new
answers_keep w new k request s a x was flies c honest =
    subst HasMachines (sym c.after) (record {
      machines = _;
      before = k.before;
      tied = answer_tied w k.machines k.before k.tied (request - 1) s (at_number w.sent request s was) a c.desk c.there
          (equal s.epoch w.config.epoch (and_left (s.epoch == w.config.epoch) (flies_at s.number (desk_at w s.lane)) flies))
          (ap (flies_at s.number) (sym c.there) ∙ and_right (s.epoch == w.config.epoch) (flies_at s.number (desk_at w s.lane)) flies) honest;
    })

-- the request flies, if no cause was found
flying_is : (w : World) (request : ℕ) (s : Sent) (f : Sent → Option Refusal) (r : Refusal) → request_at w request ≡ Some s → at_request (request_at w request) (λ z. cause_if (not (is_flying w z)) r (f z)) ≡ None
    → (is_flying w s ≡ true) × (f s ≡ None)
flying_is w request s f r was q =
    let c = unrefused (not (is_flying w s)) r (f s) (ap (λ o. at_request o (λ z. cause_if (not (is_flying w z)) r (f z))) (sym was) ∙ q) in
    (not_false (is_flying w s) c.0, c.1)

-- ---- each event

machines_on : (w new : World) (e : Event) (x : StepAnswer) → (k : HasMachines w) → refusal w e ≡ None → Changes w e x new → HasMachines new
machines_on w new (event.Put p key action) x k q c =
    let known = unrefused (nat_le w.config.producers p) _ _ q in
    let open_yet = unrefused (is_closed w p) _ _ known.1 in
    let lt = leb-false w.config.producers p known.0 in
    let n = k.tied.lanes.producers in
    let os = there_at w.accepted p (omega (arith, lt, n)) in
    let d = at_desk_none _ _ (unrefused (is_spent w p) _ _ open_yet.1).1 in
    subst HasMachines (sym c.1) (record {
      machines = _;
      before = k.before;
      tied = put_tied w k.machines k.before k.tied (op_of_put w p key action) d.0 d.1 os.0 os.1 open_yet.0 refl (ap (λ (o : Option (List Op)). length (unwrap_or o []) + 1) os.1);
    })
machines_on w new (event.Close p l) x k q c =
    let d = at_desk_none _ _ q in
    let known = unrefused (nat_lt w.config.producers p) _ _ d.2 in
    let le = ltb-false w.config.producers p known.0 in
    let n = (k.tied.lanes.works l d.0 d.1).senders in
    let s : (z : Sender) × (slice_get d.0.senders p ≡ Some z) = there_at d.0.senders p (omega (arith, le, n)) in
    subst HasMachines (sym c.1) (record { machines = _; before = k.before; tied = close_tied w k.machines k.before k.tied l p d.0 d.1 s.0 s.1 })
machines_on w new (event.Tick l) x k q c =
    let d = at_desk_none _ _ q in
    subst HasMachines (sym c.1) (record { machines = k.machines; before = k.before; tied = control_tied w k.machines k.before k.tied l w.config.producers body.Tick d.0 d.1 refl refl })
machines_on w new (event.Flush l) x k q c =
    let d = at_desk_none _ _ q in
    subst HasMachines (sym c.1) (record { machines = k.machines; before = k.before; tied = control_tied w k.machines k.before k.tied l w.config.producers body.Flush d.0 d.1 refl refl })
machines_on w new (event.Take l) x k q c =
    let d = at_desk_none _ _ q in
    let f = front_is d.0.lane d.0.queue d.2 in
    let u = take_tied w k.machines k.before k.tied l d.0 d.1 f.0 f.1 f.2 in
    subst HasMachines (sym c.1) (record { machines = u.0; before = k.before; tied = u.1 })
machines_on w new (event.Send l) x k q c =
    let d = at_desk_none _ _ q in
    let b = some_is (lane.next_batch d.0.lane) (not_false _ (unrefused (not (is_some (lane.next_batch d.0.lane))) _ _ d.2).0) in
    subst HasMachines (sym c.1) (record { machines = _; before = k.before; tied = send_tied w k.machines k.before k.tied l d.0 d.1 b.0 b.1 })
machines_on w new (event.Run request item choice) x k q c =
    let found = unrefused (not (is_some (write_at w request item))) _ _ q in
    let may = unrefused (not (may_choose choice)) _ _ found.1 in
    subst HasMachines (sym c.after) (record {
      machines = _;
      before = k.before;
      tied = run_tied w k.machines k.before k.tied (request - 1) (item - 1) c.sent (at_number w.sent request c.sent c.was_sent) c.its_item (at_number c.sent.items item c.its_item c.stands)
          c.op c.its_op choice (may_choose_is choice (not_false _ may.0)) new.index new.kept c.effect c.names c.before;
    })
machines_on w new (event.Reply request picks) x k q c =
    answers_keep w new k request c.0 (Items c.1) x c.2 (flying_is w request c.0 _ _ c.2 q).0 c.4
    (λ m. entries_say w k.machines k.before k.tied (request - 1) c.0 picks c.1 (at_number w.sent request c.0 c.2) c.3)
machines_on w new (event.Whole request status) x k q c =
    let f = flying_is w request c.0 _ _ c.1 q in
    answers_keep w new k request c.0 (Whole status None) x c.1 f.0 c.2 (not_ok status (not_false _ (unrefused (not (is_whole status)) _ _ f.1).0))
machines_on w new (event.Lost request) x k q c =
    answers_keep w new k request c.0 (Lost loss.Closed) x c.1 (flying_is w request c.0 _ _ c.1 q).0 c.2 tt
machines_on w new (event.Restart epoch) x k q c =
    let up = not_false _ (unrefused (not (is_above w epoch)) _ _ q).0 in
    subst HasMachines (sym c.1) (restart_machines w k epoch (ltb-true w.config.epoch epoch (and_left (nat_lt w.config.epoch epoch) (nat_le epoch 4194303) up)))

-- ---- what else an event keeps

same_start : (w new : World) (e : Event) (x : StepAnswer) → Changes w e x new → (new.opening ≡ w.opening) × (new.index.states ≡ w.index.states)
same_start w new (event.Put p key action) x c = alike c.1
same_start w new (event.Close p l) x c = alike c.1
same_start w new (event.Tick l) x c = alike c.1
same_start w new (event.Flush l) x c = alike c.1
same_start w new (event.Take l) x c = alike c.1
same_start w new (event.Send l) x c = alike c.1
same_start w new (event.Run request item choice) x c = (ap (λ (z : World). z.opening) c.after, c.effect.states)
same_start w new (event.Reply request picks) x c = alike c.4.after
same_start w new (event.Whole request status) x c = alike c.2.after
same_start w new (event.Lost request) x c = alike c.2.after
same_start w new (event.Restart epoch) x c = alike c.1

-- a request that is answered keeps its runs
answer_stated : (w : World) (request : ℕ) (s : Sent) (a : Answer) → StatesVersions w → StatesVersions (after_answer w request s a)
answer_stated w request s a all =
    stated_same (runs_in w.sent) (runs_in (update (request - 1) (with_answer a) w.sent))
    (λ r p. seen_unmoved (λ o. runs_of (option_and_then (λ (z : Sent). slice_get z.items p) o)) (with_answer a) (request - 1) w.sent r (λ z. refl)) all

send_stated : (w : World) (l : ℕ) → StatesVersions w → StatesVersions (after_send w l)
send_stated w l all = by (desk_at w l)
  where
    by : (o : Option Desk) → AreStated (runs_in (w.sent ++ sent_by w.config.epoch l o))
    by None = stated_same (runs_in w.sent) (runs_in (w.sent ++ [])) (λ r p. ap (λ ss. runs_in ss r p) (append-nil w.sent)) all
    by (Some d) = stated_same (runs_in w.sent) (runs_in (w.sent ++ request_of w.config.epoch l d ∷ []))
        (λ r p. pushed_at (λ o. runs_of (option_and_then (λ (s : Sent). slice_get s.items p) o)) w.sent (request_of w.config.epoch l d) r refl (none_sent (lane.next_batch d.lane) p)) all

stated_on : (w new : World) (e : Event) (x : StepAnswer) → refusal w e ≡ None → w.index.states ≡ true → Changes w e x new → StatesVersions w → StatesVersions new
stated_on w new (event.Put p key action) x q on c all = subst StatesVersions (sym c.1) all
stated_on w new (event.Close p l) x q on c all = subst StatesVersions (sym c.1) all
stated_on w new (event.Tick l) x q on c all = subst StatesVersions (sym c.1) all
stated_on w new (event.Flush l) x q on c all = subst StatesVersions (sym c.1) all
stated_on w new (event.Take l) x q on c all = subst StatesVersions (sym c.1) all
stated_on w new (event.Send l) x q on c all = subst StatesVersions (sym c.1) (send_stated w l all)
stated_on w new (event.Run request item choice) x q on c all =
    let may = unrefused (not (may_choose choice)) _ _ (unrefused (not (is_some (write_at w request item))) _ _ q).1 in
    subst StatesVersions (sym c.after)
    (stated_more w.sent (request - 1) (item - 1) c.sent c.its_item (outcome_of w (write_for c.op c.its_item.version) choice)
    (at_number w.sent request c.sent c.was_sent) (at_number c.sent.items item c.its_item c.stands)
    (states_one w.index (write_for c.op c.its_item.version) choice (may_choose_is choice (not_false _ may.0)) on) all)
stated_on w new (event.Reply request picks) x q on c all = subst StatesVersions (sym c.4.after) (answer_stated w request c.0 (Items c.1) all)
stated_on w new (event.Whole request status) x q on c all = subst StatesVersions (sym c.2.after) (answer_stated w request c.0 (Whole status None) all)
stated_on w new (event.Lost request) x q on c all = subst StatesVersions (sym c.2.after) (answer_stated w request c.0 (Lost loss.Closed) all)
stated_on w new (event.Restart epoch) x q on c all = subst StatesVersions (sym c.1) all

pub steps_keep_tied : StepsKeepTied
steps_keep_tied w new e x k s = by (refusal w e) refl s
  where
    by : (r : Option Refusal) → refusal w e ≡ r → StepsBy r w e x new → IsWorld new
    by (Some r) q c = subst IsWorld (sym c.1) k
    by None q c =
        let start = same_start w new e x c in
        let opened = ap (λ (i : index.State). i.states) start.0 in
        record {
          has = machines_on w new e x k.has q c;
          states = start.1 ∙ k.states ∙ sym opened;
          stated = λ on. let before = sym opened ∙ on in stated_on w new e x q (k.states ∙ before) c (k.stated before);
        }
