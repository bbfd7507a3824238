-- A run keeps a world tied.
use Rattle.std.proofs.Common.{◌≡◌, ◌≢◌, ℕ, zero, suc, ◌≤◌, List, [], ◌∷◌, ◌++◌, length, take, drop, Option, Some, Bool, true, false, refl, sym, ap, ◌∙◌, subst, ⊎_elim, arith, length-append, append-nil}
use Rattle.std.specs.Prelude.{slice_get, map, option_and_then, option_to_list, ◌&&◌, if◌then◌else◌}
use Rattle.std.proofs.lemmas.List.{map-append}
use Rattle.relay_action.specs.declared.key.DocKey.{DocKey}
use Rattle.relay_action.specs.declared.operation.Op.{Op}
use Rattle.relay_action.specs.declared.write.Write.{Write}
use Rattle.relay_results.specs.Words.{Mem, update}
use Rattle.relay_results.specs.Documents.{Document, document_of, same_document, name_of, write_for}
use Rattle.relay_results.specs.Outside.{Outside, Ran, RunOutcome, Request, is_applied, IsOutcomeOf, MayRun, ran_of, write_at, with_run, with_applied}
use Rattle.relay_results.proofs.Lists.{true_or_false, and_right, equal_or_not, at-map, at-Mem, at-update-cases, length-update, some_same}
use Rattle.relay_results.proofs.Same.{same_document-true}
use Rattle.relay_index.specs.declared.choice.Choice.{Choice}
use Rattle.relay_index.specs.Choices.{MayChoose}
use Rattle.relay_index.specs.States as index
use Rattle.relay_index.specs.Runs.{is_run, done_of, Effect, Shows}
use Rattle.relay_index.specs.Laws.{IsRunOfOutside}
use Rattle.relay_index.proofs.Ran.{is_applied-done_of, run_is_of_outside}
use Rattle.relay_delivery.specs.Machine.{Config, Core, Runs, step}
use Rattle.relay_delivery.specs.Together.{Together, Origin, RunsAt, run_at, act, MayAct, outside_of}
use Rattle.relay_delivery.proofs.Fitting.{run_is_of}
use Rattle.relay_delivery.proofs.Accounts.{act_together}
use Rattle.relay_delivery.proofs.Facts.{IsSent}
use Rattle.relay_delivery.proofs.Sharing.{TogetherFacts, sent_lane}
use Rattle.relay_delivery.proofs.Lives.{past_of, facts_together}
use Rattle.relay_delivery.proofs.Parts.{ops_over-append}
use Rattle.relay_delivery.specs.Renumbering.{numbered_on}
use Rattle.relay_delivery.specs.Restarts.{Incarnation, with_running}
use Rattle.relay_delivery.specs.Incarnations.{op_dealt, ops_over}
use Rattle.relay_world.proofs.Past.{running_seen}
use Rattle.relay_core.specs.State.{config_of}
use Rattle.relay_world.specs.State.{Item, Named, Sent, World, opening_version, ended_of, incarnations, desk_at, lane_of, op_with, writes_of, names_at, before_at, taken_of}
use Rattle.relay_world.specs.Headline.{request_of}
use Rattle.relay_world.specs.Changes.{with_outcome, outcome_of}
use Rattle.relay_world.specs.Ties.{versions_of, IsOriginOf, core_of, AreLanes, AreRequests, IsIndexOf, IsTied}
use Rattle.relay_world.proofs.Carried.{writes_are, writes_by_at, dealt_among, Keeps, keeps, found_kept, request_kept, map-unmoved, Mem-update}
use Rattle.relay_world.proofs.Logged.{outcomes-push, outcome_if, ran_at}
use Rattle.relay_world.proofs.Alike.{changed_same, changed_other, IsDeskOf, desk_of, lanes_from}
use Rattle.relay_world.proofs.Ran.{and_false}

-- ---- what a run makes of an outside

-- the write, if it is of this document and was applied
abbrev write_if : Bool → Write → List Write
write_if b x = if b then x ∷ [] else []

abbrev version_if : Bool → Write → Option ℕ → Option ℕ
version_if b x v = if b then Some x.version else v

none_more : {A : Type 0} (xs : List A) → xs ≡ xs ++ []
none_more xs = sym (append-nil xs)

ran_applied : (o : Outside) (r : Ran) (x : Write) (k : Document) → (ran_of o r (Some x)).applied k ≡ o.applied k ++ write_if (is_applied x r.outcome && same_document k (document_of x.key)) x
ran_applied o r x k = by (is_applied x r.outcome)
  where
    by : (b : Bool) → (if b then with_run (with_applied o x) r else with_run o r).applied k ≡ o.applied k ++ write_if (b && same_document k (document_of x.key)) x
    by true = refl
    by false = none_more (o.applied k)

ran_stored : (o : Outside) (r : Ran) (x : Write) (k : Document) → (ran_of o r (Some x)).stored k ≡ version_if (is_applied x r.outcome && same_document k (document_of x.key)) x (o.stored k)
ran_stored o r x k = by (is_applied x r.outcome)
  where
    by : (b : Bool) → (if b then with_run (with_applied o x) r else with_run o r).stored k ≡ version_if (b && same_document k (document_of x.key)) x (o.stored k)
    by true = refl
    by false = refl

ran_before : (o : Outside) (r : Ran) (x : Write) → (ran_of o r (Some x)).before ≡ o.before
ran_before o r x = by (is_applied x r.outcome)
  where
    by : (b : Bool) → (if b then with_run (with_applied o x) r else with_run o r).before ≡ o.before
    by true = refl
    by false = refl

-- ---- lists

drop-left : {A : Type 0} (n : ℕ) (xs ys : List A) → n ≤ length xs → drop n (xs ++ ys) ≡ drop n xs ++ ys
drop-left zero xs ys le = refl
drop-left (suc n) [] ys le = absurd (omega (arith, le))
drop-left (suc n) (x ∷ xs) ys le = drop-left n xs ys (omega (arith, le))

take-left : {A : Type 0} (n : ℕ) (xs ys : List A) → n ≤ length xs → take n (xs ++ ys) ≡ take n xs
take-left zero xs ys le = refl
take-left (suc n) [] ys le = absurd (omega (arith, le))
take-left (suc n) (x ∷ xs) ys le = ap (λ zs. x ∷ zs) (take-left n xs ys (omega (arith, le)))

-- ---- the run

module _ (w : World) (t : Together) (b : ℕ → ℕ) (i : IsTied w t b) (k n : ℕ) (s : Sent) (here : slice_get w.sent k ≡ Some s) (it : Item) (stands : slice_get s.items n ≡ Some it)
    (op : Op) (its_op : op_with w s.lane it.version ≡ Some op) (c : Choice) (may_choose : MayChoose c) (new_index : index.State) (new_kept : List (DocKey × Named))
    (effect : Effect w.index (write_for op it.version) c new_index) where
  abbrev g : Config
  g = config_of w.config

  abbrev x : Write
  x = write_for op it.version

  abbrev o : RunOutcome
  o = outcome_of w (write_for op it.version) c

  abbrev from : Origin
  from = record { lane = s.lane; number = (i.requests.origins k s here).number }

  abbrev own : Outside
  own = (t.lanes.lane s.lane).outside

  abbrev own_run : Ran
  own_run = run_at from.number n o

  abbrev u : Together
  u = act g (lane_of w) (RunsAt k n o from) t

  abbrev ran : Sent → Sent
  ran z = record z { items = update n (with_outcome o) z.items }

  abbrev new : World
  new = record { opening = w.opening; config = w.config; desks = w.desks; accepted = w.accepted; ended = w.ended; sent = update k ran w.sent; index = new_index; kept = new_kept }

  facts : TogetherFacts g (lane_of w) (past_of (opening_version w) (ended_of w)) t
  facts = facts_together (opening_version w) g (lane_of w) (ended_of w) t i.came_about

  -- ---- the item

  origin : slice_get t.origins k ≡ Some from
  origin = (i.requests.origins k s here).origin

  request_is : slice_get t.sent k ≡ Some (request_of w s)
  request_is = ap (λ qs. slice_get qs k) i.requests.sent ∙ at-map (request_of w) w.sent k s here

  its_write : slice_get (writes_of w s) n ≡ Some x
  its_write = ap (λ ws. slice_get ws n) (writes_are w s)
      ∙ writes_by_at (op_with w s.lane) (versions_of s) (i.requests.found s (at-Mem w.sent k s here)) n it.version op (at-map (λ (z : Item). z.version) s.items n it stands) its_op

  own_request : slice_get own.requests from.number ≡ Some (request_of w s)
  own_request =
      let same = facts.same k from origin in
      same.there ∙ ap Some (some_same same.request (request_of w s) (sym same.here ∙ request_is))

  own_write : write_at own.requests from.number n ≡ Some x
  own_write = ap (λ q. option_and_then (λ (z : Request). slice_get z.writes n) q) own_request ∙ its_write

  was_sent : IsSent own.requests x
  was_sent = record { number = from.number; request = request_of w s; sent = own_request; is_in = at-Mem (writes_of w s) n x its_write }

  its_lane : lane_of w (document_of op.key) ≡ s.lane
  its_lane = sent_lane g (lane_of w) (past_of (opening_version w) (ended_of w)) t.lanes facts.lanes s.lane x was_sent

  of_outside : IsRunOfOutside w.index x (done_of w.index x c) new_index
  of_outside = run_is_of_outside w.index new_index x c (done_of w.index x c) may_choose (record { item_of = refl; effect = effect })

  own_may : MayRun own own_run
  own_may = record {
    write = x;
    sent = own_write;
    outcome = subst (λ l. IsOutcomeOf ((t.lanes.lane l).outside.stored (document_of op.key)) x o) its_lane
        (subst (λ v. IsOutcomeOf v x o) (sym (i.index.shows.versions (document_of op.key))) of_outside.outcome);
  }

  may : MayAct g (RunsAt k n o from) t
  may = (origin, own_may)

  abbrev core_now : Core
  core_now = step g (Runs own_run) (t.lanes.lane s.lane)

  outside_now : core_now.outside ≡ ran_of own own_run (Some x)
  outside_now = ap (ran_of own own_run) own_write

  -- ---- the lanes

  lanes_now : AreLanes new u b
  lanes_now = lanes_from new u b i.lanes.producers i.lanes.accepted i.lanes.closed (λ m. ⊎_elim {C = IsDeskOf w.config (b m) (desk_at w m) (t.lanes.queue m) (u.lanes.lane m)}
      (λ e.
      subst (λ l. IsDeskOf w.config (b l) (desk_at w l) (t.lanes.queue l) (u.lanes.lane l)) (sym e)
      (subst (λ y. IsDeskOf w.config (b s.lane) (desk_at w s.lane) (t.lanes.queue s.lane) y) (sym (changed_same t.lanes.lane s.lane core_now)) (record {
        queue_is = i.lanes.queue s.lane;
        taken = i.lanes.taken s.lane;
        lane = run_is_of (numbered_on (b s.lane) (core_of g (desk_at w s.lane))) (t.lanes.lane s.lane) own_run own_may (i.lanes.lane s.lane);
        works = i.lanes.works s.lane;
      })))
      (λ ne. subst (λ y. IsDeskOf w.config (b m) (desk_at w m) (t.lanes.queue m) y) (sym (changed_other t.lanes.lane s.lane core_now m ne)) (desk_of w t b i.lanes m))
      (equal_or_not m s.lane))

  -- ---- the requests

  kept : Keeps w new
  kept = keeps w new refl refl (λ l. ([], none_more (taken_of (desk_at w l))))

  requests_now : AreRequests new u b
  requests_now =
      let r = i.requests in
      let same : (z : Sent) → versions_of (ran z) ≡ versions_of z = λ z. map-unmoved (λ (y : Item). y.version) (λ (y : Item). y.version) (with_outcome o) n z.items (λ y m. refl) (λ y m. refl) in
      record {
        sent = r.sent ∙ sym (map-unmoved (request_of new) (request_of w) ran k w.sent
            (λ z m. request_kept w new z z z.answer kept (r.found z m) refl refl refl)
            (λ z m. request_kept w new z (ran z) z.answer kept (r.found z m) refl (same z) refl));
        origins = λ m z at. ⊎_elim {C = IsOriginOf new u b m z}
            (λ old. let y = r.origins m z old.1 in record { number = y.number; origin = y.origin; not_later = y.not_later; of_now = y.of_now })
            (λ one.
            let y = r.origins m one.1.0 (ap (slice_get w.sent) one.0 ∙ one.1.1) in
            let now : IsOriginOf new u b m (ran one.1.0) = record { number = y.number; origin = y.origin; not_later = y.not_later; of_now = y.of_now } in
            subst (λ (a : Sent). IsOriginOf new u b m a) (sym one.1.2) now)
            (at-update-cases k ran w.sent m z at);
        grown = λ p m. (let le = r.grown p m in let j = length-update k ran w.sent in omega (arith, le, j));
        runs = λ request place.
            outcomes-push request place t.runs (run_at k n o) ∙ ap (λ os. os ++ outcome_if request place (run_at k n o)) (r.runs request place)
            ∙ sym (ran_at w.sent k n s it o here stands request place);
        found = λ z m. ⊎_elim {C = (v : ℕ) → Mem v (versions_of z) → (y : Op) × (op_with new z.lane v ≡ Some y)}
            (λ old. found_kept w new kept z.lane (versions_of z) (r.found z old))
            (λ y.
            subst (λ (a : Sent). (v : ℕ) → Mem v (versions_of a) → (b : Op) × (op_with new a.lane v ≡ Some b)) (sym y.2)
            (λ v mv. found_kept w new kept y.0.lane (versions_of y.0) (r.found y.0 y.1) v (subst (λ vs. Mem v vs) (same y.0) mv)))
            (Mem-update k ran w.sent z m);
      }

  -- ---- the index

  abbrev grows : Document → Bool
  grows d = is_applied x o && same_document d (document_of op.key)

  -- another lane has no document of this one
  not_here : (d : Document) → lane_of w d ≢ s.lane → grows d ≡ false
  not_here d ne = ⊎_elim {C = grows d ≡ false}
      (λ b. absurd (ne (ap (lane_of w) (same_document-true d (document_of op.key) b) ∙ its_lane)))
      (λ b. ap (λ z. is_applied x o && z) b ∙ and_false (is_applied x o))
      (true_or_false (same_document d (document_of op.key)))

  -- what each document's lane shows of it
  applied_now : (d : Document) → (u.lanes.lane (lane_of w d)).outside.applied d ≡ (t.lanes.lane (lane_of w d)).outside.applied d ++ write_if (grows d) x
  applied_now d = ⊎_elim {C = (u.lanes.lane (lane_of w d)).outside.applied d ≡ (t.lanes.lane (lane_of w d)).outside.applied d ++ write_if (grows d) x}
      (λ e.
      ap (λ l. (u.lanes.lane l).outside.applied d) e
      ∙ ap (λ (y : Core). y.outside.applied d) (changed_same t.lanes.lane s.lane core_now)
      ∙ ap (λ (y : Outside). y.applied d) outside_now
      ∙ ran_applied own own_run x d
      ∙ ap (λ l. (t.lanes.lane l).outside.applied d ++ write_if (grows d) x) (sym e))
      (λ ne.
      ap (λ (y : Core). y.outside.applied d) (changed_other t.lanes.lane s.lane core_now (lane_of w d) ne)
      ∙ none_more ((t.lanes.lane (lane_of w d)).outside.applied d)
      ∙ ap (λ b. (t.lanes.lane (lane_of w d)).outside.applied d ++ write_if b x) (sym (not_here d ne)))
      (equal_or_not (lane_of w d) s.lane)

  stored_now : (d : Document) → (u.lanes.lane (lane_of w d)).outside.stored d ≡ version_if (grows d) x ((t.lanes.lane (lane_of w d)).outside.stored d)
  stored_now d = ⊎_elim {C = (u.lanes.lane (lane_of w d)).outside.stored d ≡ version_if (grows d) x ((t.lanes.lane (lane_of w d)).outside.stored d)}
      (λ e.
      ap (λ l. (u.lanes.lane l).outside.stored d) e
      ∙ ap (λ (y : Core). y.outside.stored d) (changed_same t.lanes.lane s.lane core_now)
      ∙ ap (λ (y : Outside). y.stored d) outside_now
      ∙ ran_stored own own_run x d
      ∙ ap (λ l. version_if (grows d) x ((t.lanes.lane l).outside.stored d)) (sym e))
      (λ ne.
      ap (λ (y : Core). y.outside.stored d) (changed_other t.lanes.lane s.lane core_now (lane_of w d) ne)
      ∙ ap (λ b. version_if b x ((t.lanes.lane (lane_of w d)).outside.stored d)) (sym (not_here d ne)))
      (equal_or_not (lane_of w d) s.lane)

  before_now : (d : Document) → (u.lanes.lane (lane_of w d)).outside.before d ≡ (t.lanes.lane (lane_of w d)).outside.before d
  before_now d = ⊎_elim {C = (u.lanes.lane (lane_of w d)).outside.before d ≡ (t.lanes.lane (lane_of w d)).outside.before d}
      (λ e.
      ap (λ l. (u.lanes.lane l).outside.before d) e
      ∙ ap (λ (y : Core). y.outside.before d) (changed_same t.lanes.lane s.lane core_now)
      ∙ ap (λ (y : Outside). y.before d) outside_now
      ∙ ap (λ f. f d) (ran_before own own_run x)
      ∙ ap (λ l. (t.lanes.lane l).outside.before d) (sym e))
      (λ ne. ap (λ (y : Core). y.outside.before d) (changed_other t.lanes.lane s.lane core_now (lane_of w d) ne))
      (equal_or_not (lane_of w d) s.lane)

  taken_now : (l : ℕ) → (u.lanes.lane l).taken ≡ (t.lanes.lane l).taken
  taken_now l = ⊎_elim {C = (u.lanes.lane l).taken ≡ (t.lanes.lane l).taken}
      (λ e. ap (λ m. (u.lanes.lane m).taken) e ∙ ap (λ (y : Core). y.taken) (changed_same t.lanes.lane s.lane core_now) ∙ ap (λ m. (t.lanes.lane m).taken) (sym e))
      (λ ne. ap (λ (y : Core). y.taken) (changed_other t.lanes.lane s.lane core_now l ne))
      (equal_or_not l s.lane)

  -- the index applied it exactly if the outcome says so
  grown : (d : Document) → (is_run w.index x c && same_document d (document_of op.key)) ≡ grows d
  grown d = ap (λ b. b && same_document d (document_of op.key)) (sym (is_applied-done_of w.index x c))

  list_now : (d : Document) → index.applied_writes new_index d ≡ index.applied_writes w.index d ++ write_if (grows d) x
  list_now d = effect.lists d ∙ ap (λ b. index.applied_writes w.index d ++ write_if b x) (grown d)

  shown : Shows (ran_of (outside_of (lane_of w) t) (run_at k n o) (Some x)) new_index
  shown = of_outside.shows (outside_of (lane_of w) t) (run_at k n o) i.index.shows refl

  -- the operation of the write, if it was applied to a document of this lane
  abbrev all : List Incarnation
  all = with_running (ended_of w) g t

  all_now : with_running (ended_of w) g u ≡ all
  all_now = λ j. ended_of w ++ record { config = g; accepted = t.lanes.accepted; taken = λ l. taken_now l j; sent = length t.sent } ∷ []

  its_dealt : op_dealt all s.lane it.version ≡ op ∷ []
  its_dealt = ap (λ ps. op_dealt ps s.lane it.version) (running_seen w t b i) ∙ dealt_among w.config (incarnations w) s.lane it.version ∙ ap option_to_list its_op

  op_if : (d : Document) (q : Bool) → grows d ≡ q → map name_of (ops_over all (lane_of w d) (write_if q x)) ≡ (if q then name_of op ∷ [] else [])
  op_if d true e =
      let same = same_document-true d (document_of op.key) (and_right (is_applied x o) (same_document d (document_of op.key)) e) in
      let l : lane_of w d ≡ s.lane = ap (lane_of w) same ∙ its_lane in
      ap (λ m. map name_of (op_dealt all m it.version ++ [])) l
      ∙ ap (λ y. map name_of (y ++ [])) its_dealt
  op_if d false e = refl

  module _ (names : (d : Document) → names_at new d ≡ names_at w d ++ (if is_run w.index x c && same_document d (document_of op.key) then name_of op ∷ [] else []))
      (before : (d : Document) → before_at new d ≡ before_at w d) where
    index_now : IsIndexOf new u
    index_now = record {
      applied = λ d.
          applied_now d ∙ ap (λ ws. ws ++ write_if (grows d) x) (i.index.applied d)
          ∙ sym (drop-left (before_at w d) (index.applied_writes w.index d) (write_if (grows d) x) (i.index.within d))
          ∙ (let back = sym (before d) in let list = sym (list_now d) in λ j. drop (back j) (list j));
      before = λ d.
          before_now d ∙ i.index.before d
          ∙ sym (take-left (before_at w d) (index.applied_writes w.index d) (write_if (grows d) x) (i.index.within d))
          ∙ (let back = sym (before d) in let list = sym (list_now d) in λ j. take (back j) (list j));
      within = λ d.
          let n1 = before d in
          let n2 = i.index.within d in
          let n3 = ap length (list_now d) in
          let n4 = length-append (index.applied_writes w.index d) (write_if (grows d) x) in
          omega (arith, n1, n2, n3, n4);
      shows = record {
        versions = λ d. stored_now d ∙ sym (ran_stored (outside_of (lane_of w) t) (run_at k n o) x d) ∙ shown.versions d;
        lists = λ d.
            (λ j. before_now d j ++ applied_now d j)
            ∙ sym (λ j. ran_before (outside_of (lane_of w) t) (run_at k n o) x j d ++ ran_applied (outside_of (lane_of w) t) (run_at k n o) x d j)
            ∙ shown.lists d;
      };
      names = λ d.
          let l = lane_of w d in
          let old = (t.lanes.lane l).outside.applied d in
          (λ j. map name_of (ops_over (all_now j) l (applied_now d j)))
          ∙ ap (map name_of) (ops_over-append all l old (write_if (grows d) x))
          ∙ map-append name_of (ops_over all l old) (ops_over all l (write_if (grows d) x))
          ∙ (λ j. i.index.names d j ++ op_if d (grows d) refl j)
          ∙ ap (λ b. names_at w d ++ (if b then name_of op ∷ [] else [])) (sym (grown d))
          ∙ sym (names d);
    }

    pub run_tied : IsTied new u b
    run_tied = record {
      few = i.few;
      came_about = act_together (opening_version w) g (lane_of w) (ended_of w) t (RunsAt k n o from) i.came_about may tt;
      lanes = lanes_now;
      requests = requests_now;
      index = index_now;
    }
