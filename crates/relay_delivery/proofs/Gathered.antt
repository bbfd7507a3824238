-- A run of a lane's item is a step of the one outside.
use Rattle.std.proofs.Common.{◌≡◌, ℕ, [], ◌∷◌, ◌++◌, Some, Bool, true, false, ◌==◌, refl, sym, ap, ◌∙◌, subst, ⊎_elim, inl, inr}
use Rattle.std.specs.Prelude.{◌⊎◌, slice_get, option_and_then, if◌then◌else◌}
use Rattle.relay_action.specs.declared.write.Write.{Write}
use Rattle.relay_results.specs.Documents.{Document, document_of}
use Rattle.relay_results.specs.Outside.{writes_of, write_at, Ran, RunOutcome, is_above, is_applied}
use Rattle.relay_results.specs.Laws.{GrowsBy, RunsItem}
use Rattle.relay_results.proofs.Lists.{equal, equal_test, at-Mem}
use Rattle.relay_results.proofs.Steps.{step_runs_item}
use Rattle.relay_delivery.specs.Machine.{Config, Core, Runs, step}
use Rattle.relay_delivery.specs.Together.{Origin, Together, RunsAt, run_at, act, MayAct, outside_of}
use Rattle.relay_delivery.proofs.Dealt.{sent_by}
use Rattle.relay_delivery.proofs.Run.{found_at}
use Rattle.relay_delivery.proofs.Sharing.{TogetherFacts, sent_lane}
use Rattle.relay_delivery.proofs.Facts.{Past}

-- ---- a run of a lane's item is a step of the one outside

module _ (g : Config) (lane_of : Document → ℕ) (past : ℕ → Past) (s : Together) (f : TogetherFacts g lane_of past s) (i place : ℕ) (o : RunOutcome) (from : Origin) (may : MayAct g (RunsAt i place o from) s) where
  abbrev old : ℕ → Core
  old l = s.lanes.lane l

  abbrev run : Ran
  run = run_at from.number place o

  abbrev ran_core : Core
  ran_core = step g (Runs (run_at from.number place o)) (s.lanes.lane from.lane)

  pub w : Write
  w = may.1.write

  item : RunsItem (s.lanes.lane from.lane).outside ran_core.outside (run_at from.number place o) w
  unfolding w
  item = step_runs_item (s.lanes.lane from.lane).outside ran_core.outside (record { run = run_at from.number place o; may = may.1; reached = refl })

  its_lane : lane_of (document_of w.key) ≡ from.lane
  unfolding w
  its_lane =
      let q = found_at (slice_get (s.lanes.lane from.lane).outside.requests from.number) place may.1.write may.1.sent in
      sent_lane g lane_of past s.lanes f.lanes from.lane may.1.write (sent_by (s.lanes.lane from.lane).outside.requests from.number q.0 may.1.write q.1 (at-Mem q.0.writes place may.1.write q.2))

  its_item : write_at s.sent i place ≡ Some w
  unfolding w
  its_item =
      let p = f.same i from may.0 in
      ap (λ q. option_and_then (λ z. slice_get (writes_of z) place) q) (p.here ∙ sym p.there) ∙ may.1.sent

  -- of a document, what the core of its lane shows, compared with what the lane showed before
  abbrev Grown : Core → Document → Type 0
  Grown c k =
      (c.outside.applied k ≡ (s.lanes.lane (lane_of k)).outside.applied k ++ w ∷ [])
      × (document_of w.key ≡ k)
      × (is_above ((s.lanes.lane (lane_of k)).outside.stored k) w.version ≡ true)
      × (c.outside.stored k ≡ Some w.version)

  abbrev Goes : Core → Document → Type 0
  Goes c k =
      ((c.outside.applied k ≡ (s.lanes.lane (lane_of k)).outside.applied k) × (c.outside.stored k ≡ (s.lanes.lane (lane_of k)).outside.stored k))
      ⊎ ((is_applied w o ≡ true) × Grown c k)

  grown_here : (k : Document) → lane_of k ≡ from.lane → GrowsBy (s.lanes.lane from.lane).outside ran_core.outside k w → Grown ran_core k
  grown_here k em d = (
    d.applied ∙ ap (λ n. (s.lanes.lane n).outside.applied k ++ w ∷ []) (sym em),
    d.of_document,
    subst (λ n. is_above ((s.lanes.lane n).outside.stored k) w.version ≡ true) (sym em) d.above,
    d.stored,
  )

  goes_by : (k : Document) (b : Bool) → (lane_of k == from.lane) ≡ b → Goes (if b then ran_core else s.lanes.lane (lane_of k)) k
  goes_by k true e =
      let em = equal (lane_of k) from.lane e in
      ⊎_elim
      (λ d. inl (
        d.applied ∙ ap (λ n. (s.lanes.lane n).outside.applied k) (sym em),
        d.stored ∙ ap (λ n. (s.lanes.lane n).outside.stored k) (sym em),
      ))
      (λ d. inr (d.0, grown_here k em d.1))
      (item.documents k)
  goes_by k false e = inl (refl, refl)

  before_by : (k : Document) (b : Bool) → (lane_of k == from.lane) ≡ b → (if b then ran_core else s.lanes.lane (lane_of k)).outside.before k ≡ (s.lanes.lane (lane_of k)).outside.before k
  before_by k true e = ap (λ f. f k) item.before ∙ ap (λ n. (s.lanes.lane n).outside.before k) (sym (equal (lane_of k) from.lane e))
  before_by k false e = refl

  grows_by : (b : Bool) → (lane_of (document_of w.key) == from.lane) ≡ b → is_applied w o ≡ true → Grown (if b then ran_core else s.lanes.lane (lane_of (document_of w.key))) (document_of w.key)
  grows_by true e a = grown_here (document_of w.key) its_lane (item.grows a)
  grows_by false e a = let t = equal_test (lane_of (document_of w.key)) from.lane its_lane in absurd (cc (t, e))

  pub runs_once : RunsItem (outside_of lane_of s) (outside_of lane_of (act g lane_of (RunsAt i place o from) s)) (run_at i place o) w
  runs_once = record {
    item = its_item;
    requests = refl;
    runs = refl;
    before = λ j k. before_by k (lane_of k == from.lane) refl j;
    documents = λ k. ⊎_elim
        (λ d. inl (record { applied = d.0; stored = d.1 }))
        (λ d. inr (d.0, record { applied = d.1.0; of_document = d.1.1; above = d.1.2; stored = d.1.3 }))
        (goes_by k (lane_of k == from.lane) refl);
    grows = λ a. let d = grows_by (lane_of (document_of w.key) == from.lane) refl a in record { applied = d.0; of_document = d.1; above = d.2; stored = d.3 };
  }
