-- What a world that is tied to its machines delivers.
use Rattle.std.proofs.Common.{◌≡◌, ℕ, zero, suc, List, [], ◌∷◌, length, Option, Some, None, Bool, true, false, ◌==◌, refl, sym, ap, ◌∙◌, subst, ⊎_elim, inl, inr, arith}
use Rattle.std.specs.Prelude.{◌+◌, ◌<◌, ◌≤◌, ◌++◌, slice_get, nat_lt, map, filter, ◌&&◌, if◌then◌else◌}
use borrow.Author.Tests.{ltb-true, ltb-false}
use Rattle.std.specs.List.{list_all}
use Rattle.relay_action.specs.declared.operation.Op.{Op}
use Rattle.relay_results.specs.Words.{Mem, AllDistinct}
use Rattle.relay_results.specs.Outside.{Ran}
use Rattle.relay_results.specs.Documents.{document_of, name_of}
use Rattle.relay_results.proofs.Lists.{equal, equal_test, and_left, and_right, at-Mem, Mem-left, Mem-right}
use Rattle.relay_delivery.specs.Attribution.{IsAttribution, IsInProducerOrder, is_in}
use Rattle.relay_delivery.specs.Causes.{IsTrueCause}
use Rattle.relay_delivery.specs.Machine.{Config, Report, first_in, fewest}
use Rattle.relay_delivery.specs.Delivery.{names_of, terms_of}
use Rattle.relay_delivery.specs.Lane as delivery
use Rattle.relay_delivery.specs.Stating as stating
use Rattle.relay_delivery.specs.Lanes.{IsFinished}
use Rattle.relay_delivery.specs.Together.{Together}
use Rattle.relay_delivery.specs.Restarts.{with_running}
use Rattle.relay_delivery.specs.Incarnations.{accepted_over, accepted_in, attributed_together, IsCompleteTogether, first_of}
use Rattle.relay_delivery.specs.Renumbering.{entry_on}
use Rattle.relay_delivery.specs.Together as together
use Rattle.relay_delivery.proofs.Accounts.{sound_together, complete_together, complete_together_if_stated}
use Rattle.relay_delivery.proofs.Versions.{version_in, version_of, none_over}
use Rattle.relay_delivery.proofs.Queues.{taken_distinct, was_accepted}
use Rattle.relay_delivery.proofs.Joined as joined
use Rattle.relay_delivery.proofs.Sharing.{TogetherFacts, true_all}
use Rattle.relay_delivery.proofs.Lives.{past_of, facts_together}
use Rattle.relay_world.proofs.Past.{running_seen, epochs_rise}
use Rattle.relay_core.specs.State.{config_of}
use Rattle.relay_world.specs.State.{Desk, Past, World, opening_version, incarnation, ended_of, desk_at, lane_of, accepted_from, applied_writes, reports_of, reports, all_closed, is_done, is_finished, taken_ops}
use Rattle.relay_world.specs.Headline.{outcomes_at, outside_of, terms_at, version_at, IsTrueReport, epoch_of_first, StatesVersions, AreAccountedFor, Delivered}
use Rattle.relay_world.specs.Ties.{puts_of, queue_of, core_of, IsTied, WorldsDeliver}

-- a test that all pass
all_at : {A : Type 0} (f : A → Bool) (xs : List A) (n : ℕ) (x : A) → list_all f xs ≡ true → slice_get xs n ≡ Some x → f x ≡ true
all_at f [] n x t e = absurd (cc)
all_at f (y ∷ xs) zero x t e = let same : y ≡ x = cc in ap f (sym same) ∙ and_left (f y) (list_all f xs) t
all_at f (y ∷ xs) (suc n) x t e = all_at f xs n x (and_right (f y) (list_all f xs) t) e

nothing : {A : Type 0} (xs : List A) → length xs ≡ 0 → xs ≡ []
nothing [] e = refl
nothing (x ∷ xs) e = absurd (omega (arith, e))

core_reports : (g : Config) (o : Option Desk) → (core_of g o).reports ≡ reports_of o
core_reports g None = refl
core_reports g (Some d) = refl

-- the outcome of a run in a log is one of its item
logged : (log : List Ran) (r : Ran) → Mem r log → Mem r.outcome (outcomes_at r.request r.place log)
logged [] r m = absurd m
logged (x ∷ xs) r m = ⊎_elim
    (λ e.
    let here : (if (r.request == r.request) && (r.place == r.place) then r.outcome ∷ [] else []) ≡ r.outcome ∷ [] = (λ j. if equal_test r.request r.request refl j && equal_test r.place r.place refl j then r.outcome ∷ [] else []) in
    subst (λ (y : Ran). Mem r.outcome ((if (y.request == r.request) && (y.place == r.place) then y.outcome ∷ [] else []) ++ outcomes_at r.request r.place xs)) e
    (Mem-left r.outcome (if (r.request == r.request) && (r.place == r.place) then r.outcome ∷ [] else []) (outcomes_at r.request r.place xs) (subst (λ os. Mem r.outcome os) (sym here) (inl refl))))
    (λ l. Mem-right r.outcome (if (x.request == r.request) && (x.place == r.place) then x.outcome ∷ [] else []) (outcomes_at r.request r.place xs) (logged xs r l))
    m

module _ (w : World) (t : Together) (b : ℕ → ℕ) (i : IsTied w t b) where
  abbrev g : Config
  g = config_of w.config

  reports_same : (l : ℕ) → (t.lanes.lane l).reports ≡ reports w l
  reports_same l = sym (i.lanes.lane l).reports ∙ core_reports g (desk_at w l)

  accepted_same : t.lanes.accepted ≡ accepted_from w
  accepted_same = λ j p. i.lanes.accepted p j

  outside_same : together.outside_of (lane_of w) t ≡ outside_of w t.runs
  outside_same = λ j. record {
    requests = i.requests.sent j;
    runs = t.runs;
    stored = λ k. i.index.shows.versions k j;
    before = λ k. i.index.before k j;
    applied = λ k. i.index.applied k j;
  }

  terms_same : (l : ℕ) → terms_of g (t.lanes.lane l).taken ≡ terms_at w l
  terms_same l = λ j. record { max = fewest g; deals = g.deals; taken = ap length (i.lanes.taken l) j }

  done_at : is_finished w ≡ true → (l : ℕ) (o : Option Desk) → desk_at w l ≡ o → (queue_of o ≡ []) × ((core_of g o).held ≡ [])
  done_at f l None e = (refl, refl)
  done_at f l (Some d) e =
      let all = all_at is_done w.desks l d f e in
      let rest = and_right (all_closed d) ((length d.queue == 0) && (length d.lane.core.held == 0)) all in
      let q = nothing d.queue (equal (length d.queue) 0 (and_left (length d.queue == 0) (length d.lane.core.held == 0) rest)) in
      let h = nothing d.lane.core.held (equal (length d.lane.core.held) 0 (and_right (length d.queue == 0) (length d.lane.core.held == 0) rest)) in
      (ap puts_of q, h)

  finished : is_finished w ≡ true → IsFinished t.lanes
  finished f = record {
    queues = λ l. i.lanes.queue l ∙ (done_at f l (desk_at w l) refl).0;
    lanes = λ l. sym (i.lanes.lane l).held ∙ ap (λ es. delivery.held_of (map (entry_on (b l)) es)) (done_at f l (desk_at w l) refl).1;
  }

  facts : TogetherFacts g (lane_of w) (past_of (opening_version w) (ended_of w)) t
  facts = facts_together (opening_version w) g (lane_of w) (ended_of w) t i.came_about

  -- the versions that the lanes assigned
  abbrev versions : Op → Option ℕ
  versions o = version_in g.first g.deals (t.lanes.lane (lane_of w (document_of o.key))).taken o

  assigned : (l place : ℕ) (o : Op) → slice_get (taken_ops w l) place ≡ Some o → versions o ≡ version_at w place
  assigned l place o at = ap (λ n. version_in g.first g.deals (t.lanes.lane n).taken o) its_lane ∙ by (nat_lt place g.deals) refl
    where
      os : List Op
      os = (t.lanes.lane l).taken

      took : slice_get os place ≡ Some o
      took = ap (λ xs. slice_get xs place) (i.lanes.taken l) ∙ at

      its_lane : lane_of w (document_of o.key) ≡ l
      its_lane = (was_accepted g (lane_of w) (past_of (opening_version w) (ended_of w)) t.lanes facts.lanes l o (at-Mem os place o took)).1

      distinct : AllDistinct (map name_of os)
      distinct = taken_distinct g (lane_of w) (past_of (opening_version w) (ended_of w)) t.lanes facts.lanes l

      none : (v : Option ℕ) → g.deals ≤ place → version_in g.first g.deals os o ≡ v → v ≡ None
      none None past e = refl
      none (Some u) past e = absurd (none_over g.first g.deals os o place u distinct took past e)

      by : (b : Bool) → nat_lt place g.deals ≡ b → version_in g.first g.deals os o ≡ (if b then Some (g.first + place) else None)
      by true e = version_of os g.first g.deals place o distinct took (ltb-true _ _ e)
      by false e = none (version_in g.first g.deals os o) (ltb-false _ _ e) refl

  true_report : (l : ℕ) (r : Report) → Mem r (reports w l) → IsTrueReport w t.runs versions l r
  true_report l r m =
      let x = joined.true_report g (lane_of w) (past_of (opening_version w) (ended_of w)) t.lanes facts.lanes l r (subst (Mem r) (sym (reports_same l)) m) in
      let cause = true_all g (lane_of w) (past_of (opening_version w) (ended_of w)) t facts l (terms_of g (t.lanes.lane l).taken) x.op x.of_lane (versions x.op) r.cause x.cause in
      record {
        op = x.op;
        producer = x.producer;
        was_accepted = subst (λ os. Mem x.op os) (i.lanes.accepted x.producer) x.was_accepted;
        of_lane = x.of_lane;
        name = x.name;
        document = x.document;
        cause = subst (λ s. IsTrueCause (terms_at w l) s x.op (versions x.op) r.cause) outside_same
            (subst (λ u. IsTrueCause u (together.outside_of (lane_of w) t) x.op (versions x.op) r.cause) (terms_same l) cause);
      }

  delivered : (w.opening.states ≡ true → StatesVersions w) → Delivered w
  delivered stated =
      let s = sound_together (opening_version w) g (lane_of w) (ended_of w) t i.came_about in
      record {
        log = t.runs;
        ran = i.requests.runs;
        ops = attributed_together g (lane_of w) (ended_of w) t;
        named = i.index.names;
        attribution = λ k. subst (λ is. IsAttribution (accepted_over is) k (applied_writes w k) (attributed_together g (lane_of w) (ended_of w) t k)) (running_seen w t b i)
            (subst (λ ws. IsAttribution (accepted_over (with_running (ended_of w) g t)) k ws (attributed_together g (lane_of w) (ended_of w) t k)) (i.index.applied k) (s.attribution k));
        in_order = λ k e. subst (λ is. IsInProducerOrder (accepted_in is e) (filter (is_in e) (attributed_together g (lane_of w) (ended_of w) t k))) (running_seen w t b i) (s.in_order k e);
        by_epoch = s.by_epoch;
        rising = epochs_rise w t b i;
        versions = versions;
        assignment = joined.assignment g (lane_of w) (past_of (opening_version w) (ended_of w)) t.lanes facts.lanes;
        assigned = assigned;
        true_reports = true_report;
        once = λ l. subst (λ rs. AllDistinct (names_of rs)) (reports_same l) (s.once l);
        in_one_lane = λ l m r q mr mq e. s.in_one_lane l m r q (subst (Mem r) (sym (reports_same l)) mr) (subst (Mem q) (sym (reports_same m)) mq) e;
        complete = λ below f. accounted (complete_together (opening_version w) g (lane_of w) (ended_of w) t i.came_about (λ k u e. subst (λ n. u < n) (sym (first_is w.ended)) (below k u e)) (finished f));
        complete_if_stated = λ on beside f. accounted (complete_together_if_stated (opening_version w) g (lane_of w) (ended_of w) t i.came_about beside (states on) (finished f));
      }
    where
      -- what the machines account for, the world does
      accounted : IsCompleteTogether (lane_of w) t (attributed_together g (lane_of w) (ended_of w) t) → AreAccountedFor w (attributed_together g (lane_of w) (ended_of w) t)
      accounted all p o m = ⊎_elim inl
          (λ r. inr (subst (λ rs. Mem (name_of o) (names_of rs)) (reports_same (lane_of w (document_of o.key))) r))
          (all p o (subst (λ os. Mem o os) (sym (i.lanes.accepted p)) m))

      first_is : (ps : List Past) → (first_of (map (incarnation w.config) ps) g).first ≡ first_in (epoch_of_first ps w.config.epoch)
      first_is [] = refl
      first_is (p ∷ ps) = refl

      states : w.opening.states ≡ true → stating.StatesVersions (together.outside_of (lane_of w) t)
      states on r m conflict = stated on r.request r.place r.outcome (subst (λ os. Mem r.outcome os) (i.requests.runs r.request r.place) (logged t.runs r m)) conflict

pub worlds_deliver : WorldsDeliver
worlds_deliver w k = delivered w k.has.machines k.has.before k.has.tied k.stated
