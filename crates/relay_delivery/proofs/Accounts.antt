-- What is promised of all accepted operations, over incarnations, and how acts and restarts
-- preserve it.
use Rattle.std.proofs.Common.{◌≡◌, ℕ, ◌+◌, ◌<◌, List, [], ◌∷◌, ◌++◌, Option, refl, sym, ap, ◌∙◌, subst, ⊎_elim, inl, inr, arith}
use Rattle.relay_action.specs.declared.write.Write.{Write}
use Rattle.relay_action.specs.declared.operation.Op.{Op}
use Rattle.relay_results.specs.Words.{Mem}
use Rattle.relay_results.specs.Documents.{Document, document_of}
use Rattle.relay_results.specs.Outside.{Continues}
use Rattle.relay_results.proofs.Lists.{at-Mem, Mem-left, Mem-right, Mem-last, Mem-push_cases}
use Rattle.relay_results.proofs.Steps.{continues_itself, continues_on}
use Rattle.relay_delivery.specs.Attribution.{IsAttribution}
use Rattle.relay_delivery.specs.Machine.{Config}
use Rattle.relay_delivery.specs.Delivery.{terms_of}
use Rattle.relay_delivery.specs.Lanes.{IsFinished}
use Rattle.relay_delivery.specs.Together.{Together, act, outside_of}
use Rattle.relay_delivery.specs.Restarts.{Incarnation, incarnation_of, Life, born, Happening, Acts, Restarts, happen, EpochsAreAbove, MayBe, after_happenings, AllMayBe}
use Rattle.relay_delivery.specs.Incarnations.{accepted_over, op_dealt, ops_over, attributed_together, IsCompleteTogether, SoundTogether, CompleteTogether, CompleteTogetherIfStated, FreshTogether, ActTogether, RestartTogether, TogetherMay, TogetherRuns, TogetherContinues}
use Rattle.relay_delivery.proofs.Queues.{TellAll, taken_distinct, was_accepted}
use Rattle.relay_delivery.proofs.Versions.{version_in, version_there}
use Rattle.relay_delivery.proofs.Joined.{versions, assignment, true_report, once, in_one_lane, all_accounted}
use Rattle.relay_delivery.proofs.Sharing.{true_all, happens_in_lanes}
use Rattle.relay_delivery.proofs.Gathered.{w, runs_once}
use Rattle.relay_delivery.proofs.OneOutside.{act_continues}
use Rattle.relay_delivery.proofs.Lives.{past_of, IsOfThese, IncarnationFacts, AreAbove, LifeFacts, running_facts, above_more, happen_keeps, facts_of_life, facts_together, tell_if_below, tell_if_stated}
use Rattle.relay_delivery.proofs.Parts.{AreParts, op_of_write, parts}

-- what was accepted in one of them was accepted
over_from : (ps : List Incarnation) (p : Incarnation) (q : ℕ) (o : Op) → Mem p ps → Mem o (p.accepted q) → Mem o (accepted_over ps q)
over_from [] p q o m a = absurd m
over_from (x ∷ ps) p q o m a = ⊎_elim
    (λ e. Mem-left o (x.accepted q) (accepted_over ps q) (subst (λ (y : Incarnation). Mem o (y.accepted q)) e a))
    (λ r. Mem-right o (x.accepted q) (accepted_over ps q) (over_from ps p q o r a))
    m

-- a config above another, whatever its own are
abbrev pub next : Config → Config
next g = record { epoch = g.epoch + 1; first = g.first + g.deals; deals = g.deals; max = g.max; age = g.age; cap = g.cap }

module _ (stored : Document → Option ℕ) (g : Config) (lane_of : Document → ℕ) (ended : List Incarnation) (s : Together) (f : LifeFacts stored lane_of (record { ended = ended; config = g; together = s })) where
  abbrev this : Incarnation
  this = incarnation_of g s

  abbrev all : List Incarnation
  all = ended ++ this ∷ []

  pub all_above : AreAbove all (next g)
  all_above = above_more ended this (next g) f.above (record { epoch = omega arith; versions = omega arith })

  all_facts : (p : Incarnation) → Mem p all → IncarnationFacts lane_of p
  all_facts p m = ⊎_elim {C = IncarnationFacts lane_of p}
      (λ old. f.each p old)
      (λ e. subst (λ x. IncarnationFacts lane_of x) (sym e) (running_facts g lane_of (past_of stored ended) s f.together))
      (Mem-push_cases p ended this m)

  -- each applied write is of one of them
  pub of_all : (k : Document) (x : Write) → Mem x ((outside_of lane_of s).applied k) → IsOfThese all (lane_of k) x
  of_all k x m =
      let c = f.together.lanes.lane (lane_of k) in
      ⊎_elim
      (λ one. record { which = this; among = Mem-last ended this; of_one = one })
      (λ old. record { which = old.which; among = Mem-left old.which ended (this ∷ []) old.among; of_one = old.of_one })
      (c.sent x ((c.index k).sent x m))

  its_parts : (k : Document) → AreParts lane_of all (lane_of k) k ((outside_of lane_of s).applied k) (attributed_together g lane_of ended s k)
  its_parts k =
      let c = f.together.lanes.lane (lane_of k) in
      parts lane_of (lane_of k) k all (next g) all_above all_facts
      ((outside_of lane_of s).applied k) (c.index k).rising (of_all k) (c.index k).document

  attribution : (k : Document) → IsAttribution (accepted_over all) k ((outside_of lane_of s).applied k) (attributed_together g lane_of ended s k)
  attribution k =
      let p = its_parts k in
      record {
        actions = p.actions;
        distinct = p.distinct;
        accepted_each = λ o m. let t = p.each_taken o m in (o.producer, over_from all t.which o.producer o t.among ((all_facts t.which t.among).was_accepted (lane_of k) o t.taken).0);
        of_document = p.document;
      }

  -- an applied write is attributed to its operation
  is_named : (k : Document) (ws : List Write) (x : Write) → Mem x ws → (a : IsOfThese all (lane_of k) x) → Mem a.of_one.op (ops_over all (lane_of k) ws)
  is_named k [] x m a = absurd m
  is_named k (y ∷ ws) x m a = ⊎_elim
      (λ e. Mem-left a.of_one.op (op_dealt all (lane_of k) y.version) (ops_over all (lane_of k) ws)
      (subst (λ z. Mem a.of_one.op (op_dealt all (lane_of k) z.version)) e
      (subst (λ os. Mem a.of_one.op os) (sym (op_of_write all (next g) all_above (lane_of k) x a)) (inl refl))))
      (λ r. Mem-right a.of_one.op (op_dealt all (lane_of k) y.version) (ops_over all (lane_of k) ws) (is_named k ws x r a))
      m

pub sound_together : SoundTogether
sound_together stored g lane_of ended s c =
    let f = facts_of_life stored g lane_of ended s c in
    let past = past_of stored ended in
    let lanes = f.together.lanes in
    record {
      attribution = attribution stored g lane_of ended s f;
      in_order = λ k e. (its_parts stored g lane_of ended s f k).in_order e;
      by_epoch = λ k. (its_parts stored g lane_of ended s f k).by_epoch;
      versions = versions g lane_of past s.lanes lanes;
      assignment = assignment g lane_of past s.lanes lanes;
      assigned = λ l place o at.
          ap (λ n. version_in g.first g.deals (s.lanes.lane n).taken o) (was_accepted g lane_of past s.lanes lanes l o (at-Mem (s.lanes.lane l).taken place o at)).1
          ∙ version_there g.first g.deals (s.lanes.lane l).taken place o (taken_distinct g lane_of past s.lanes lanes l) at;
      true_reports = λ l r m.
          let x = true_report g lane_of past s.lanes lanes l r m in
          record {
            op = x.op;
            producer = x.producer;
            was_accepted = x.was_accepted;
            of_lane = x.of_lane;
            name = x.name;
            document = x.document;
            cause = true_all g lane_of past s f.together l (terms_of g (s.lanes.lane l).taken) x.op x.of_lane (versions g lane_of past s.lanes lanes x.op) r.cause x.cause;
          };
      once = once g lane_of past s.lanes lanes;
      in_one_lane = in_one_lane g lane_of past s.lanes lanes;
    }

-- what was accepted is accounted for, if the conflicts tell which of them were with an own version
accounted_together : (stored : Document → Option ℕ) (g : Config) (lane_of : Document → ℕ) (ended : List Incarnation) (s : Together) (f : LifeFacts stored lane_of (record { ended = ended; config = g; together = s }))
    → TellAll g (past_of stored ended) s.lanes → IsFinished s.lanes → IsCompleteTogether lane_of s (attributed_together g lane_of ended s)
accounted_together stored g lane_of ended s f tells done p o m =
    let k = document_of o.key in
    ⊎_elim
    (λ a. inl (subst (λ x. Mem x (attributed_together g lane_of ended s k)) a.op
    (is_named stored g lane_of ended s f k ((outside_of lane_of s).applied k) a.write a.is_in (record { which = incarnation_of g s; among = Mem-last ended (incarnation_of g s); of_one = a.one }))))
    (λ r. inr r)
    (all_accounted g lane_of (past_of stored ended) s.lanes f.together.lanes tells done p o m)

pub complete_together : CompleteTogether
complete_together stored g lane_of ended s c below =
    let f = facts_of_life stored g lane_of ended s c in
    accounted_together stored g lane_of ended s f (tell_if_below stored g lane_of ended s f below)

pub complete_together_if_stated : CompleteTogetherIfStated
complete_together_if_stated stored g lane_of ended s c others states =
    let f = facts_of_life stored g lane_of ended s c in
    accounted_together stored g lane_of ended s f (tell_if_stated stored g lane_of ended s f others states)

pub together_may : TogetherMay
together_may stored g lane_of ended s c = happens_in_lanes g lane_of (past_of stored ended) s (facts_together stored g lane_of ended s c)

pub together_runs : TogetherRuns
together_runs stored g lane_of ended s i place o from c may =
    let f = facts_together stored g lane_of ended s c in
    (w g lane_of (past_of stored ended) s f i place o from may, runs_once g lane_of (past_of stored ended) s f i place o from may)

-- ---- one after another

pub fresh_together : FreshTogether
fresh_together stored g lane_of s fresh = record { first = g; start = s; fresh = fresh; happenings = []; may = tt; reached = refl }

lived_more : (lane_of : Document → ℕ) (hs : List Happening) (h : Happening) (l : Life) → after_happenings lane_of (hs ++ h ∷ []) l ≡ happen lane_of h (after_happenings lane_of hs l)
lived_more lane_of [] h l = refl
lived_more lane_of (x ∷ hs) h l = lived_more lane_of hs h (happen lane_of x l)

may_more : (lane_of : Document → ℕ) (hs : List Happening) (h : Happening) (l : Life) → AllMayBe lane_of hs l → MayBe h (after_happenings lane_of hs l) → AllMayBe lane_of (hs ++ h ∷ []) l
may_more lane_of [] h l before may = (may, tt)
may_more lane_of (x ∷ hs) h l before may = (before.0, may_more lane_of hs h (happen lane_of x l) before.1 may)

pub act_together : ActTogether
act_together stored g lane_of ended s a c may now = record {
  first = c.first;
  start = c.start;
  fresh = c.fresh;
  happenings = c.happenings ++ Acts a ∷ [];
  may = may_more lane_of c.happenings (Acts a) (born c.first c.start) c.may (subst (λ l. MayBe (Acts a) l) (sym c.reached) (may, now));
  reached = lived_more lane_of c.happenings (Acts a) (born c.first c.start) ∙ ap (happen lane_of (Acts a)) c.reached;
}

pub restart_together : RestartTogether
restart_together stored g new lane_of ended s c up = record {
  first = c.first;
  start = c.start;
  fresh = c.fresh;
  happenings = c.happenings ++ Restarts new ∷ [];
  may = may_more lane_of c.happenings (Restarts new) (born c.first c.start) c.may (subst (λ l. MayBe (Restarts new) l) (sym c.reached) up);
  reached = lived_more lane_of c.happenings (Restarts new) (born c.first c.start) ∙ ap (happen lane_of (Restarts new)) c.reached;
}

pub epochs_are_above : EpochsAreAbove
epochs_are_above e f deals more max least cap other age years lt few = record { epoch = lt; versions = omega (arith, lt, few) }

-- ---- the one outside

life_continues : (stored : Document → Option ℕ) (lane_of : Document → ℕ) (hs : List Happening) (l : Life) → LifeFacts stored lane_of l → AllMayBe lane_of hs l
    → Continues (outside_of lane_of l.together) (outside_of lane_of (after_happenings lane_of hs l).together)
life_continues stored lane_of [] l f may = continues_itself (outside_of lane_of l.together)
life_continues stored lane_of (Acts a ∷ hs) l f may =
    continues_on (outside_of lane_of l.together) (outside_of lane_of (act l.config lane_of a l.together)) (outside_of lane_of (after_happenings lane_of hs (happen lane_of (Acts a) l)).together)
    (act_continues l.config lane_of (past_of stored l.ended) l.together f.together a may.0.0)
    (life_continues stored lane_of hs (happen lane_of (Acts a) l) (happen_keeps stored lane_of l f (Acts a) may.0) may.1)
life_continues stored lane_of (Restarts g ∷ hs) l f may = life_continues stored lane_of hs (happen lane_of (Restarts g) l) (happen_keeps stored lane_of l f (Restarts g) may.0) may.1

pub together_continues : TogetherContinues
together_continues stored g lane_of ended s c =
    let fresh = c.fresh in
    let start_facts = facts_of_life stored c.first lane_of [] c.start (fresh_together stored c.first lane_of c.start fresh) in
    record {
      start = outside_of lane_of c.start;
      opening = record { requests = fresh.sent; runs = fresh.runs; applied = λ k. (fresh.lanes.lane (lane_of k)).opening.applied k };
      found = λ k. fresh.found (lane_of k) k;
      continues = subst (λ (l : Life). Continues (outside_of lane_of c.start) (outside_of lane_of l.together)) c.reached
          (life_continues stored lane_of c.happenings (born c.first c.start) start_facts c.may);
    }
