-- What the lanes took, one by one, makes one record over all of them.
use Rattle.std.proofs.Common.{◌≡◌, ◌≢◌, ℕ, zero, suc, ◌+◌, ◌<◌, ◌≤◌, Bool, true, false, eqb, eq-eqb, List, [], ◌∷◌, length, map, sym, refl, ap, ◌∙◌, subst, arith, ⊎_elim, inl, inr}
use Rattle.std.specs.Prelude.{filter, Option, Some, None, slice_get, ◌⊎◌, nat_lt, if◌then◌else◌}
use Rattle.std.proofs.Math.Nat.{mod-lt}
use Rattle.std.proofs.lemmas.Bool.Decides.{eqb_tells}
use borrow.Author.Tests.{ltb-true, ltb-false}
use Rattle.relay_action.specs.declared.write.Write.{Write}
use Rattle.relay_action.specs.declared.operation.Op.{Op}
use Rattle.relay_action.specs.declared.operation.OpName.{OpName}
use Rattle.relay_action.specs.Lanes.{lane_of_document, fnv1a, document_bytes}
use Rattle.relay_results.specs.Words.{Mem, AllDistinct, IsSubsequence}
use Rattle.relay_results.specs.Documents.{Document, document_of, lane_of, name_of}
use Rattle.relay_results.specs.Outside.{Outside}
use Rattle.relay_results.proofs.Lists.{some_same, Mem-filter, filter-Mem, at-Mem, sub_joined}
use Rattle.relay_delivery.specs.Attribution.{SameActions, IsAttribution, IsInProducerOrder, is_from}
use Rattle.relay_delivery.specs.Causes.{IsTrueCause}
use Rattle.relay_delivery.specs.Delivery.{taken_of, terms_of, names_of, assigned_at, HasDistinctNames, IsSound, IsComplete, applied_ops}
use Rattle.relay_delivery.specs.Machine.{Report}
use Rattle.relay_delivery.proofs.Reported.{IsOnTaken, reports_taken, reports_once}
use Rattle.relay_core.specs.declared.config.RelayConfig.{RelayConfig}
use Rattle.relay_core.specs.State.{config_of}
use Rattle.relay_core.specs.Walk.{report_of}
use Rattle.relay_lane.specs.Exchanges.{Exchange}
use Rattle.relay_producer.specs.declared.ends.ClosedEnd.{ClosedEnd}
use Rattle.relay_producer.specs.Puts.{AreNumberedBy, ops_for}
use Rattle.relay_producer.specs.States.{ClosedProducerState}
use Rattle.relay_threads.specs.declared.summary.LaneSummary.{LaneSummary}
use Rattle.relay_threads.specs.Course.{puts_of}
use Rattle.relay_threads.specs.DeliveryOfAll.{HavePut, DeliveredLane, AllDelivered}
use Rattle.relay_threads.specs.Together.{ops_by, reports_at, IsOnPut, AreReportedOnce, BeginsBeside, EndsBeside, IsTrueTogether, IsSoundTogether, IsCompleteTogether, DeliversTogether, AreDeliveredTogether}
use Rattle.relay_threads.proofs.Delivering.{distinct_numbered, distinct_all}

-- ---- the operations of a lane, of a list that a producer put

lane_below : (lanes : ℕ) (o : Op) → 0 < lanes → lane_of_document o.key lanes < lanes
lane_below lanes o some = mod-lt (fnv1a (document_bytes o.key)) some

-- they are those of the list whose document is the lane's
for_mem : (lanes lane : ℕ) (o : Op) (os : List Op) → Mem o (ops_for lanes lane os) → Mem o os × (lane_of_document o.key lanes ≡ lane)
for_mem lanes lane o [] m = absurd m
for_mem lanes lane o (x ∷ xs) m =
    ⊎_elim (λ (t : (eqb (lane_of_document x.key lanes) lane ≡ true) × (lane_of_document x.key lanes ≡ lane)).
    let here : Mem o (x ∷ ops_for lanes lane xs) = subst (λ (b : Bool). Mem o (if b then x ∷ ops_for lanes lane xs else ops_for lanes lane xs)) t.0 m in
    ⊎_elim (λ (e : o ≡ x). (inl e, ap (λ (y : Op). lane_of_document y.key lanes) e ∙ t.1))
    (λ (r : Mem o (ops_for lanes lane xs)). let later = for_mem lanes lane o xs r in (inr later.0, later.1)) here)
    (λ (t : (eqb (lane_of_document x.key lanes) lane ≡ false) × (lane_of_document x.key lanes ≢ lane)).
    let later = for_mem lanes lane o xs (subst (λ (b : Bool). Mem o (if b then x ∷ ops_for lanes lane xs else ops_for lanes lane xs)) t.0 m) in (inr later.0, later.1))
    (eqb_tells (lane_of_document x.key lanes) lane)

mem_for : (lanes lane : ℕ) (o : Op) (os : List Op) → lane_of_document o.key lanes ≡ lane → Mem o os → Mem o (ops_for lanes lane os)
mem_for lanes lane o [] e m = absurd m
mem_for lanes lane o (x ∷ xs) e (inl same) =
    subst (λ (b : Bool). Mem o (if b then x ∷ ops_for lanes lane xs else ops_for lanes lane xs))
    (sym (eq-eqb (lane_of_document x.key lanes) lane (ap (λ (y : Op). lane_of_document y.key lanes) (sym same) ∙ e))) (inl same)
mem_for lanes lane o (x ∷ xs) e (inr later) = by (eqb (lane_of_document x.key lanes) lane) refl (mem_for lanes lane o xs e later) where
  by : (t : Bool) → eqb (lane_of_document x.key lanes) lane ≡ t → Mem o (ops_for lanes lane xs) → Mem o (ops_for lanes lane (x ∷ xs))
  by true t r = rw t (inr r)
  by false t r = rw t r

-- in their order
for_sub : (lanes lane : ℕ) (os : List Op) → IsSubsequence (ops_for lanes lane os) os
for_sub lanes lane [] = tt
for_sub lanes lane (x ∷ xs) = by (eqb (lane_of_document x.key lanes) lane) refl (for_sub lanes lane xs) where
  skip : (zs : List Op) → IsSubsequence zs xs → IsSubsequence zs (x ∷ xs)
  skip [] s = tt
  skip (z ∷ zs) s = inr s

  by : (t : Bool) → eqb (lane_of_document x.key lanes) lane ≡ t → IsSubsequence (ops_for lanes lane xs) xs → IsSubsequence (ops_for lanes lane (x ∷ xs)) (x ∷ xs)
  by true t r = rw t (inl (refl, r))
  by false t r = rw t (skip (ops_for lanes lane xs) r)

no_members : (os : List Op) → ((o : Op) → Mem o os → ⊥) → os ≡ []
no_members [] none = refl
no_members (o ∷ os) none = absurd (none o (inl refl))

-- past the last lane there are none
for_none : (lanes lane : ℕ) (os : List Op) → 0 < lanes → lanes ≤ lane → ops_for lanes lane os ≡ []
for_none lanes lane os some past = no_members (ops_for lanes lane os) (λ o m. let e = (for_mem lanes lane o os m).1 in let lt = lane_below lanes o some in absurd (omega (arith, e, lt, past)))

-- ---- names

least_number : (p n : ℕ) (o : Op) (os : List Op) → AreNumberedBy p n os → Mem o os → n ≤ o.number
least_number p n o [] h m = absurd m
least_number p n o (x ∷ xs) h m =
    ⊎_elim (λ (e : o ≡ x). let same = ap (λ (y : Op). y.number) e in omega (arith, same, h.1))
    (λ (r : Mem o xs). let later = least_number p (n + 1) o xs h.2 r in omega (arith, later)) m

-- one number is one operation
same_number : (p n : ℕ) (a b : Op) (os : List Op) → AreNumberedBy p n os → Mem a os → Mem b os → a.number ≡ b.number → a ≡ b
same_number p n a b [] h ma mb e = absurd ma
same_number p n a b (x ∷ xs) h (inl ea) (inl eb) e = ea ∙ sym eb
same_number p n a b (x ∷ xs) h (inl ea) (inr mb) e =
    let later = least_number p (n + 1) b xs h.2 mb in let first = ap (λ (y : Op). y.number) ea in absurd (omega (arith, later, first, e, h.1))
same_number p n a b (x ∷ xs) h (inr ma) (inl eb) e =
    let later = least_number p (n + 1) a xs h.2 ma in let first = ap (λ (y : Op). y.number) eb in absurd (omega (arith, later, first, e, h.1))
same_number p n a b (x ∷ xs) h (inr ma) (inr mb) e = same_number p (n + 1) a b xs h.2 ma mb e

own_producer : (p n : ℕ) (o : Op) (os : List Op) → AreNumberedBy p n os → Mem o os → o.producer ≡ p
own_producer p n o [] h m = absurd m
own_producer p n o (x ∷ xs) h m = ⊎_elim (λ (e : o ≡ x). ap (λ (y : Op). y.producer) e ∙ h.0) (λ (r : Mem o xs). own_producer p (n + 1) o xs h.2 r) m

-- ---- what was put

numbered_at : (p : ℕ) (puts : ℕ → List Op) (cs : List ClosedProducerState) → HavePut puts p cs → (q : ℕ) → p ≤ q → q < p + length cs → AreNumberedBy q 1 (puts q)
numbered_at p puts [] h q le lt = absurd (omega (arith, le, lt))
numbered_at p puts (c ∷ cs) h q le lt =
    ⊎_elim (λ (t : (eqb q p ≡ true) × (q ≡ p)). subst (λ (n : ℕ). AreNumberedBy n 1 (puts n)) (sym t.1) h.0.numbered)
    (λ (t : (eqb q p ≡ false) × (q ≢ p)). let n = t.1 in numbered_at (p + 1) puts cs h.1 q (omega (arith, le, n)) (omega (arith, lt))) (eqb_tells q p)

module _ (c : RelayConfig) (puts : ℕ → List Op) where
  abbrev put_if : Bool → ℕ → List Op
  put_if t p = if t then puts p else []

  pub all_numbered : (cs : List ClosedProducerState) → length cs ≡ c.producers → HavePut puts 0 cs → (p : ℕ) → AreNumberedBy p 1 (ops_by c puts p)
  all_numbered cs n h p = by (nat_lt p c.producers) refl where
    by : (t : Bool) → nat_lt p c.producers ≡ t → AreNumberedBy p 1 (put_if t p)
    by true e = let lt = ltb-true p c.producers e in numbered_at 0 puts cs h p (omega arith) (omega (arith, lt, n))
    by false e = tt

  -- a lane's operations of each producer are those that it put there
  abbrev IsOwn : ℕ → List Op → Type 0
  IsOwn l taken = (p : ℕ) → taken_of taken p ≡ ops_for c.lanes l (ops_by c puts p)

  is_own : (l : ℕ) (taken : List Op) → ((p : ℕ) → p < c.producers → taken_of taken p ≡ ops_for c.lanes l (puts p)) → ((p : ℕ) → c.producers ≤ p → taken_of taken p ≡ []) → IsOwn l taken
  is_own l taken own no_other p = by (nat_lt p c.producers) refl where
    by : (t : Bool) → nat_lt p c.producers ≡ t → taken_of taken p ≡ ops_for c.lanes l (put_if t p)
    by true e = own p (ltb-true p c.producers e)
    by false e = no_other p (ltb-false p c.producers e)

  own_mem : (l : ℕ) (taken : List Op) → IsOwn l taken → (p : ℕ) (o : Op) → Mem o (taken_of taken p) → Mem o (ops_by c puts p) × (lane_of c.lanes (document_of o.key) ≡ l)
  own_mem l taken own p o m = for_mem c.lanes l o (ops_by c puts p) (subst (λ (os : List Op). Mem o os) (own p) m)

  own_taken : (l : ℕ) (taken : List Op) → IsOwn l taken → (o : Op) → Mem o taken → Mem o (ops_by c puts o.producer) × (lane_of c.lanes (document_of o.key) ≡ l)
  own_taken l taken own o m = own_mem l taken own o.producer o (filter-Mem (is_from o.producer) o taken m (eq-eqb o.producer o.producer refl))

  mem_own : (l : ℕ) (taken : List Op) → IsOwn l taken → (p : ℕ) (o : Op) → lane_of c.lanes (document_of o.key) ≡ l → Mem o (ops_by c puts p) → Mem o taken
  mem_own l taken own p o e m = (Mem-filter (is_from p) o taken (subst (λ (os : List Op). Mem o os) (sym (own p)) (mem_for c.lanes l o (ops_by c puts p) e m))).0

  distinct_own : (l : ℕ) (taken : List Op) → IsOwn l taken → ((p : ℕ) → AreNumberedBy p 1 (ops_by c puts p)) → HasDistinctNames taken
  distinct_own l taken own numbered = distinct_all taken (λ p. subst (λ (os : List Op). AllDistinct (map name_of os)) (sym (own p)) (distinct_numbered c.lanes l p 1 (ops_by c puts p) (numbered p)))

  on_put : (l : ℕ) (taken : List Op) (r : Report) → IsOwn l taken → IsOnTaken taken r → IsOnPut c puts l r
  on_put l taken r own y =
      let m = own_taken l taken own y.op y.was_taken in
      record { op = y.op; producer = y.op.producer; was_put = m.0; of_lane = m.1; name = y.name; document = y.document }

  -- one name is reported by one lane
  one_lane : ((p : ℕ) → AreNumberedBy p 1 (ops_by c puts p)) → (l m : ℕ) (r q : Report) → IsOnPut c puts l r → IsOnPut c puts m q → r.name ≡ q.name → l ≡ m
  one_lane numbered l m r q x y e =
      let same : name_of x.op ≡ name_of y.op = sym x.name ∙ e ∙ y.name in
      let px = own_producer x.producer 1 x.op (ops_by c puts x.producer) (numbered x.producer) x.was_put in
      let py = own_producer y.producer 1 y.op (ops_by c puts y.producer) (numbered y.producer) y.was_put in
      let p : y.producer ≡ x.producer = sym py ∙ sym (ap (λ (n : OpName). n.producer) same) ∙ px in
      let one = same_number x.producer 1 x.op y.op (ops_by c puts x.producer) (numbered x.producer) x.was_put (subst (λ (n : ℕ). Mem y.op (ops_by c puts n)) p y.was_put) (ap (λ (n : OpName). n.number) same) in
      sym x.of_lane ∙ ap (λ (o : Op). lane_of c.lanes (document_of o.key)) one ∙ y.of_lane

-- ---- one lane

none_applied : (ws : List Write) (os : List Op) → SameActions os ws → ((o : Op) → Mem o os → ⊥) → ws ≡ []
none_applied [] os same none = refl
none_applied (w ∷ ws) [] same none = absurd same
none_applied (w ∷ ws) (o ∷ os) same none = absurd (none o (inl refl))

module _ {W : Type 0} (describes : W → Bool) (fits : W → Outside → Type 0) (carries : W → Exchange → W → Type 0) (c : RelayConfig) (puts : ℕ → List Op) (rows : List (List ClosedEnd)) (wires : List W) (lanes : List (LaneSummary W)) where
  -- how a lane and an outside ended
  record EndOfLane (l : ℕ) (taken : List Op) (before : Outside) : Type 0 where
    after : Outside
    ends : (s : LaneSummary W) → slice_get lanes l ≡ Some s → EndsBeside fits s before after
    ops : Document → List Op
    sound : IsSound (config_of c) taken (reports_at lanes l) after ops
    complete : IsComplete taken (reports_at lanes l) ops

  -- what is known of a lane, and also of a number past the last lane
  record OfLane (l : ℕ) : Type 0 where
    taken : List Op
    own : IsOwn c puts l taken
    count : (s : LaneSummary W) → slice_get lanes l ≡ Some s → s.taken ≡ length taken
    named : (r : Report) → Mem r (reports_at lanes l) → IsOnTaken taken r
    once : AllDistinct (names_of (reports_at lanes l))
    delivers : (before : Outside) → ((start : W) → slice_get wires l ≡ Some start → BeginsBeside describes fits c start before) → EndOfLane l taken before

  reports_are : (ss : List (LaneSummary W)) (l : ℕ) (s : LaneSummary W) → slice_get ss l ≡ Some s → reports_at ss l ≡ map report_of s.reports.items
  reports_are [] l s e = absurd (cc)
  reports_are (x ∷ ss) zero s e = ap (λ (y : LaneSummary W). map report_of y.reports.items) (some_same x s e)
  reports_are (x ∷ ss) (suc l) s e = reports_are ss l s e

  of_some : (l : ℕ) (start : W) (s : LaneSummary W) → slice_get wires l ≡ Some start → slice_get lanes l ≡ Some s → ((p : ℕ) → AreNumberedBy p 1 (ops_by c puts p)) → DeliveredLane describes fits carries c puts rows l start s → OfLane l
  of_some l start s wire at numbered d =
      let took = puts_of d.finished.messages in
      let own = is_own c puts l took d.own d.no_other in
      let is = reports_are lanes l s at in
      let same = is ∙ d.finished.reached.reports in
      record {
        taken = took;
        own = own;
        count = λ t e. subst (λ (x : LaneSummary W). x.taken ≡ length took) (some_same s t (sym at ∙ e)) d.finished.taken;
        named = λ r m. reports_taken d.finished.reached.state took d.finished.reached.reached r (subst (λ (rs : List Report). Mem r rs) same m);
        once = subst (λ (rs : List Report). AllDistinct (names_of rs)) (sym same) (reports_once d.finished.reached.state took d.finished.reached.reached (distinct_own c puts l took own numbered));
        delivers = λ before begun.
            let b = begun start wire in
            let x = d.delivers b.is_described before b.fitting b.opening b.below in
            record {
              after = x.outside;
              ends = λ t e. subst (λ (y : LaneSummary W). EndsBeside fits y before x.outside) (some_same s t (sym at ∙ e))
                  (record { fitting = x.fitting; continues = x.continues; requests = x.requests; applied = x.applied; already = x.already });
              ops = applied_ops (config_of c) took x.outside;
              sound = subst (λ (rs : List Report). IsSound (config_of c) took rs x.outside (applied_ops (config_of c) took x.outside)) (sym is) x.sound;
              complete = subst (λ (rs : List Report). IsComplete took rs (applied_ops (config_of c) took x.outside)) (sym is) x.complete;
            };
      }

  abbrev nothing : Outside
  nothing = record { requests = []; runs = []; stored = λ k. None; before = λ k. []; applied = λ k. [] }

  of_none : (l : ℕ) → slice_get lanes l ≡ None → reports_at lanes l ≡ [] → 0 < c.lanes → c.lanes ≤ l → OfLane l
  of_none l at is some past =
      record {
        taken = [];
        own = λ p. sym (for_none c.lanes l (ops_by c puts p) some past);
        count = λ t e. absurd (cc (at, e));
        named = λ r m. absurd (subst (λ (rs : List Report). Mem r rs) is m);
        once = subst (λ (rs : List Report). AllDistinct (names_of rs)) (sym is) tt;
        delivers = λ before begun. record {
          after = nothing;
          ends = λ t e. absurd (cc (at, e));
          ops = λ k. [];
          sound = record {
            attribution = λ k. record { actions = tt; distinct = tt; accepted_each = λ o m. absurd m; of_document = λ o m. absurd m };
            in_order = λ k p. tt;
            versions = λ o. None;
            assignment = λ a b v ea eb doc. absurd (cc (ea));
            assigned = λ place o e. absurd (cc (e));
            true_reports = λ r m. absurd (subst (λ (rs : List Report). Mem r rs) is m);
            once = subst (λ (rs : List Report). AllDistinct (names_of rs)) (sym is) tt;
          };
          complete = λ o m. absurd m;
        };
      }

  -- if a number is that of a lane, and if it is not
  record IsLaneAt (ws : List W) (ss : List (LaneSummary W)) (lane i : ℕ) : Type 0 where
    start : W
    summary : LaneSummary W
    wire_at : slice_get ws i ≡ Some start
    summary_at : slice_get ss i ≡ Some summary
    delivered : DeliveredLane describes fits carries c puts rows (lane + i) start summary

  record IsPast (ws : List W) (ss : List (LaneSummary W)) (i : ℕ) : Type 0 where
    past : length ws ≤ i
    none_at : slice_get ss i ≡ None
    no_reports : reports_at ss i ≡ []

  find : (lane : ℕ) (ws : List W) (ss : List (LaneSummary W)) → AllDelivered describes fits carries c puts rows lane ws ss → (i : ℕ) → IsLaneAt ws ss lane i ⊎ IsPast ws ss i
  find lane [] [] d i = inr (record { past = omega arith; none_at = refl; no_reports = refl })
  find lane [] (s ∷ ss) d i = absurd d
  find lane (w ∷ ws) [] d i = absurd d
  find lane (w ∷ ws) (s ∷ ss) d zero =
      let same : lane ≡ lane + 0 = omega arith in
      inl (record { start = w; summary = s; wire_at = refl; summary_at = refl; delivered = subst (λ (n : ℕ). DeliveredLane describes fits carries c puts rows n w s) same d.0 })
  find lane (w ∷ ws) (s ∷ ss) d (suc i) =
      ⊎_elim (λ (x : IsLaneAt ws ss (lane + 1) i).
      let same : (lane + 1) + i ≡ lane + suc i = omega arith in
      inl (record { start = x.start; summary = x.summary; wire_at = x.wire_at; summary_at = x.summary_at; delivered = subst (λ (n : ℕ). DeliveredLane describes fits carries c puts rows n x.start x.summary) same x.delivered }))
      (λ (x : IsPast ws ss i). let le = x.past in inr (record { past = omega (arith, le); none_at = x.none_at; no_reports = x.no_reports }))
      (find (lane + 1) ws ss d.1 i)

  each_lane : 0 < c.lanes → length wires ≡ c.lanes → ((p : ℕ) → AreNumberedBy p 1 (ops_by c puts p)) → AllDelivered describes fits carries c puts rows 0 wires lanes → (l : ℕ) → OfLane l
  each_lane some long numbered d l =
      ⊎_elim (λ (x : IsLaneAt wires lanes 0 l).
      let same : 0 + l ≡ l = omega arith in
      of_some l x.start x.summary x.wire_at x.summary_at numbered (subst (λ (n : ℕ). DeliveredLane describes fits carries c puts rows n x.start x.summary) same x.delivered))
      (λ (x : IsPast wires lanes l). let le = x.past in of_none l x.none_at x.no_reports some (omega (arith, le, long)))
      (find 0 wires lanes d l)

  as_long : (lane : ℕ) (ws : List W) (ss : List (LaneSummary W)) → AllDelivered describes fits carries c puts rows lane ws ss → length ss ≡ length ws
  as_long lane [] [] d = refl
  as_long lane [] (s ∷ ss) d = absurd d
  as_long lane (w ∷ ws) [] d = absurd d
  as_long lane (w ∷ ws) (s ∷ ss) d = ap suc (as_long (lane + 1) ws ss d.1)

  -- ---- all lanes

  module _ (numbered : (p : ℕ) → AreNumberedBy p 1 (ops_by c puts p)) (each : (l : ℕ) → OfLane l) where
    abbrev all_taken : ℕ → List Op
    all_taken l = (each l).taken

    lane_is : (l : ℕ) (o : Op) → Mem o (all_taken l) → lane_of c.lanes (document_of o.key) ≡ l
    lane_is l o m = (own_taken c puts l (all_taken l) (each l).own o m).1

    names_put : (l : ℕ) (r : Report) → Mem r (reports_at lanes l) → IsOnPut c puts l r
    names_put l r m = on_put c puts l (all_taken l) r (each l).own ((each l).named r m)

    reported_once : AreReportedOnce c puts lanes
    reported_once = record {
      named = names_put;
      once = λ l. (each l).once;
      in_one_lane = λ l m r q a b e. one_lane c puts numbered l m r q (names_put l r a) (names_put m q b) e;
    }

    module _ (before : ℕ → Outside) (ends : (l : ℕ) → EndOfLane l (all_taken l) (before l)) where
      abbrev all_after : ℕ → Outside
      all_after l = (ends l).after

      abbrev all_ops : Document → List Op
      all_ops k = (ends (lane_of c.lanes k)).ops k

      abbrev all_versions : Op → Option ℕ
      all_versions o = (ends (lane_of c.lanes (document_of o.key))).sound.versions o

      attributed_of : (l : ℕ) (k : Document) → IsAttribution (ops_by c puts) k ((all_after l).applied k) ((ends l).ops k)
      attributed_of l k =
          let a = (ends l).sound.attribution k in
          record {
            actions = a.actions;
            distinct = a.distinct;
            accepted_each = λ o m. let x = a.accepted_each o m in (x.0, (own_mem c puts l (all_taken l) (each l).own x.0 o x.1).0);
            of_document = a.of_document;
          }

      ordered_of : (l : ℕ) (k : Document) → IsInProducerOrder (ops_by c puts) ((ends l).ops k)
      ordered_of l k p = sub_joined (filter (is_from p) ((ends l).ops k)) (ops_for c.lanes l (ops_by c puts p)) (ops_by c puts p)
          (subst (λ (os : List Op). IsSubsequence (filter (is_from p) ((ends l).ops k)) os) ((each l).own p) ((ends l).sound.in_order k p))
          (for_sub c.lanes l (ops_by c puts p))

      elsewhere : (l : ℕ) (k : Document) → lane_of c.lanes k ≢ l → (all_after l).applied k ≡ []
      elsewhere l k ne =
          let a = (ends l).sound.attribution k in
          none_applied ((all_after l).applied k) ((ends l).ops k) a.actions (λ o m.
          let x = a.accepted_each o m in
          let e = (own_mem c puts l (all_taken l) (each l).own x.0 o x.1).1 in
          ne (sym (ap (lane_of c.lanes) (a.of_document o m)) ∙ e))

      true_of : (l : ℕ) (r : Report) → Mem r (reports_at lanes l) → IsTrueTogether c puts all_taken all_after all_versions l r
      unfolding on_put
      true_of l r m =
          let t = (ends l).sound.true_reports r m in
          let x = on_put c puts l (all_taken l) r (each l).own (record { op = t.op; was_taken = t.was_taken; name = t.name; document = t.document }) in
          record {
            on_put = x;
            cause = subst (λ (n : ℕ). IsTrueCause (terms_of (config_of c) (all_taken l)) (all_after l) t.op ((ends n).sound.versions t.op) r.cause) (sym x.of_lane) t.cause;
          }

      sound_together : IsSoundTogether c puts lanes all_taken all_after all_ops
      sound_together = record {
        attribution = λ k. attributed_of (lane_of c.lanes k) k;
        in_order = λ k. ordered_of (lane_of c.lanes k) k;
        no_other_lane = elsewhere;
        versions = all_versions;
        assignment = λ a b v ea eb doc.
            (ends (lane_of c.lanes (document_of a.key))).sound.assignment a b v ea
            (subst (λ (k : Document). (ends (lane_of c.lanes k)).sound.versions b ≡ Some v) (sym doc) eb) doc;
        assigned = λ l place o e.
            subst (λ (n : ℕ). (ends n).sound.versions o ≡ assigned_at (config_of c) place) (sym (lane_is l o (at-Mem (all_taken l) place o e)))
            ((ends l).sound.assigned place o e);
        true_reports = true_of;
      }

      complete_together : IsCompleteTogether c puts lanes all_ops
      complete_together p o m =
          let l = lane_of c.lanes (document_of o.key) in
          (ends l).complete o (mem_own c puts l (all_taken l) (each l).own p o refl m)

      deliver_together : DeliversTogether fits c puts lanes all_taken before
      deliver_together = record {
        after = all_after;
        ends = λ l s e. (ends l).ends s e;
        ops = all_ops;
        sound = sound_together;
        complete = complete_together;
      }

    all_together : length lanes ≡ c.lanes → AreDeliveredTogether describes fits c puts wires lanes
    all_together all = record {
      all_lanes = all;
      taken = all_taken;
      own = λ l. (each l).own;
      count = λ l. (each l).count;
      reports = reported_once;
      delivers = λ before begun. deliver_together before (λ l. (each l).delivers (before l) (begun l));
    }

  pub delivered_together : (cs : List ClosedProducerState) → length cs ≡ c.producers → HavePut puts 0 cs → 0 < c.lanes → length wires ≡ c.lanes → AllDelivered describes fits carries c puts rows 0 wires lanes → AreDeliveredTogether describes fits c puts wires lanes
  delivered_together cs n h some long d =
      let numbered = all_numbered c puts cs n h in
      all_together numbered (each_lane some long numbered d) (as_long 0 wires lanes d ∙ long)
