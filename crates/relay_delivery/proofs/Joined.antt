-- What is promised of all accepted operations, lane by lane.
use Rattle.std.proofs.Common.{◌≡◌, ℕ, List, [], ◌∷◌, ◌++◌, Option, Bool, true, false, ◌==◌, refl, sym, ap, ◌∙◌, subst, ⊎_elim}
use Rattle.std.specs.Prelude.{◌⊎◌, filter, if◌then◌else◌}
use Rattle.relay_action.specs.declared.write.Write.{Write}
use Rattle.relay_action.specs.declared.operation.Op.{Op}
use Rattle.relay_results.specs.Words.{Mem, AllDistinct, IsSubsequence}
use Rattle.relay_results.specs.Documents.{Document, document_of, name_of}
use Rattle.relay_results.proofs.Lists.{equal, equal_test, Mem-at, Mem-cases, Mem-filter, filter-Mem, sub-left, sub-filter, sub_joined, sub_itself, filter_sub}
use Rattle.relay_delivery.specs.Attribution.{is_from}
use Rattle.relay_delivery.specs.Causes.{IsAssignment, IsTrueCause}
use Rattle.relay_delivery.specs.Machine.{Config, Report}
use Rattle.relay_delivery.specs.Delivery.{terms_of, names_of}
use Rattle.relay_delivery.specs.Lanes.{Lanes, Move, Puts, Closes, Fetches, Steps, after_fetch, move, MayMove, IsFinished, NothingAfterClose}
use Rattle.relay_delivery.proofs.Versions.{version_in, is_assignment}
use Rattle.relay_delivery.proofs.Whole.{IsAppliedAs, reports_true, reports_once, accounted}
use Rattle.relay_delivery.proofs.Queues.{LanesFacts, TellAll, is_for, taken_distinct, was_accepted, one_name}
use Rattle.relay_delivery.proofs.Facts.{Past}

-- a report of a lane is true of the outside of that lane
pub record IsTrueAt (g : Config) (lane_of : Document → ℕ) (w : Lanes) (versions : Op → Option ℕ) (l : ℕ) (r : Report) : Type 0 where
  pub op : Op
  pub producer : ℕ
  pub was_accepted : Mem op (w.accepted producer)
  pub of_lane : lane_of (document_of op.key) ≡ l
  pub name : r.name ≡ name_of op
  pub document : r.document ≡ document_of op.key
  pub cause : IsTrueCause (terms_of g (w.lane l).taken) (w.lane l).outside op (versions op) r.cause

module _ (g : Config) (lane_of : Document → ℕ) (past : ℕ → Past) (w : Lanes) (f : LanesFacts g lane_of past w) where
  -- what a lane took of a producer was accepted from it, in this order
  pub taken_order : (l p : ℕ) → IsSubsequence (filter (is_from p) (w.lane l).taken) (w.accepted p)
  taken_order l p =
      let b = sub-filter (is_from p) (w.lane l).taken ((w.lane l).taken ++ w.queue l) (sub-left (w.lane l).taken (w.lane l).taken (w.queue l) (sub_itself (w.lane l).taken)) in
      let c = subst (λ os. IsSubsequence (filter (is_from p) (w.lane l).taken) os) (f.order l p) b in
      sub_joined (filter (is_from p) (w.lane l).taken) (filter (is_for lane_of l) (w.accepted p)) (w.accepted p) c (filter_sub (is_for lane_of l) (w.accepted p))

  -- one assignment for all lanes
  abbrev pub versions : Op → Option ℕ
  versions o = version_in g.first g.deals (w.lane (lane_of (document_of o.key))).taken o

  pub assignment : IsAssignment versions
  assignment a b v ea eb doc =
      is_assignment g.first g.deals (w.lane (lane_of (document_of a.key))).taken a b v ea
      (ap (λ k. version_in g.first g.deals (w.lane (lane_of k)).taken b) doc ∙ eb) doc

  pub true_report : (l : ℕ) (r : Report) → Mem r (w.lane l).reports → IsTrueAt g lane_of w versions l r
  true_report l r m =
      let t = reports_true g (past l) (w.lane l) (f.lane l) (taken_distinct g lane_of past w f l) r m in
      let a = was_accepted g lane_of past w f l t.op t.was_taken in
      record {
        op = t.op;
        producer = t.op.producer;
        was_accepted = a.0;
        of_lane = a.1;
        name = t.name;
        document = t.document;
        cause = subst (λ n. IsTrueCause (terms_of g (w.lane l).taken) (w.lane l).outside t.op (version_in g.first g.deals (w.lane n).taken t.op) r.cause) (sym a.1) t.cause;
      }

  pub once : (l : ℕ) → AllDistinct (names_of (w.lane l).reports)
  once l = reports_once g (past l) (w.lane l) (f.lane l) (taken_distinct g lane_of past w f l)

  pub in_one_lane : (l m : ℕ) (r s : Report) → Mem r (w.lane l).reports → Mem s (w.lane m).reports → r.name ≡ s.name → l ≡ m
  in_one_lane l m r s mr ms e =
      let a = reports_true g (past l) (w.lane l) (f.lane l) (taken_distinct g lane_of past w f l) r mr in
      let b = reports_true g (past m) (w.lane m) (f.lane m) (taken_distinct g lane_of past w f m) s ms in
      let pa = was_accepted g lane_of past w f l a.op a.was_taken in
      let pb = was_accepted g lane_of past w f m b.op b.was_taken in
      let same = one_name g lane_of past w f a.op b.op pa.0 pb.0 (sym a.name ∙ e ∙ b.name) in
      sym pa.1 ∙ ap (λ (o : Op). lane_of (document_of o.key)) same ∙ pb.1

  -- when all is done, each accepted operation was applied, or is reported
  pub all_accounted : TellAll g past w → IsFinished w → (p : ℕ) (o : Op) → Mem o (w.accepted p)
      → IsAppliedAs g (w.lane (lane_of (document_of o.key))) o ⊎ Mem (name_of o) (names_of (w.lane (lane_of (document_of o.key))).reports)
  all_accounted tells done p o m =
      let l = lane_of (document_of o.key) in
      let from : o.producer ≡ p = at_producer p o m in
      let for_it = filter-Mem (is_for lane_of l) o (w.accepted p) m (equal_test l l refl) in
      let there = (Mem-filter (is_from p) o ((w.lane l).taken ++ w.queue l) (subst (λ os. Mem o os) (sym (f.order l p)) for_it)).0 in
      let took = ⊎_elim {C = Mem o (w.lane l).taken} (λ t. t) (λ q. absurd (subst (λ os. Mem o os) (done.queues l) q)) (Mem-cases o (w.lane l).taken (w.queue l) there) in
      accounted g (past l) (w.lane l) (f.lane l) (taken_distinct g lane_of past w f l) (tells l) (done.lanes l) o took
    where
      at_producer : (p : ℕ) (o : Op) → Mem o (w.accepted p) → o.producer ≡ p
      at_producer p o m = let i = Mem-at o (w.accepted p) m in (f.numbers p i.0 o i.1).0

-- ---- closing

closed_by : (b : Bool) (old : Bool) → old ≡ true → (if b then true else old) ≡ true
closed_by true old e = refl
closed_by false old e = e

put_not : (w : Lanes) (o : Op) (p : ℕ) (b : Bool) → (p == o.producer) ≡ b → w.closed p ≡ true → w.closed o.producer ≡ false → (if b then w.accepted p ++ o ∷ [] else w.accepted p) ≡ w.accepted p
put_not w o p true e c n = let same = ap w.closed (equal p o.producer e) in absurd (cc (c, same, n))
put_not w o p false e c n = refl

fetched_same : (g : Config) (l : ℕ) (w : Lanes) (q : List Op) (p : ℕ) → ((after_fetch g l w q).accepted p ≡ w.accepted p) × ((after_fetch g l w q).closed p ≡ w.closed p)
fetched_same g l w [] p = (refl, refl)
fetched_same g l w (o ∷ os) p = (refl, refl)

move_closed : (g : Config) (lane_of : Document → ℕ) (w : Lanes) (m : Move) (p : ℕ) → MayMove g m w → w.closed p ≡ true → ((move g lane_of m w).closed p ≡ true) × ((move g lane_of m w).accepted p ≡ w.accepted p)
move_closed g lane_of w (Puts o) p may c = (c, put_not w o p (p == o.producer) refl c may.open_yet)
move_closed g lane_of w (Closes q) p may c = (closed_by (p == q) (w.closed p) c, refl)
move_closed g lane_of w (Fetches l) p may c = let s = fetched_same g l w (w.queue l) p in (s.1 ∙ c, s.0)
move_closed g lane_of w (Steps l s) p may c = (c, refl)

pub nothing_after_close : NothingAfterClose
nothing_after_close g lane_of w [] p may c = refl
nothing_after_close g lane_of w (m ∷ ms) p may c =
    let s = move_closed g lane_of w m p may.0 c in
    nothing_after_close g lane_of (move g lane_of m w) ms p may.1 s.0 ∙ s.1
