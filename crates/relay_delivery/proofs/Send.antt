-- A lane sends a request.
use Rattle.std.proofs.Common.{◌≡◌, ℕ, suc, ◌≤◌, List, [], ◌∷◌, ◌++◌, length, Option, Some, None, Bool, true, false, ◌==◌, refl, sym, ap, ◌∙◌, subst, ⊎_elim, inl, inr, arith}
use Rattle.std.specs.Prelude.{slice_get, option_map, if◌then◌else◌, map, ◌&&◌}
use Rattle.relay_action.specs.declared.write.Write.{Write}
use Rattle.relay_action.specs.declared.operation.Op.{Op}
use Rattle.relay_action.specs.declared.operation.OpName.{OpName}
use Rattle.relay_results.specs.declared.outcome.Outcome.{Outcome}
use Rattle.relay_results.specs.Words.{Mem, count, one_if}
use Rattle.relay_results.specs.Documents.{Document, document_of, write_for}
use Rattle.relay_results.specs.Outside.{Request, Unanswered, Ran, Outside}
use Rattle.relay_results.specs.declared.cause.Cause.{Cause}
use Rattle.relay_results.specs.declared.cause.Cause.TheVariants as cause
use Rattle.relay_delivery.specs.Causes.{carries, is_try, CarriedAt, IsAnswered, IsTrueOf}
use Rattle.relay_results.proofs.Same.{same_write-true}
use Rattle.relay_delivery.specs.Machine.{fewest, Config, Core, Held, write_of, place_of, launched_at, after_launch, send, IsEligible, MaySend}
use Rattle.relay_results.proofs.Lists.{true_or_false, equal, equal_test, at-left, at-last, at-cases, at-Mem, at-map, map-at, Mem-map, map-Mem, count-push, distinct_places, some_same}
use Rattle.relay_delivery.proofs.Facts.{Past, IsOfOne, IsSent, IsFlying, HeldFact, RunFact, IndexFact, AreRising, CoreFacts, is_held_as}
use Rattle.relay_delivery.proofs.Dealt.{of_held, carried_at, carries_at, carries_its, sent-push_cases}

-- ---- places

-- the operation at the place has the version
record AtPlace (hs : List Held) (version place : ℕ) : Type 0 where
  held : Held
  stands : slice_get hs place ≡ Some held
  version_is : held.version ≡ version

place_next : (h : Held) (hs : List Held) (v place : ℕ) (p : Option ℕ) → ((n : ℕ) → p ≡ Some n → AtPlace hs v n) → option_map suc p ≡ Some place → AtPlace (h ∷ hs) v place
place_next h hs v place None rest e = absurd (cc)
place_next h hs v place (Some n) rest e =
    let a = rest n refl in
    let same : suc n ≡ place = some_same (suc n) place e in
    subst (λ m. AtPlace (h ∷ hs) v m) same (record { held = a.held; stands = a.stands; version_is = a.version_is })

place_if : (b : Bool) (h : Held) (hs : List Held) (v place : ℕ) → (h.version == v) ≡ b → ((n : ℕ) → place_of v hs ≡ Some n → AtPlace hs v n) → (if b then Some 0 else option_map suc (place_of v hs)) ≡ Some place → AtPlace (h ∷ hs) v place
place_if true h hs v place t rest e =
    subst (λ m. AtPlace (h ∷ hs) v m) (some_same 0 place e) (record { held = h; stands = refl; version_is = equal h.version v t })
place_if false h hs v place t rest e = place_next h hs v place (place_of v hs) rest e

at_place : (hs : List Held) (v place : ℕ) → place_of v hs ≡ Some place → AtPlace hs v place
at_place [] v place e = absurd (cc)
at_place (h ∷ hs) v place e = place_if (h.version == v) h hs v place refl (at_place hs v) e

none_next : (p : Option ℕ) → option_map suc p ≡ None → p ≡ None
none_next None e = refl
none_next (Some n) e = absurd (cc)

no_place_if : (b : Bool) (h : Held) (hs : List Held) (v : ℕ) → (h.version == v) ≡ b → (if b then Some 0 else option_map suc (place_of v hs)) ≡ None → (b ≡ false) × (place_of v hs ≡ None)
no_place_if true h hs v t e = absurd (cc)
no_place_if false h hs v t e = (refl, none_next (place_of v hs) e)

pub no_place : (hs : List Held) (v : ℕ) → place_of v hs ≡ None → (k : Held) → Mem k hs → k.version ≡ v → ⊥
no_place [] v e k m same = m
no_place (h ∷ hs) v e k m same =
    let n = no_place_if (h.version == v) h hs v refl e in
    ⊎_elim
    (λ q. let t = equal_test h.version v (ap (λ (x : Held). x.version) (sym q) ∙ same) in absurd (cc (t, n.0)))
    (λ r. no_place hs v n.1 k r same)
    m

pub launched_op : (n : ℕ) (h : Held) (p : Option ℕ) → (launched_at n h p).op ≡ h.op
launched_op n h None = refl
launched_op n h (Some p) = refl

pub launched_version : (n : ℕ) (h : Held) (p : Option ℕ) → (launched_at n h p).version ≡ h.version
launched_version n h None = refl
launched_version n h (Some p) = refl

length-map : {A B : Type 0} (f : A → B) (xs : List A) → length (map f xs) ≡ length xs
length-map f [] = refl
length-map f (x ∷ xs) = ap suc (length-map f xs)

pub rising-sent : (n : ℕ) (chosen hs : List Held) → AreRising hs → AreRising (map (after_launch n chosen) hs)
rising-sent n chosen [] r = tt
rising-sent n chosen (h ∷ hs) r = (
  (λ z m.
      let k = Mem-map (after_launch n chosen) z hs m in
      let v = ap (λ (x : Held). x.version) k.2 ∙ launched_version n k.0 (place_of k.0.version chosen) in
      let w = launched_version n h (place_of h.version chosen) in
      let lt = r.0 k.0 k.1 in omega (arith, v, w, lt)),
  rising-sent n chosen hs r.1,
)

count-sent : (o : OpName) (n : ℕ) (chosen hs : List Held) → count (is_held_as o) (map (after_launch n chosen) hs) ≡ count (is_held_as o) hs
count-sent o n chosen [] = refl
count-sent o n chosen (h ∷ hs) =
    let e = ap (λ (x : Op). one_if (is_held_as o (record { op = x; version = h.version; sends = 0; attempts = 0; cap = 0; flies = None }))) (launched_op n h (place_of h.version chosen)) in
    let r = count-sent o n chosen hs in omega arith

-- one that was chosen by its version is at that place, and waited
pub record IsAmong (chosen : List Held) (h : Held) (place : ℕ) : Type 0 where
  pub stands : slice_get chosen place ≡ Some h
  pub waits : h.flies ≡ None

pub launched_among : (held chosen : List Held) → ((h j : Held) → Mem h held → Mem j held → h.version ≡ j.version → h ≡ j) → ((h : Held) → Mem h chosen → IsEligible held h)
    → (h : Held) → Mem h held → (place : ℕ) → place_of h.version chosen ≡ Some place → IsAmong chosen h place
launched_among held chosen alone eligible h m place e =
    let a = at_place chosen h.version place e in
    let el = eligible a.held (at-Mem chosen place a.held a.stands) in
    let same = alone a.held h el.is_held m a.version_is in
    record {
      stands = a.stands ∙ ap Some same;
      waits = subst (λ (k : Held). k.flies ≡ None) same el.waits;
    }

-- ---- the new request

module _ (g : Config) (past : Past) (c : Core) (f : CoreFacts g past c) (chosen : List Held) (may : MaySend c chosen) where
  abbrev requests : List Request
  requests = c.outside.requests

  new : Request
  new = record { writes = map write_of chosen; answer = Unanswered }

  -- an item of the new request is that of a held operation
  record IsChosen (w : Write) : Type 0 where
    held : Held
    chosen_one : Mem held chosen
    write : w ≡ write_of held

  chosen_of : (w : Write) → Mem w (map write_of chosen) → IsChosen w
  chosen_of w m = let h = Mem-map write_of w chosen m in record { held = h.0; chosen_one = h.1; write = h.2 }

  -- what the new request carries has the version of an operation that was chosen, at its place
  record IsCarriedBy (w : Write) (place : ℕ) : Type 0 where
    held : Held
    stands : slice_get chosen place ≡ Some held
    version : held.version ≡ w.version

  carried_by : (w : Write) (number place : ℕ) (rs : List Request) → CarriedAt rs w number place new → IsCarriedBy w place
  unfolding new
  carried_by w number place rs k =
      let h = map-at write_of chosen place k.write k.stands in
      let v = (same_write-true w k.write k.same).version in
      record { held = h.0; stands = h.1; version = ap (λ (x : Write). x.version) h.2 ∙ sym v }

  version_at : (place : ℕ) (h : Held) (v : ℕ) → slice_get chosen place ≡ Some h → h.version ≡ v → slice_get (map (λ (k : Held). k.version) chosen) place ≡ Some v
  version_at place h v s e = at-map (λ (k : Held). k.version) chosen place h s ∙ ap Some e

  carries_none : (w : Write) → ((h : Held) → Mem h chosen → h.version ≡ w.version → ⊥) → carries w new ≡ false
  carries_none w none = ⊎_elim
      (λ y.
      let k = carried_at (new ∷ []) 0 new w refl y in
      let b = carried_by w 0 k.0 (new ∷ []) k.1 in
      absurd (none b.held (at-Mem chosen k.0 b.held b.stands) b.version))
      (λ e. e)
      (true_or_false (carries w new))

  new_last : (h : Held) → Mem h c.held → (w : Write) → IsSent (requests ++ new ∷ []) w → document_of w.key ≡ document_of h.op.key → w.version ≤ h.version
  unfolding new
  new_last h m w s doc = ⊎_elim
      (λ old. (f.held h m).last w old doc)
      (λ y.
      let k = chosen_of w y in
      let v = ap (λ (x : Write). x.version) k.write in
      let same : document_of h.op.key ≡ document_of k.held.op.key = sym doc ∙ ap (λ (x : Write). document_of x.key) k.write in
      let le = (may.eligible k.held k.chosen_one).first h m same in
      omega (arith, v, le))
      (sent-push_cases requests new w s)

  pub record IsLaunched (h : Held) (place : ℕ) : Type 0 where
    pub stands : slice_get chosen place ≡ Some h
    pub waits : h.flies ≡ None

  pub launched_here : (h : Held) → Mem h c.held → (place : ℕ) → place_of h.version chosen ≡ Some place → IsLaunched h place
  launched_here h m place e =
      let l = launched_among c.held chosen f.alone may.eligible h m place e in record { stands = l.stands; waits = l.waits }

  held-chosen : (h : Held) → Mem h c.held → (place : ℕ) → place_of h.version chosen ≡ Some place → HeldFact g c.taken (requests ++ new ∷ []) (launched_at (length requests) h (Some place))
  unfolding new
  held-chosen h m place e =
      let k = f.held h m in
      let l = launched_here h m place e in
      let carried = carries_its (write_of h) new (map-Mem write_of h chosen (at-Mem chosen place h l.stands)) in
      record {
        dealt = k.dealt;
        sends = let x = count-push (carries (write_of h)) requests new in let o = ap one_if carried in let s = k.sends in omega arith;
        attempts = let x = count-push (is_try (write_of h)) requests new in let o = ap (λ b. one_if (b && true)) carried in let s = k.attempts in omega arith;
        retried = λ number p q y. ⊎_elim
            (λ old. ⊎_elim
            (λ r. inl r)
            (λ w. absurd (cc (w, l.waits)))
            (k.retried number p q (record { write = y.write; sent = old; stands = y.stands; same = y.same })))
            (λ d.
            let y' : CarriedAt (requests ++ new ∷ []) (write_of h) number p new = subst (λ z. CarriedAt (requests ++ new ∷ []) (write_of h) number p z) d.1 y in
            let b = carried_by (write_of h) number p (requests ++ new ∷ []) y' in
            let same = distinct_places (map (λ (j : Held). j.version) chosen) place p h.version may.distinct (version_at place h h.version l.stands refl) (version_at p b.held h.version b.stands b.version) in
            inr (λ i. Some (record { request = sym d.0 i; place = same i })))
            (at-cases requests new number q y.sent);
        flying = λ at e'. subst (λ z. IsFlying (requests ++ new ∷ []) (write_of h) z) (some_same (record { request = length requests; place = place }) at e')
            (record { request = new; sent = at-last requests new; stands = at-map write_of chosen place h l.stands; unanswered = refl });
        last = new_last h m;
      }

  held-other : (h : Held) → Mem h c.held → place_of h.version chosen ≡ None → HeldFact g c.taken (requests ++ new ∷ []) h
  unfolding new
  held-other h m e =
      let k = f.held h m in
      let none = no_place chosen h.version e in
      let carried = carries_none (write_of h) none in
      record {
        dealt = k.dealt;
        sends = let x = count-push (carries (write_of h)) requests new in let o = ap one_if carried in let s = k.sends in omega arith;
        attempts = let x = count-push (is_try (write_of h)) requests new in let s = k.attempts in omega arith;
        retried = λ number p q y. ⊎_elim
            (λ old. k.retried number p q (record { write = y.write; sent = old; stands = y.stands; same = y.same }))
            (λ d.
            let y' : CarriedAt (requests ++ new ∷ []) (write_of h) number p new = subst (λ z. CarriedAt (requests ++ new ∷ []) (write_of h) number p z) d.1 y in
            let b = carried_by (write_of h) number p (requests ++ new ∷ []) y' in
            absurd (none b.held (at-Mem chosen p b.held b.stands) b.version))
            (at-cases requests new number q y.sent);
        flying = λ at e'. let r = k.flying at e' in record { request = r.request; sent = at-left requests (new ∷ []) at.request r.request r.sent; stands = r.stands; unanswered = r.unanswered };
        last = new_last h m;
      }

  held-one : (h : Held) → Mem h c.held → (p : Option ℕ) → place_of h.version chosen ≡ p → HeldFact g c.taken (requests ++ new ∷ []) (launched_at (length requests) h p)
  held-one h m None e = held-other h m e
  held-one h m (Some place) e = held-chosen h m place e

  -- ---- the causes of reports stay true

  abbrev later : Outside
  later = record { requests = c.outside.requests ++ new ∷ []; runs = c.outside.runs; stored = c.outside.stored; before = c.outside.before; applied = c.outside.applied }

  answered-sent : (w : Write) (o : Outcome) → IsAnswered c.outside w o → IsAnswered later w o
  answered-sent w o a = record {
    number = a.number;
    place = a.place;
    request = a.request;
    carried = record { write = a.carried.write; sent = at-left requests (new ∷ []) a.number a.request a.carried.sent; stands = a.carried.stands; same = a.carried.same };
    says = a.says;
    ran = a.ran;
  }

  cause-sent : (max : ℕ) (w : Write) (e : Cause) → carries w new ≡ false → IsTrueOf max c.outside w e → IsTrueOf max later w e
  cause-sent max w (cause.Refused status kind reason) nc h = record { outcome = h.outcome; answered = answered-sent w h.outcome h.answered; refused = h.refused; status_is = h.status_is; kind_is = h.kind_is; reason_is = h.reason_is }
  cause-sent max w (cause.Request status reason) nc h = record {
    number = h.number;
    place = h.place;
    request = h.request;
    carried = record { write = h.carried.write; sent = at-left requests (new ∷ []) h.number h.request h.carried.sent; stands = h.carried.stands; same = h.carried.same };
    given = h.given;
    answer = h.answer;
    reason_is = h.reason_is;
    final = h.final;
  }
  cause-sent max w (cause.Conflict stored reason) nc h = record { outcome = h.outcome; answered = answered-sent w h.outcome h.answered; conflict = h.conflict; stored_is = h.stored_is; reason_is = h.reason_is; other = ⊎_elim (λ k. inl (let e = count-push (carries w) requests new in let o = ap one_if nc in omega (arith, e, o, k))) (λ o. inr o) h.other }
  cause-sent max w (cause.GaveUp sends tried) nc h = record {
    exactly = let e = count-push (carries w) requests new in let o = ap one_if nc in let k = h.exactly in omega arith;
    enough = let e = count-push (is_try w) requests new in let k = h.enough in omega arith;
    each = λ number place q y. ⊎_elim
        (λ old. h.each number place q (record { write = y.write; sent = old; stands = y.stands; same = y.same }))
        (λ d.
        let t' = carries_at (requests ++ new ∷ []) number place q w y in
        let e = ap (carries w) d.1 in absurd (cc (t', e, nc)))
        (at-cases requests new number q y.sent);
  }
  cause-sent max w cause.Spent nc h = h

  run-sent : (r : Ran) → RunFact past.versions requests c.outside.stored c.outside.applied r → RunFact past.versions (requests ++ new ∷ []) c.outside.stored c.outside.applied r
  run-sent r h = record { request = h.request; write = h.write; sent = at-left requests (new ∷ []) r.request h.request h.sent; stands = h.stands; if_applied = h.if_applied; if_conflict = h.if_conflict; if_stated = h.if_stated }

  sent-more : (w : Write) → IsSent requests w → IsSent (requests ++ new ∷ []) w
  sent-more w s = record { number = s.number; request = s.request; sent = at-left requests (new ∷ []) s.number s.request s.sent; is_in = s.is_in }

  index-sent : (k : Document) (stored : Option ℕ) (applied : List Write) → IndexFact past.versions requests stored applied k → IndexFact past.versions (requests ++ new ∷ []) stored applied k
  index-sent k stored applied h = record { sent = λ w m. sent-more w (h.sent w m); document = h.document; rising = h.rising; above = h.above; from = h.from }

  pub send_keeps : CoreFacts g past (send chosen c)
  unfolding new
  send_keeps = record {
    past_below = f.past_below;
    held = λ h m.
        let k = Mem-map (after_launch (length requests) chosen) h c.held m in
        subst (λ j. HeldFact g c.taken (requests ++ new ∷ []) j) (sym k.2) (held-one k.0 k.1 (place_of k.0.version chosen) refl);
    alone = λ h j mh mj e.
        let k = Mem-map (after_launch (length requests) chosen) h c.held mh in
        let l = Mem-map (after_launch (length requests) chosen) j c.held mj in
        let vh = ap (λ (x : Held). x.version) k.2 ∙ launched_version (length requests) k.0 (place_of k.0.version chosen) in
        let vj = ap (λ (x : Held). x.version) l.2 ∙ launched_version (length requests) l.0 (place_of l.0.version chosen) in
        let same = f.alone k.0 l.0 k.1 l.1 (sym vh ∙ e ∙ vj) in
        k.2 ∙ ap (after_launch (length requests) chosen) same ∙ sym l.2;
    in_rise = rising-sent (length requests) chosen c.held f.in_rise;
    sent = λ w s. ⊎_elim
        (λ old. f.sent w old)
        (λ y.
        let k = chosen_of w y in
        let el = may.eligible k.held k.chosen_one in
        inl (subst (λ z. IsOfOne g c.taken z) (sym k.write) (of_held g c.taken requests k.held (f.held k.held el.is_held))))
        (sent-push_cases requests new w s);
    runs = λ r m. run-sent r (f.runs r m);
    index = λ k. index-sent k (c.outside.stored k) (c.outside.applied k) (f.index k);
    reports = λ p m. ⊎_elim
        (λ s. inl s)
        (λ s. inr (record {
          op = s.op;
          name = s.name;
          document = s.document;
          version = s.version;
          dealt = s.dealt;
          settled = λ h mh e.
              let k = Mem-map (after_launch (length requests) chosen) h c.held mh in
              let v = ap (λ (x : Held). x.version) k.2 ∙ launched_version (length requests) k.0 (place_of k.0.version chosen) in
              s.settled k.0 k.1 (sym v ∙ e);
          cause = cause-sent (fewest g) (write_for s.op s.version) p.cause (carries_none (write_for s.op s.version) (λ h mh v. s.settled h (may.eligible h mh).is_held v)) s.cause;
        }))
        (f.reports p m);
    apart = λ o. let e = count-sent o (length requests) chosen c.held in let a = f.apart o in omega arith;
    totals = let e = length-map (after_launch (length requests) chosen) c.held in let t = f.totals in omega (arith, e, t);
    nothing_lost = λ tells place o s. ⊎_elim
        (λ h. inl (record { held_op = after_launch (length requests) chosen h.held_op; is_in = map-Mem (after_launch (length requests) chosen) h.held_op c.held h.is_in; version = launched_version (length requests) h.held_op (place_of h.held_op.version chosen) ∙ h.version }))
        (λ y. inr y)
        (f.nothing_lost tells place o s);
  }
