-- What several lanes and their queues keep: what a lane took of a producer and what is queued of it is what was accepted from it for the lane.
use Rattle.std.proofs.Common.{◌<◌, ◌≡◌, ℕ, zero, suc, ◌+◌, List, [], ◌∷◌, ◌++◌, length, Some, Bool, true, false, ◌==◌, refl, sym, ap, ◌∙◌, subst, ⊎_elim, arith, append_assoc, append-nil}
use Rattle.std.specs.Prelude.{slice_get, map, filter, if◌then◌else◌}
use Rattle.std.proofs.lemmas.List.Elements.{filter-append}
use Rattle.relay_action.specs.declared.write.Write.{Write}
use Rattle.relay_action.specs.declared.operation.Op.{Op}
use Rattle.relay_action.specs.declared.operation.OpName.{OpName}
use Rattle.relay_results.specs.Words.{Mem, AllDistinct}
use Rattle.relay_results.specs.Documents.{Document, document_of, name_of}
use Rattle.relay_delivery.specs.Attribution.{is_from}
use Rattle.relay_delivery.specs.Machine.{Config, Core, Step, Takes, Sends, Runs, Answers, step, MayStep}
use Rattle.relay_delivery.specs.Lanes.{Lanes, Move, Puts, Closes, Fetches, Steps, after_fetch, move, IsInner, MayPut, MayMove, IsStart}
use Rattle.relay_results.proofs.Lists.{true_or_false, equal, equal_test, at-cases, Mem-at, Mem-left, Mem-map, map-Mem, Mem-filter, filter-Mem, distinct_places, at-map, some_same, filter_sub, AllDistinct-sub, sub-map, none_at}
use Rattle.relay_delivery.proofs.Facts.{Past, TellsOwn, CoreFacts}
use Rattle.relay_delivery.proofs.Keeps.{fresh_facts, step_keeps}

abbrev pub is_for : (Document → ℕ) → ℕ → Op → Bool
is_for lane_of l o = lane_of (document_of o.key) == l

-- what holds of lanes and queues; by lane, the past is what earlier incarnations sent there
pub record LanesFacts (g : Config) (lane_of : Document → ℕ) (past : ℕ → Past) (w : Lanes) : Type 0 where
  pub lane : (l : ℕ) → CoreFacts g (past l) (w.lane l)
  pub of_past : (l : ℕ) (x : Write) → (past l).writes x → lane_of (document_of x.key) ≡ l
  pub order : (l p : ℕ) → filter (is_from p) ((w.lane l).taken ++ w.queue l) ≡ filter (is_for lane_of l) (w.accepted p)
  pub numbers : (p i : ℕ) (o : Op) → slice_get (w.accepted p) i ≡ Some o → (o.producer ≡ p) × (o.number ≡ i + 1)
  pub epochs : (p i : ℕ) (o : Op) → slice_get (w.accepted p) i ≡ Some o → o.epoch ≡ g.epoch

-- ---- filters

one_if_test : {A : Type 0} (p : A → Bool) (x : A) (b : Bool) → p x ≡ b → filter p (x ∷ []) ≡ (if b then x ∷ [] else [])
one_if_test p x b e = ap (λ c. if c then x ∷ [] else []) e

filter-push : {A : Type 0} (p : A → Bool) (xs : List A) (x : A) (b : Bool) → p x ≡ b → filter p (xs ++ x ∷ []) ≡ filter p xs ++ (if b then x ∷ [] else [])
filter-push p xs x b e = filter-append p xs (x ∷ []) ∙ ap (λ ys. filter p xs ++ ys) (one_if_test p x b e)

-- ---- an operation is put

module _ (g : Config) (lane_of : Document → ℕ) (past : ℕ → Past) (w : Lanes) (f : LanesFacts g lane_of past w) (o : Op) (may : MayPut g w o) where
  mine : ℕ
  mine = lane_of (document_of o.key)

  -- by whether the lane is the operation's, and the producer
  put_order : (l p : ℕ) (b c : Bool) → (l == lane_of (document_of o.key)) ≡ b → (p == o.producer) ≡ c
      → filter (is_from p) ((w.lane l).taken ++ (if b then w.queue l ++ o ∷ [] else w.queue l)) ≡ filter (is_for lane_of l) (if c then w.accepted p ++ o ∷ [] else w.accepted p)
  put_order l p true true eb ec =
      let el = equal l (lane_of (document_of o.key)) eb in
      let ep = equal p o.producer ec in
      ap (filter (is_from p)) (sym (append_assoc (w.lane l).taken (w.queue l) (o ∷ [])))
      ∙ filter-push (is_from p) ((w.lane l).taken ++ w.queue l) o true (equal_test o.producer p (sym ep))
      ∙ ap (λ xs. xs ++ o ∷ []) (f.order l p)
      ∙ sym (filter-push (is_for lane_of l) (w.accepted p) o true (equal_test (lane_of (document_of o.key)) l (sym el)))
  put_order l p true false eb ec =
      let no : is_from p o ≡ false = ⊎_elim (λ t. let t' = equal_test p o.producer (sym (equal o.producer p t)) in absurd (cc (t', ec))) (λ e. e) (true_or_false (is_from p o)) in
      ap (filter (is_from p)) (sym (append_assoc (w.lane l).taken (w.queue l) (o ∷ [])))
      ∙ filter-push (is_from p) ((w.lane l).taken ++ w.queue l) o false no
      ∙ append-nil (filter (is_from p) ((w.lane l).taken ++ w.queue l))
      ∙ f.order l p
  put_order l p false true eb ec =
      let no : is_for lane_of l o ≡ false = ⊎_elim (λ t. let t' = equal_test l (lane_of (document_of o.key)) (sym (equal (lane_of (document_of o.key)) l t)) in absurd (cc (t', eb))) (λ e. e) (true_or_false (is_for lane_of l o)) in
      f.order l p
      ∙ sym (append-nil (filter (is_for lane_of l) (w.accepted p)))
      ∙ sym (filter-push (is_for lane_of l) (w.accepted p) o false no)
  put_order l p false false eb ec = f.order l p

  put_numbers : (p i : ℕ) (x : Op) (c : Bool) → (p == o.producer) ≡ c → slice_get (if c then w.accepted p ++ o ∷ [] else w.accepted p) i ≡ Some x → (x.producer ≡ p) × (x.number ≡ i + 1)
  put_numbers p i x true e s =
      let ep = equal p o.producer e in
      ⊎_elim
      (λ l. f.numbers p i x l)
      (λ r. (
        ap (λ (z : Op). z.producer) r.1 ∙ sym ep,
        ap (λ (z : Op). z.number) r.1 ∙ may.number ∙ ap (λ n. length (w.accepted n) + 1) (sym ep) ∙ ap (λ n. n + 1) (sym r.0),
      ))
      (at-cases (w.accepted p) o i x s)
  put_numbers p i x false e s = f.numbers p i x s

  put_epochs : (p i : ℕ) (x : Op) (c : Bool) → slice_get (if c then w.accepted p ++ o ∷ [] else w.accepted p) i ≡ Some x → x.epoch ≡ g.epoch
  put_epochs p i x true s = ⊎_elim
      (λ l. f.epochs p i x l)
      (λ r. ap (λ (z : Op). z.epoch) r.1 ∙ may.epoch)
      (at-cases (w.accepted p) o i x s)
  put_epochs p i x false s = f.epochs p i x s

  pub put_keeps : LanesFacts g lane_of past (move g lane_of (Puts o) w)
  put_keeps = record {
    lane = f.lane;
    of_past = f.of_past;
    order = λ l p. put_order l p (l == lane_of (document_of o.key)) (p == o.producer) refl refl;
    numbers = λ p i x s. put_numbers p i x (p == o.producer) refl s;
    epochs = λ p i x s. put_epochs p i x (p == o.producer) s;
  }

-- ---- a lane's step

-- what each lane's conflicts tell
abbrev pub TellAll : Config → (ℕ → Past) → Lanes → Type 0
TellAll g past w = (l : ℕ) → TellsOwn g (past l) (w.lane l).outside.runs

module _ (g : Config) (lane_of : Document → ℕ) (past : ℕ → Past) (w : Lanes) (f : LanesFacts g lane_of past w) (l : ℕ) where
  lane_by : (c : Core) → CoreFacts g (past l) c → (m : ℕ) (b : Bool) → (m == l) ≡ b → CoreFacts g (past m) (if b then c else w.lane m)
  lane_by c k m true e = subst (λ n. CoreFacts g (past n) c) (sym (equal m l e)) k
  lane_by c k m false e = f.lane m

  same_taken : (c : Core) → c.taken ≡ (w.lane l).taken → (m p : ℕ) (b : Bool) → (m == l) ≡ b → filter (is_from p) ((if b then c else w.lane m).taken ++ w.queue m) ≡ filter (is_for lane_of m) (w.accepted p)
  same_taken c same m p true e =
      let em = equal m l e in
      ap (λ os. filter (is_from p) (os ++ w.queue m)) (same ∙ ap (λ n. (w.lane n).taken) (sym em)) ∙ f.order m p
  same_taken c same m p false e = f.order m p

  inner_taken : (s : Step) (c : Core) → IsInner s → (step g s c).taken ≡ c.taken
  inner_taken (Takes o) c i = absurd i
  inner_taken (Sends chosen) c i = refl
  inner_taken (Runs r) c i = refl
  inner_taken (Answers number a old) c i = refl

  pub inner_keeps : (s : Step) → IsInner s → MayStep s (w.lane l) → LanesFacts g lane_of past (move g lane_of (Steps l s) w)
  inner_keeps s i may = record {
    lane = λ m. lane_by (step g s (w.lane l)) (step_keeps g (past l) (w.lane l) (f.lane l) s may) m (m == l) refl;
    of_past = f.of_past;
    order = λ m p. same_taken (step g s (w.lane l)) (inner_taken s (w.lane l) i) m p (m == l) refl;
    numbers = f.numbers;
    epochs = f.epochs;
  }

  fetch_order : (o : Op) (os : List Op) → w.queue l ≡ o ∷ os → (m p : ℕ) (b : Bool) → (m == l) ≡ b
      → filter (is_from p) ((if b then step g (Takes o) (w.lane l) else w.lane m).taken ++ (if b then os else w.queue m)) ≡ filter (is_for lane_of m) (w.accepted p)
  fetch_order o os q m p true e =
      let em = equal m l e in
      ap (filter (is_from p)) (append_assoc (w.lane l).taken (o ∷ []) os ∙ ap (λ xs. (w.lane l).taken ++ xs) (sym q))
      ∙ f.order l p ∙ ap (λ n. filter (is_for lane_of n) (w.accepted p)) (sym em)
  fetch_order o os q m p false e = f.order m p

  pub fetch_keeps : (q : List Op) → w.queue l ≡ q → LanesFacts g lane_of past (after_fetch g l w q)
  fetch_keeps [] e = f
  fetch_keeps (o ∷ os) e = record {
    lane = λ m. lane_by (step g (Takes o) (w.lane l)) (step_keeps g (past l) (w.lane l) (f.lane l) (Takes o) tt) m (m == l) refl;
    of_past = f.of_past;
    order = λ m p. fetch_order o os e m p (m == l) refl;
    numbers = f.numbers;
    epochs = f.epochs;
  }

pub move_keeps : (g : Config) (lane_of : Document → ℕ) (past : ℕ → Past) (w : Lanes) (f : LanesFacts g lane_of past w) (m : Move) → MayMove g m w → LanesFacts g lane_of past (move g lane_of m w)
move_keeps g lane_of past w f (Puts o) may = put_keeps g lane_of past w f o may
move_keeps g lane_of past w f (Closes p) may = record { lane = f.lane; of_past = f.of_past; order = f.order; numbers = f.numbers; epochs = f.epochs }
move_keeps g lane_of past w f (Fetches l) may = fetch_keeps g lane_of past w f l (w.queue l) refl
move_keeps g lane_of past w f (Steps l s) may = inner_keeps g lane_of past w f l s may.0 may.1

-- if nothing was sent before
module _ (g : Config) (lane_of : Document → ℕ) (past : ℕ → Past) (none : (l : ℕ) (x : Write) → (past l).writes x → ⊥)
    (w : Lanes) (s : IsStart w) (from : (l : ℕ) (k : Document) (u : ℕ) → (w.lane l).outside.stored k ≡ Some u → (past l).versions u) where
  pub start_facts : LanesFacts g lane_of past w
  start_facts = record {
    lane = λ l. fresh_facts g (past l) (none l) (w.lane l) (s.lane l) (from l);
    of_past = λ l x m. absurd (none l x m);
    order = λ l p. (λ i. filter (is_from p) ((s.lane l).taken i ++ s.queue l i)) ∙ sym (ap (filter (is_for lane_of l)) (s.accepted p));
    numbers = λ p i o e. absurd (none_at (w.accepted p) i o (s.accepted p) e);
    epochs = λ p i o e. absurd (none_at (w.accepted p) i o (s.accepted p) e);
  }

-- ---- names

module _ (g : Config) (lane_of : Document → ℕ) (past : ℕ → Past) (w : Lanes) (f : LanesFacts g lane_of past w) where
  distinct_from : (xs : List Op) (n : ℕ) → ((i : ℕ) (o : Op) → slice_get xs i ≡ Some o → o.number ≡ n + i + 1) → AllDistinct (map name_of xs)
  distinct_from [] n h = tt
  distinct_from (x ∷ xs) n h = (
    (λ m.
        let y = Mem-map name_of (name_of x) xs m in
        let at = Mem-at y.0 xs y.1 in
        let a = h zero x refl in
        let b = h (suc at.0) y.0 at.1 in
        let e = ap (λ (k : OpName). k.number) y.2 in omega (arith, a, b, e)),
    distinct_from xs (n + 1) (λ i o s. let a = h (suc i) o s in omega (arith, a)),
  )

  accepted_distinct : (p : ℕ) → AllDistinct (map name_of (w.accepted p))
  accepted_distinct p = distinct_from (w.accepted p) 0 (λ i o s. let a = (f.numbers p i o s).1 in omega (arith, a))

  -- names that are distinct by producer are distinct
  by_producer : (xs : List Op) → ((p : ℕ) → AllDistinct (map name_of (filter (is_from p) xs))) → AllDistinct (map name_of xs)
  by_producer [] h = tt
  by_producer (x ∷ xs) h = (
    (λ m.
        let y = Mem-map name_of (name_of x) xs m in
        let same : y.0.producer ≡ x.producer = ap (λ (k : OpName). k.producer) (sym y.2) in
        let there = filter-Mem (is_from x.producer) y.0 xs y.1 (equal_test y.0.producer x.producer same) in
        let d = subst (λ b. AllDistinct (map name_of (if b then x ∷ filter (is_from x.producer) xs else filter (is_from x.producer) xs))) (equal_test x.producer x.producer refl) (h x.producer) in
        d.0 (subst (λ k. Mem k (map name_of (filter (is_from x.producer) xs))) (sym y.2) (map-Mem name_of y.0 (filter (is_from x.producer) xs) there))),
    by_producer xs (λ p. less (is_from p x) x (filter (is_from p) xs) (h p)),
  )
    where
      less : (b : Bool) (y : Op) (ys : List Op) → AllDistinct (map name_of (if b then y ∷ ys else ys)) → AllDistinct (map name_of ys)
      less true y ys d = d.1
      less false y ys d = d

  log_distinct : (l : ℕ) → AllDistinct (map name_of ((w.lane l).taken ++ w.queue l))
  log_distinct l = by_producer ((w.lane l).taken ++ w.queue l) (λ p.
      subst (λ os. AllDistinct (map name_of os)) (sym (f.order l p))
      (AllDistinct-sub (map name_of (filter (is_for lane_of l) (w.accepted p))) (map name_of (w.accepted p)) (accepted_distinct p) (sub-map name_of (filter (is_for lane_of l) (w.accepted p)) (w.accepted p) (filter_sub (is_for lane_of l) (w.accepted p)))))

  front_distinct : (xs ys : List Op) → AllDistinct (map name_of (xs ++ ys)) → AllDistinct (map name_of xs)
  front_distinct [] ys d = tt
  front_distinct (x ∷ xs) ys d = ((λ m. let y = Mem-map name_of (name_of x) xs m in d.0 (subst (λ k. Mem k (map name_of (xs ++ ys))) (sym y.2) (map-Mem name_of y.0 (xs ++ ys) (Mem-left y.0 xs ys y.1)))), front_distinct xs ys d.1)

  pub taken_distinct : (l : ℕ) → AllDistinct (map name_of (w.lane l).taken)
  taken_distinct l = front_distinct (w.lane l).taken (w.queue l) (log_distinct l)

  -- what a lane took was accepted, and is for it
  pub was_accepted : (l : ℕ) (o : Op) → Mem o (w.lane l).taken → Mem o (w.accepted o.producer) × (lane_of (document_of o.key) ≡ l)
  was_accepted l o m =
      let from = filter-Mem (is_from o.producer) o ((w.lane l).taken ++ w.queue l) (Mem-left o (w.lane l).taken (w.queue l) m) (equal_test o.producer o.producer refl) in
      let there = Mem-filter (is_for lane_of l) o (w.accepted o.producer) (subst (λ os. Mem o os) (f.order l o.producer) from) in
      (there.0, equal (lane_of (document_of o.key)) l there.1)

  -- two accepted operations with one name are equal
  pub one_name : (a b : Op) → Mem a (w.accepted a.producer) → Mem b (w.accepted b.producer) → name_of a ≡ name_of b → a ≡ b
  one_name a b ma mb e =
      let same : b.producer ≡ a.producer = ap (λ (k : OpName). k.producer) (sym e) in
      let mb' = subst (λ p. Mem b (w.accepted p)) same mb in
      let i = Mem-at a (w.accepted a.producer) ma in
      let j = Mem-at b (w.accepted a.producer) mb' in
      let at = distinct_places (map name_of (w.accepted a.producer)) i.0 j.0 (name_of a) (accepted_distinct a.producer) (at-map name_of (w.accepted a.producer) i.0 a i.1) (at-map name_of (w.accepted a.producer) j.0 b j.1 ∙ ap Some (sym e)) in
      some_same a b (sym i.1 ∙ ap (slice_get (w.accepted a.producer)) at ∙ j.1)
