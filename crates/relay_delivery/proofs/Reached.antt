-- What holds of a lane, whatever answers it gets.
use Rattle.std.proofs.Common.{◌≡◌, ◌≢◌, ℕ, true, zero, suc, ◌+◌, ◌<◌, List, [], ◌∷◌, ◌++◌, length, Option, Some, None, ◌==◌, refl, sym, ap, ◌∙◌, subst, ⊎_elim, inl, inr, arith, length-append, append-nil, append_assoc}
use Rattle.std.specs.Prelude.{slice_get, nat_lt, map, filter, not}
use Rattle.std.proofs.lemmas.List.{map-append, length-map}
use borrow.Author.Tests.{ltb-true}
use Rattle.relay_action.specs.declared.write.Write.{Write}
use Rattle.relay_action.specs.declared.operation.Op.{Op}
use Rattle.relay_results.specs.Words.{Mem, IsSubsequence, AllDistinct}
use Rattle.relay_results.specs.Numbers.{from_zero}
use Rattle.relay_results.specs.Documents.{Document, document_of, write_for}
use Rattle.relay_results.specs.Outside.{Answer, Unanswered}
use Rattle.relay_action.specs.Actions.{kind_of}
use Rattle.relay_results.specs.Fates.{Flies}
use Rattle.relay_results.proofs.Fates.{says_as}
use Rattle.relay_results.proofs.Lists.{true_or_false, equal, equal_test, not_true, some_same, filter-Mem, Mem-last, at-Mem, at-last, at-map, map-at, Mem-at, Mem-cases, Mem-left, Mem-one, Mem-map, map-Mem, Mem-filter, filter_sub, AllDistinct-sub, sub-map, distinct_places}
use Rattle.relay_delivery.specs.Machine.{Config, Held, Place, write_of, held_if, spent_if, place_of, launched_at, after_launch, still_held, reports_from}
use Rattle.relay_delivery.specs.Lane.{tries_in, old_in, Entry, Flying, State, held_of, entry_if, taken_op, candidates, launched_entry, writes_of_all, after_request_of, is_other, after_settling, writes_at, after_answer_to, fresh_state}
use Rattle.relay_delivery.specs.Reach.{Call, Takes, Ticks, Sends, Answers, call, MayCall, calls_of, AllMayCall, taken_by, taken_in, Reached, place_at, IsInFlight, documents_of, ReachedHolds, FreshReached, CallReached}
use Rattle.relay_delivery.proofs.Facts.{IsDealt, AreRising}
use Rattle.relay_delivery.proofs.Dealt.{dealt_before, dealt-more}
use Rattle.relay_delivery.proofs.Take.{is_new_held, one_length, rising_if}
use Rattle.relay_delivery.proofs.Send.{launched_op, launched_version, rising-sent, no_place, launched_among}
use Rattle.relay_delivery.proofs.Fates.{turn, kept-from, kept_version, kept_op, rising-settled, totals-settled, away_or_here}
use Rattle.relay_delivery.proofs.Earliest.{FliesFirst, take_first, send_first, answer_first}
use Rattle.relay_delivery.proofs.Counts.{IsAtPlace, stays_in}
use Rattle.relay_delivery.proofs.Fitting.{held_new, held_launched, held_kept, eligible_here, distinct_here}

-- ---- lists without repeats

distinct_push : {A : Type 0} (xs : List A) (x : A) → AllDistinct xs → (Mem x xs → ⊥) → AllDistinct (xs ++ x ∷ [])
distinct_push [] x d none = ((λ m. m), tt)
distinct_push (y ∷ xs) x d none = (
  (λ m. ⊎_elim {C = ⊥} (λ old. d.0 old) (λ one. none (inl (sym (Mem-one y x one)))) (Mem-cases y xs (x ∷ []) m)),
  distinct_push xs x d.1 (λ m. none (inr m)),
)

distinct_joined : {A : Type 0} (xs ys : List A) → AllDistinct xs → AllDistinct ys → ((x : A) → Mem x xs → Mem x ys → ⊥) → AllDistinct (xs ++ ys)
distinct_joined [] ys dx dy apart = dy
distinct_joined (x ∷ xs) ys dx dy apart = (
  (λ m. ⊎_elim {C = ⊥} (λ a. dx.0 a) (λ b. apart x (inl refl) b) (Mem-cases x xs ys m)),
  distinct_joined xs ys dx.1 dy (λ z a b. apart z (inr a) b),
)

distinct_by : {A : Type 0} (xs : List A) → ((i j : ℕ) (x : A) → slice_get xs i ≡ Some x → slice_get xs j ≡ Some x → i ≡ j) → AllDistinct xs
distinct_by [] one = tt
distinct_by (x ∷ xs) one = (
  (λ m. let p = Mem-at x xs m in let e = one 0 (suc p.0) x refl p.1 in absurd (omega (arith, e))),
  distinct_by xs (λ i j y a b. let e = one (suc i) (suc j) y a b in omega (arith, e)),
)

-- ---- what each call keeps

abbrev number_of : Flying → ℕ
number_of f = f.request

-- at each place of a request in flight a held operation flies
abbrev EachFlies : List Held → List Flying → Type 0
EachFlies held flying = (f : Flying) (place : ℕ) (w : Write) → Mem f flying → slice_get f.writes place ≡ Some w → IsAtPlace held w (place_at f.request place)

-- and each that flies is at its place of a request in flight
abbrev EachStands : List Held → List Flying → Type 0
EachStands held flying = (h : Held) (p : Place) → Mem h held → h.flies ≡ Some p → IsInFlight flying (write_of h) p

record Keeps (s : State) (taken : List Op) : Type 0 where
  rising : AreRising (held_of s.held)
  dealt : (h : Held) → Mem h (held_of s.held) → IsDealt s.config taken h.op h.version
  first : FliesFirst (held_of s.held)
  each : EachFlies (held_of s.held) s.flying
  stands : EachStands (held_of s.held) s.flying
  below : (f : Flying) → Mem f s.flying → f.request < s.requests
  numbers : AllDistinct (map number_of s.flying)
  count : s.taken ≡ length taken
  totals : length s.held + (s.applied + s.already) + length s.reports ≡ s.taken

alone_in : (hs : List Held) → AreRising hs → (h j : Held) → Mem h hs → Mem j hs → h.version ≡ j.version → h ≡ j
alone_in [] r h j mh mj e = absurd mh
alone_in (x ∷ xs) r h j (inl a) (inl b) e = a ∙ sym b
alone_in (x ∷ xs) r h j (inl a) (inr b) e = let lt = r.0 j b in let v = ap (λ (z : Held). z.version) a in absurd (omega (arith, lt, v, e))
alone_in (x ∷ xs) r h j (inr a) (inl b) e = let lt = r.0 h a in let v = ap (λ (z : Held). z.version) b in absurd (omega (arith, lt, v, e))
alone_in (x ∷ xs) r h j (inr a) (inr b) e = alone_in xs r.1 h j a b e

-- ---- take

take_keeps : (s : State) (o : Op) (bytes : ℕ) (taken : List Op) → Keeps s taken → Keeps (taken_op s o bytes) (taken ++ o ∷ [])
take_keeps s o bytes taken k =
    let g = s.config in
    let b = nat_lt s.taken g.deals in
    let more = held_if b g s.taken o in
    let now : held_of (taken_op s o bytes).held ≡ held_of s.held ++ more =
    map-append (λ (e : Entry). e.held) s.held (entry_if b s o bytes) ∙ ap (λ xs. held_of s.held ++ xs) (held_new b s o bytes) in
    let under : (h : Held) → Mem h (held_of s.held) → h.version < g.first + s.taken =
    (λ h m. let lt = dealt_before g taken h.op h.version (k.dealt h m) in let n = k.count in omega (arith, lt, n)) in
    record {
      rising = subst (λ hs. AreRising hs) (sym now) (rising_if b (held_of s.held) g s.taken o k.rising under);
      dealt = λ h m. ⊎_elim {C = IsDealt g (taken ++ o ∷ []) h.op h.version}
          (λ old. dealt-more g taken o h.op h.version (k.dealt h old))
          (λ new.
          let n = is_new_held b g s.taken o h new in
          subst (λ (j : Held). IsDealt g (taken ++ o ∷ []) j.op j.version) (sym n.1)
          (record { place = s.taken; stands = ap (slice_get (taken ++ o ∷ [])) k.count ∙ at-last taken o; within = ltb-true _ _ n.0; version = refl }))
          (Mem-cases h (held_of s.held) more (subst (λ hs. Mem h hs) now m));
      first = subst (λ hs. FliesFirst hs) (sym now) (take_first b g s.taken o (held_of s.held) under k.first);
      each = λ f place w m at.
          let y = k.each f place w m at in
          record { held_op = y.held_op; is_in = subst (λ hs. Mem y.held_op hs) (sym now) (Mem-left y.held_op (held_of s.held) more y.is_in); flies = y.flies; write = y.write };
      stands = λ h p m fl. ⊎_elim {C = IsInFlight s.flying (write_of h) p}
          (λ old. k.stands h p old fl)
          (λ new. let n = is_new_held b g s.taken o h new in let e = ap (λ (x : Held). x.flies) n.1 in absurd (cc (e, fl)))
          (Mem-cases h (held_of s.held) more (subst (λ hs. Mem h hs) now m));
      below = k.below;
      numbers = k.numbers;
      count = ap (λ n. n + 1) k.count ∙ sym (length-append taken (o ∷ []));
      totals =
          let t = k.totals in
          let h = length-append s.held (entry_if b s o bytes) in
          let r = length-append s.reports (spent_if b o) in
          let l = length-map (entry_if b s o bytes) (λ (e : Entry). e.held) in
          let n = ap length (held_new b s o bytes) in
          let e = one_length b g s.taken o in
          omega (arith, t, h, r, l, n, e);
    }

-- ---- request

module _ (s : State) (chosen : List Entry) (part : IsSubsequence chosen (candidates s)) (taken : List Op) (k : Keeps s taken) where
  abbrev hs : List Held
  hs = held_of s.held

  abbrev cs : List Held
  cs = held_of chosen

  abbrev new : Flying
  new = record { request = s.requests; writes = writes_of_all chosen }

  now : held_of (after_request_of s chosen).held ≡ map (after_launch s.requests cs) hs
  now = held_launched s.clock s.requests cs s.held

  distinct : AllDistinct (map (λ (h : Held). h.version) cs)
  distinct = distinct_here s chosen part k.rising

  launched_write : (h : Held) (p : Option ℕ) → write_of (launched_at s.requests h p) ≡ write_of h
  launched_write h None = refl
  launched_write h (Some p) = refl

  -- what flies was not chosen
  stays_flying : (h : Held) (f : Place) (p : Option ℕ) → place_of h.version cs ≡ p → Mem h hs → h.flies ≡ Some f → (launched_at s.requests h p).flies ≡ Some f
  stays_flying h f None e m fl = fl
  stays_flying h f (Some place) e m fl = let l = launched_among hs cs (alone_in hs k.rising) (eligible_here s chosen part) h m place e in let w = l.waits in absurd (cc (w, fl))

  new_flies : (h : Held) (place : ℕ) (p : Option ℕ) → place_of h.version cs ≡ p → Mem h hs → slice_get cs place ≡ Some h → (launched_at s.requests h p).flies ≡ Some (place_at s.requests place)
  new_flies h place None e m at = absurd (no_place cs h.version e h (at-Mem cs place h at) refl)
  new_flies h place (Some p) e m at =
      let l = launched_among hs cs (alone_in hs k.rising) (eligible_here s chosen part) h m p e in
      let same = distinct_places (map (λ (j : Held). j.version) cs) p place h.version distinct (at-map (λ (j : Held). j.version) cs p h l.stands) (at-map (λ (j : Held). j.version) cs place h at) in
      λ i. Some (place_at s.requests (same i))

  each_sent : EachFlies (map (after_launch s.requests cs) hs) (s.flying ++ new ∷ [])
  each_sent f place w m at = ⊎_elim {C = IsAtPlace (map (after_launch s.requests cs) hs) w (place_at f.request place)}
      (λ old.
      let y = k.each f place w old at in
      record {
        held_op = after_launch s.requests cs y.held_op;
        is_in = map-Mem (after_launch s.requests cs) y.held_op hs y.is_in;
        flies = stays_flying y.held_op (place_at f.request place) (place_of y.held_op.version cs) refl y.is_in y.flies;
        write = launched_write y.held_op (place_of y.held_op.version cs) ∙ y.write;
      })
      (λ one.
      let e = Mem-one f new one in
      let at' : slice_get (map write_of cs) place ≡ Some w = subst (λ (z : Flying). slice_get z.writes place ≡ Some w) e at in
      let h = map-at write_of cs place w at' in
      let held = (eligible_here s chosen part h.0 (at-Mem cs place h.0 h.1)).is_held in
      record {
        held_op = after_launch s.requests cs h.0;
        is_in = map-Mem (after_launch s.requests cs) h.0 hs held;
        flies = new_flies h.0 place (place_of h.0.version cs) refl held h.1 ∙ (λ i. Some (place_at (number_of (sym e i)) place));
        write = launched_write h.0 (place_of h.0.version cs) ∙ h.2;
      })
      (Mem-cases f s.flying (new ∷ []) m)

  launched_stands : (h : Held) (p : Place) (q : Option ℕ) → place_of h.version cs ≡ q → Mem h hs → (launched_at s.requests h q).flies ≡ Some p → IsInFlight (s.flying ++ new ∷ []) (write_of (launched_at s.requests h q)) p
  launched_stands h p None e m fl =
      let y = k.stands h p m fl in
      record { of = y.of; is_in = Mem-left y.of s.flying (new ∷ []) y.is_in; request = y.request; stands = y.stands }
  launched_stands h p (Some place) e m fl =
      let l = launched_among hs cs (alone_in hs k.rising) (eligible_here s chosen part) h m place e in
      let same : place_at s.requests place ≡ p = some_same (place_at s.requests place) p fl in
      record {
        of = new;
        is_in = Mem-last s.flying new;
        request = ap (λ (z : Place). z.request) same;
        stands = ap (λ (z : Place). slice_get (map write_of cs) z.place) (sym same) ∙ at-map write_of cs place h l.stands;
      }

  send_keeps : Keeps (after_request_of s chosen) taken
  send_keeps = record {
    rising = subst (λ xs. AreRising xs) (sym now) (rising-sent s.requests cs hs k.rising);
    dealt = λ h m.
        let x = Mem-map (after_launch s.requests cs) h hs (subst (λ xs. Mem h xs) now m) in
        let v : h.version ≡ x.0.version = ap (λ (z : Held). z.version) x.2 ∙ launched_version s.requests x.0 (place_of x.0.version cs) in
        let o : h.op ≡ x.0.op = ap (λ (z : Held). z.op) x.2 ∙ launched_op s.requests x.0 (place_of x.0.version cs) in
        let d = k.dealt x.0 x.1 in
        record { place = d.place; stands = d.stands ∙ ap Some (sym o); within = d.within; version = v ∙ d.version };
    first = subst (λ xs. FliesFirst xs) (sym now) (send_first hs cs (alone_in hs k.rising) (eligible_here s chosen part) s.requests k.first);
    each = subst (λ xs. EachFlies xs (s.flying ++ new ∷ [])) (sym now) each_sent;
    stands = λ h p m fl.
        let x = Mem-map (after_launch s.requests cs) h hs (subst (λ xs. Mem h xs) now m) in
        let y = launched_stands x.0 p (place_of x.0.version cs) refl x.1 (sym (ap (λ (z : Held). z.flies) x.2) ∙ fl) in
        subst (λ (z : Held). IsInFlight (s.flying ++ new ∷ []) (write_of z) p) (sym x.2) y;
    below = λ f m. ⊎_elim {C = f.request < s.requests + 1}
        (λ old. let lt = k.below f old in omega (arith, lt))
        (λ one. let e = ap number_of (Mem-one f new one) in omega (arith, e))
        (Mem-cases f s.flying (new ∷ []) m);
    numbers = subst (λ ns. AllDistinct ns) (sym (map-append number_of s.flying (new ∷ [])))
        (distinct_push (map number_of s.flying) s.requests k.numbers (λ m. let f = Mem-map number_of s.requests s.flying m in let lt = k.below f.0 f.1 in let e = f.2 in absurd (omega (arith, lt, e))));
    count = k.count;
    totals = let t = k.totals in let l = length-map s.held (launched_entry s.clock s.requests cs) in omega (arith, t, l);
  }

-- ---- answer

module _ (s : State) (n : ℕ) (ws : List Write) (a : Answer) (given : a ≢ Unanswered) (taken : List Op) (k : Keeps s taken) where
  abbrev left : List Held
  left = still_held (tries_in s) n ws a (held_of s.held)

  left_is : held_of (after_settling s n ws a).held ≡ left
  left_is = held_kept (tries_in s) s.clock n ws a s.held

  each_left : EachFlies left (filter (is_other n) s.flying)
  each_left f place w m at =
      let x = Mem-filter (is_other n) f s.flying m in
      let y = k.each f place w x.0 at in
      ⊎_elim {C = IsAtPlace left w (place_at f.request place)}
      (λ z. record { held_op = y.held_op; is_in = stays_in (tries_in s) n ws a (held_of s.held) y.held_op y.is_in z.stays; flies = y.flies; write = y.write })
      (λ z.
      let same : f.request ≡ n = ap (λ (p : Place). p.request) (some_same (place_at f.request place) (place_at n z.place) (sym y.flies ∙ z.flies)) in
      let t = equal_test f.request n same in let no = not_true (f.request == n) x.1 in absurd (cc (t, no)))
      (away_or_here (tries_in s) n ws a y.held_op)

  -- what still flies does so in another request
  other : (f : Flying) → (f.request ≡ n → ⊥) → is_other n f ≡ true
  other f ne = ⊎_elim {C = is_other n f ≡ true} (λ t. absurd (ne (equal f.request n t))) (λ e. ap not e) (true_or_false (f.request == n))

  stays_there : (h : Held) (p : Place) → Mem h (held_of s.held) → turn (tries_in s) n ws a h ≡ Flies → h.flies ≡ Some p → IsInFlight (filter (is_other n) s.flying) (write_of h) p
  stays_there h p m t fl = ⊎_elim {C = IsInFlight (filter (is_other n) s.flying) (write_of h) p}
      (λ z.
      let y = k.stands h p m fl in
      let ne : y.of.request ≡ n → ⊥ = (λ e. let same : p.request ≡ n = sym y.request ∙ e in z.elsewhere p.place (fl ∙ (λ i. Some (place_at (same i) p.place)))) in
      record { of = y.of; is_in = filter-Mem (is_other n) y.of s.flying y.is_in (other y.of ne); request = y.request; stands = y.stands })
      (λ z. absurd (given (says_as (record { version = h.version; sends = h.sends; attempts = h.attempts; max = tries_in s h.version }) ws z.place (kind_of h.op.action) a Flies (sym z.fate_is ∙ t))))
      (away_or_here (tries_in s) n ws a h)

  settle_keeps : Keeps (after_settling s n ws a) taken
  settle_keeps = record {
    rising = subst (λ xs. AreRising xs) (sym left_is) (rising-settled (tries_in s) n ws a (held_of s.held) k.rising);
    dealt = λ h m.
        let x = kept-from (tries_in s) n ws a (held_of s.held) h (subst (λ xs. Mem h xs) left_is m) in
        let v = kept_version (turn (tries_in s) n ws a x.0) x.0 h x.2 in
        let o = kept_op (turn (tries_in s) n ws a x.0) x.0 h x.2 in
        let d = k.dealt x.0 x.1 in
        record { place = d.place; stands = d.stands ∙ ap Some (sym o); within = d.within; version = v ∙ d.version };
    first = subst (λ xs. FliesFirst xs) (sym left_is) (answer_first (tries_in s) n ws a (held_of s.held) k.first);
    each = subst (λ xs. EachFlies xs (filter (is_other n) s.flying)) (sym left_is) each_left;
    stands = λ h p m fl.
        let x = kept-from (tries_in s) n ws a (held_of s.held) h (subst (λ xs. Mem h xs) left_is m) in
        ⊎_elim {C = IsInFlight (filter (is_other n) s.flying) (write_of h) p}
        (λ y. subst (λ (z : Held). IsInFlight (filter (is_other n) s.flying) (write_of z) p) (sym y.1) (stays_there x.0 p x.1 y.0 (ap (λ (z : Held). z.flies) (sym y.1) ∙ fl)))
        (λ r. ⊎_elim {C = IsInFlight (filter (is_other n) s.flying) (write_of h) p}
        (λ y. let e = ap (λ (z : Held). z.flies) y.1 in absurd (cc (e, fl)))
        (λ y. let e = ap (λ (z : Held). z.flies) y.2 in absurd (cc (e, fl)))
        r)
        x.2;
    below = λ f m. k.below f (Mem-filter (is_other n) f s.flying m).0;
    numbers = AllDistinct-sub (map number_of (filter (is_other n) s.flying)) (map number_of s.flying) k.numbers (sub-map number_of (filter (is_other n) s.flying) s.flying (filter_sub (is_other n) s.flying));
    count = k.count;
    totals =
        let t = k.totals in
        let e = totals-settled (tries_in s) n ws a (held_of s.held) in
        let r = length-append s.reports (reports_from (tries_in s) n ws a (held_of s.held)) in
        let l = length-map s.held (λ (x : Entry). x.held) in
        let m = length-map (after_settling s n ws a).held (λ (x : Entry). x.held) in
        let now = ap length left_is in
        omega (arith, t, e, r, l, m, now);
  }

-- ---- calls

fresh_keeps : (g : Config) → Keeps (fresh_state g) []
fresh_keeps g = record {
  rising = tt;
  dealt = λ h m. absurd m;
  first = λ h j f mh mj fl doc. absurd mh;
  each = λ f place w m at. absurd m;
  stands = λ h p m fl. absurd m;
  below = λ f m. absurd m;
  numbers = tt;
  count = refl;
  totals = refl;
}

call_keeps : (c : Call) (s : State) (taken : List Op) → Keeps s taken → MayCall c s → Keeps (call c s) (taken ++ taken_by c)
call_keeps (Takes o bytes) s taken k may = take_keeps s o bytes taken k
call_keeps (Ticks clock) s taken k may = subst (λ os. Keeps (call (Ticks clock) s) os) (sym (append-nil taken))
    (record { rising = k.rising; dealt = k.dealt; first = k.first; each = k.each; stands = k.stands; below = k.below; numbers = k.numbers; count = k.count; totals = k.totals })
call_keeps (Sends chosen) s taken k may = subst (λ os. Keeps (after_request_of s chosen) os) (sym (append-nil taken)) (send_keeps s chosen may.0 taken k)
call_keeps (Answers number a) s taken k may = subst (λ os. Keeps (after_answer_to s number a) os) (sym (append-nil taken))
    (settle_keeps s (from_zero number) (writes_at (from_zero number) s.flying) a may.1 taken k)

calls_keep : (cs : List Call) (s : State) (taken : List Op) → Keeps s taken → AllMayCall cs s → Keeps (calls_of cs s) (taken ++ taken_in cs)
calls_keep [] s taken k may = subst (λ os. Keeps s os) (sym (append-nil taken)) k
calls_keep (c ∷ cs) s taken k may =
    subst (λ os. Keeps (calls_of cs (call c s)) os) (append_assoc taken (taken_by c) (taken_in cs))
    (calls_keep cs (call c s) (taken ++ taken_by c) (call_keeps c s taken k may.0) may.1)

reached_keeps : (s : State) (taken : List Op) → Reached s taken → Keeps s taken
reached_keeps s taken r =
    subst (λ os. Keeps s os) r.took
    (subst (λ t. Keeps t (taken_in r.calls)) r.reached (calls_keep r.calls (fresh_state s.config) [] (fresh_keeps s.config) r.may))

-- ---- no document is in flight twice

-- two places with one document are one
one_place : (hs : List Held) → AreRising hs → FliesFirst hs → (w x : Write) (p q : Place) → IsAtPlace hs w p → IsAtPlace hs x q → document_of w.key ≡ document_of x.key → p ≡ q
one_place hs rising first w x p q a b doc =
    let da : document_of a.held_op.op.key ≡ document_of w.key = ap (λ (z : Write). document_of z.key) a.write in
    let db : document_of b.held_op.op.key ≡ document_of x.key = ap (λ (z : Write). document_of z.key) b.write in
    let same : document_of b.held_op.op.key ≡ document_of a.held_op.op.key = db ∙ sym doc ∙ sym da in
    let le = first a.held_op b.held_op p a.is_in b.is_in a.flies same in
    let ge = first b.held_op a.held_op q b.is_in a.is_in b.flies (sym same) in
    let one = alone_in hs rising a.held_op b.held_op a.is_in b.is_in (omega (arith, le, ge)) in
    some_same p q (sym a.flies ∙ ap (λ (h : Held). h.flies) one ∙ b.flies)

abbrev write_document : Write → Document
write_document w = document_of w.key

-- the document is that of a write of one of these requests
record IsFlyingIn (fs : List Flying) (d : Document) : Type 0 where
  of : Flying
  is_in : Mem of fs
  place : ℕ
  write : Write
  stands : slice_get of.writes place ≡ Some write
  document : document_of write.key ≡ d

flies_in : (fs : List Flying) (d : Document) → Mem d (documents_of fs) → IsFlyingIn fs d
flies_in [] d m = absurd m
flies_in (f ∷ fs) d m = ⊎_elim {C = IsFlyingIn (f ∷ fs) d}
    (λ here.
    let p = Mem-at d (map write_document f.writes) here in
    let w = map-at write_document f.writes p.0 d p.1 in
    record { of = f; is_in = inl refl; place = p.0; write = w.0; stands = w.1; document = w.2 })
    (λ there. let y = flies_in fs d there in record { of = y.of; is_in = inr y.is_in; place = y.place; write = y.write; stands = y.stands; document = y.document })
    (Mem-cases d (map write_document f.writes) (documents_of fs) m)

distinct_documents : (hs : List Held) → AreRising hs → FliesFirst hs → (fs : List Flying) → EachFlies hs fs → AllDistinct (map number_of fs) → AllDistinct (documents_of fs)
distinct_documents _ rising first [] each numbers = tt
distinct_documents hs rising first (f ∷ fs) each numbers = distinct_joined (map write_document f.writes) (documents_of fs)
    (distinct_by (map write_document f.writes) (λ i j d a b.
    let x = map-at write_document f.writes i d a in
    let y = map-at write_document f.writes j d b in
    ap (λ (p : Place). p.place) (one_place hs rising first x.0 y.0 (place_at f.request i) (place_at f.request j) (each f i x.0 (inl refl) x.1) (each f j y.0 (inl refl) y.1) (x.2 ∙ sym y.2))))
    (distinct_documents hs rising first fs (λ g place w m at. each g place w (inr m) at) numbers.1)
    (λ d here there.
    let p = Mem-at d (map write_document f.writes) here in
    let x = map-at write_document f.writes p.0 d p.1 in
    let y = flies_in fs d there in
    let one = one_place hs rising first x.0 y.write (place_at f.request p.0) (place_at y.of.request y.place) (each f p.0 x.0 (inl refl) x.1) (each y.of y.place y.write (inr y.is_in) y.stands) (x.2 ∙ sym y.document) in
    numbers.0 (subst (λ n. Mem n (map number_of fs)) (sym (ap (λ (q : Place). q.request) one)) (map-Mem number_of y.of fs y.is_in)))

-- ---- what holds

rising_at : (hs : List Held) → AreRising hs → (i j : ℕ) (h k : Held) → i < j → slice_get hs i ≡ Some h → slice_get hs j ≡ Some k → h.version < k.version
rising_at [] r i j h k lt a b = absurd (cc)
rising_at (x ∷ xs) r zero zero h k lt a b = absurd (omega (arith, lt))
rising_at (x ∷ xs) r zero (suc j) h k lt a b =
    let e : x ≡ h = some_same x h a in
    subst (λ (z : Held). z.version < k.version) e (r.0 k (at-Mem xs j k b))
rising_at (x ∷ xs) r (suc i) zero h k lt a b = absurd (omega (arith, lt))
rising_at (x ∷ xs) r (suc i) (suc j) h k lt a b = rising_at xs r.1 i j h k (omega (arith, lt)) a b

pub reached_holds : ReachedHolds
reached_holds s taken r =
    let k = reached_keeps s taken r in
    let held : (e : Entry) → Mem e s.held → Mem e.held (held_of s.held) = (λ e m. map-Mem (λ (x : Entry). x.held) e s.held m) in
    record {
      rising = λ i j e d lt a b. rising_at (held_of s.held) k.rising i j e.held d.held lt (at-map (λ (x : Entry). x.held) s.held i e a) (at-map (λ (x : Entry). x.held) s.held j d b);
      held = λ e m. let d = k.dealt e.held (held e m) in record { place = d.place; was_taken = d.stands; within = d.within; version = d.version };
      flying = λ f w m n.
          let p = Mem-at w f.writes n in
          let y = k.each f p.0 w m p.1 in
          let d = k.dealt y.held_op y.is_in in
          record { op = y.held_op.op; place = d.place; was_taken = d.stands; within = d.within; write = sym y.write ∙ ap (write_for y.held_op.op) d.version };
      at_place = λ f place w m at.
          let y = k.each f place w m at in
          let x = Mem-map (λ (e : Entry). e.held) y.held_op s.held y.is_in in
          record { entry = x.0; is_held = x.1; flies = ap (λ (h : Held). h.flies) (sym x.2) ∙ y.flies; write = sym y.write ∙ ap write_of x.2 };
      in_flight = λ e p m fl. k.stands e.held p (held e m) fl;
      once = distinct_documents (held_of s.held) k.rising k.first s.flying k.each k.numbers;
      count = k.count;
      totals = k.totals;
    }

-- ---- what is reached

pub fresh_reached : FreshReached
fresh_reached g = record { calls = []; may = tt; took = refl; reached = refl }

-- no call changes the config
call_config : (c : Call) (s : State) → (call c s).config ≡ s.config
call_config (Takes o bytes) s = refl
call_config (Ticks clock) s = refl
call_config (Sends chosen) s = refl
call_config (Answers number a) s = refl

calls_push : (cs : List Call) (c : Call) (s : State) → calls_of (cs ++ c ∷ []) s ≡ call c (calls_of cs s)
calls_push [] c s = refl
calls_push (b ∷ cs) c s = calls_push cs c (call b s)

may_push : (cs : List Call) (c : Call) (s : State) → AllMayCall cs s → MayCall c (calls_of cs s) → AllMayCall (cs ++ c ∷ []) s
may_push [] c s all may = (may, tt)
may_push (b ∷ cs) c s all may = (all.0, may_push cs c (call b s) all.1 may)

taken_push : (cs : List Call) (c : Call) → taken_in (cs ++ c ∷ []) ≡ taken_in cs ++ taken_by c
taken_push [] c = append-nil (taken_by c)
taken_push (b ∷ cs) c = ap (λ os. taken_by b ++ os) (taken_push cs c) ∙ sym (append_assoc (taken_by b) (taken_in cs) (taken_by c))

pub call_reached : CallReached
call_reached s c taken r may =
    let start : (g : Config) → g ≡ s.config → calls_of r.calls (fresh_state g) ≡ s = (λ g e. ap (λ x. calls_of r.calls (fresh_state x)) e ∙ r.reached) in
    let g = (call c s).config in
    let same = call_config c s in
    record {
      calls = r.calls ++ c ∷ [];
      may = may_push r.calls c (fresh_state g) (subst (λ x. AllMayCall r.calls (fresh_state x)) (sym same) r.may) (subst (λ t. MayCall c t) (sym (start g same)) may);
      took = taken_push r.calls c ∙ ap (λ os. os ++ taken_by c) r.took;
      reached = calls_push r.calls c (fresh_state g) ∙ ap (call c) (start g same);
    }
