-- If nothing is to be sent, the first operation that may be sent is due later.
use Rattle.std.proofs.Common.{◌≡◌, ℕ, ◌-◌, ◌<◌, ◌≤◌, List, [], ◌∷◌, length, Option, Some, None, Bool, true, false, refl, sym, ap, ◌∙◌, subst, ⊎_elim, inl, inr, arith}
use Rattle.std.specs.Prelude.{◌==◌, ◌&&◌, ◌||◌, not, nat_lt, nat_le, map, filter, min, option_map, if◌then◌else◌}
use Rattle.std.specs.List.{list_any}
use borrow.Author.Tests.{ltb-true, ltb-false, leb-true, leb-false}
use Rattle.relay_batch.specs.declared.item.BatchItem.{BatchItem}
use Rattle.relay_batch.specs.declared.offer.Offer.TheVariants.{Added}
use Rattle.relay_batch.specs.Gathering.{answer_to, is_ready}
use Rattle.relay_results.specs.Words.{Mem}
use Rattle.relay_results.specs.Documents.{document_of, same_document}
use Rattle.relay_results.proofs.Lists.{true_or_false, and_left, and_right, and_both, or_left, or_right, Mem-filter, filter-Mem, Mem-map}
use Rattle.relay_delivery.specs.Machine.{Held, Place}
use Rattle.relay_delivery.specs.Lane.{Entry, Flying, held_of, waits, is_candidate, candidates}
use Rattle.relay_core.specs.Rule.{by_answer, gathering_after, closes, chosen_entries, item_of, with_item, is_marked, goes, batch_if}
use Rattle.relay_core.specs.State.{State, all_closed, gathering, next_batch, is_eligible, sooner, first_due, IsLane}
use Rattle.relay_core.proofs.Launching.{offered_chosen}
use Rattle.relay_lane.specs.Steps.{IsPressed, IsDueLater}
use Rattle.relay_lane.proofs.Limits.{valid_limits}

-- ---- the oldest may be sent, as soon as it is due

oldest : (e : Entry) (es : List Entry) → (o : Entry) × Mem o (e ∷ es) × ((j : Entry) → Mem j (e ∷ es) → o.held.version ≤ j.held.version)
oldest e [] = (e, inl refl, λ j m. ⊎_elim {C = e.held.version ≤ j.held.version} (λ same. let k = ap (λ (x : Entry). x.held.version) same in omega (arith, k)) (λ none. absurd none) m)
oldest e (d ∷ es) =
    let r = oldest d es in
    ⊎_elim {C = (o : Entry) × Mem o (e ∷ d ∷ es) × ((j : Entry) → Mem j (e ∷ d ∷ es) → o.held.version ≤ j.held.version)}
    (λ t.
    let lt = ltb-true _ _ t in (
      e,
      inl refl,
      λ j m. ⊎_elim {C = e.held.version ≤ j.held.version}
          (λ same. let k = ap (λ (x : Entry). x.held.version) same in omega (arith, k))
          (λ later. let k = r.2 j later in omega (arith, k, lt))
          m,
    ))
    (λ t.
    let ge = ltb-false _ _ t in (
      r.0,
      inr r.1,
      λ j m. ⊎_elim {C = r.0.held.version ≤ j.held.version}
          (λ same. let k = ap (λ (x : Entry). x.held.version) same in omega (arith, k, ge))
          (λ later. r.2 j later)
          m,
    ))
    (true_or_false (nat_lt e.held.version r.0.held.version))

none_of : {A : Type 0} (p : A → Bool) (xs : List A) → ((x : A) → Mem x xs → p x ≡ false) → list_any p xs ≡ false
none_of p [] f = refl
none_of p (x ∷ xs) f = ap (λ b. b || list_any p xs) (f x (inl refl)) ∙ none_of p xs (λ y m. f y (inr m))

and_false : (a b : Bool) → b ≡ false → (a && b) ≡ false
and_false true b e = e
and_false false b e = refl

not_below : (a b : ℕ) → b ≤ a → nat_lt a b ≡ false
not_below a b le = ⊎_elim {C = nat_lt a b ≡ false} (λ t. let k = ltb-true a b t in absurd (omega (arith, k, le))) (λ t. t) (true_or_false (nat_lt a b))

eligible : (s : State) (o : Entry) → waits o.held.flies ≡ true → ((j : Entry) → Mem j s.core.held → o.held.version ≤ j.held.version) → is_eligible s o ≡ true
eligible s o w least =
    let none = none_of (λ (j : Held). same_document (document_of j.op.key) (document_of o.held.op.key) && nat_lt j.version o.held.version) (held_of s.core.held)
    (λ j m.
    let e = Mem-map (λ (x : Entry). x.held) j s.core.held m in
    let v = ap (λ (x : Held). x.version) e.2 in
    let le = least e.0 e.1 in
    and_false (same_document (document_of j.op.key) (document_of o.held.op.key)) _ (not_below j.version o.held.version (omega (arith, v, le)))) in
    and_both (waits o.held.flies) _ w (ap not none)

-- ---- the first due

pub record HasFirst (es : List Entry) : Type 0 where
  pub due : ℕ
  pub is : first_due es ≡ Some due
  pub one : Entry
  pub among : Mem one es
  pub at : one.due ≡ due

first_is : (e : Entry) (es : List Entry) → HasFirst (e ∷ es)
first_is e [] = record { due = e.due; is = refl; one = e; among = inl refl; at = refl }
first_is e (d ∷ es) =
    let r = first_is d es in
    let is : first_due (e ∷ d ∷ es) ≡ Some (min e.due r.due) = ap (sooner e.due) r.is in
    ⊎_elim {C = HasFirst (e ∷ d ∷ es)}
    (λ t. let lt = ltb-true _ _ t in record { due = min e.due r.due; is = is; one = e; among = inl refl; at = omega (arith, lt) })
    (λ t. let ge = ltb-false _ _ t in let k = r.at in record { due = min e.due r.due; is = is; one = r.one; among = inr r.among; at = omega (arith, ge, k) })
    (true_or_false (nat_lt e.due r.due))

pub some_first : (es : List Entry) (o : Entry) → Mem o es → HasFirst es
some_first [] o m = absurd m
some_first (e ∷ es) o m = first_is e es

-- ---- what is due is sent

not_none : {A : Type 0} (x : Option A) (y : A) → x ≡ Some y → x ≡ None → ⊥
not_none x y a b = cc

if_goes : {A : Type 0} (b : Bool) (x : Option A) (y : A) → b ≡ true → x ≡ Some y → (if b then x else None) ≡ Some y
if_goes b x y t e = ap (λ c. if c then x else None) t ∙ e

below_test : (a b : ℕ) → a < b → nat_lt a b ≡ true
below_test a b lt = ⊎_elim {C = nat_lt a b ≡ true} (λ t. t) (λ t. let k = ltb-false a b t in absurd (omega (arith, k, lt))) (true_or_false (nat_lt a b))

above_test : (a b : ℕ) → b < a → nat_le a b ≡ false
above_test a b lt = ⊎_elim {C = nat_le a b ≡ false} (λ t. let k = leb-true a b t in absurd (omega (arith, k, lt))) (λ t. t) (true_or_false (nat_le a b))

pub within_test : (a b : ℕ) → a ≤ b → nat_le a b ≡ true
within_test a b le = ⊎_elim {C = nat_le a b ≡ true} (λ t. t) (λ t. let k = leb-false a b t in absurd (omega (arith, k, le))) (true_or_false (nat_le a b))

none_there : (fs : List Flying) (p : Place) → length fs ≡ 0 → list_any (λ (f : Flying). f.request == p.request) fs ≡ true → ⊥
none_there [] p e t = cc
none_there (f ∷ fs) p e t = absurd (omega (arith, e))

waits_where : (o : Option Place) → ((p : Place) → o ≡ Some p → ⊥) → waits o ≡ true
waits_where None none = refl
waits_where (Some p) none = absurd (none p refl)

-- the first offer is taken
first_added : (s : State) (i : BatchItem) → answer_to i (gathering s) ≡ Added
first_added s i = refl

module _ (s : State) (l : IsLane s) (still : length s.core.flying ≡ 0) (pressed : IsPressed s) where
  -- nothing flies
  all_wait : (e : Entry) → Mem e s.core.held → waits e.held.flies ≡ true
  all_wait e m = waits_where e.held.flies (λ p is. none_there s.core.flying p still ((l.in_order e m).flies p is).flies)

  batch_of_first : (c : Entry) (cs : List Entry) → candidates s.core ≡ c ∷ cs → Mem c s.core.held → next_batch s ≡ None → ⊥
  batch_of_first c cs are m none =
      let v = valid_limits s.config l.valid in
      let g = gathering s in
      let all = map item_of (candidates s.core) in
      let o = gathering_after all g in
      let added = first_added s (item_of c) in
      let items : o.items ≡ item_of c ∷ map item_of (chosen_entries cs (with_item (item_of c) g)) =
      offered_chosen (candidates s.core) g
      ∙ ap (λ es. map item_of (chosen_entries es g)) are
      ∙ ap (λ x. map item_of (by_answer x (chosen_entries cs g) [] (c ∷ chosen_entries cs (with_item (item_of c) g)))) added in
      let some : nat_lt 0 (length o.items) ≡ true = ap (λ is. nat_lt 0 (length is)) items ∙ below_test 0 _ (omega arith) in
      let due : (is_ready s.core.clock o || (closes all g || (is_marked s.mark o.items || all_closed s))) ≡ true =
      or_right (is_ready s.core.clock o) _ (or_right (closes all g) _
      (⊎_elim {C = (is_marked s.mark o.items || all_closed s) ≡ true}
      (λ closed. or_right (is_marked s.mark o.items) _ closed)
      (λ marked. or_left (is_marked s.mark o.items) _ (ap (is_marked s.mark) items ∙ within_test _ _ marked))
      (pressed c m))) in
      let goes_now : goes s.core.clock s.mark (all_closed s) o (closes all g) ≡ true = and_both (nat_lt 0 (length o.items)) _ some due in
      let places = l.beside in
      let few = v.places.0 in
      not_none (next_batch s) o.items
      (if_goes (nat_lt (length s.flights.batches) s.config.in_flight) _ o.items
      (below_test _ _ (omega (arith, places, still, few)))
      (ap (λ b. batch_if b o.items) goes_now))
      none

  none_due : (cs : List Entry) → candidates s.core ≡ cs → next_batch s ≡ None → (e : Entry) → Mem e (candidates s.core) → ⊥
  none_due [] are none e m = absurd (subst (Mem e) are m)
  none_due (c ∷ cs) are none e m =
      batch_of_first c cs are (Mem-filter (is_candidate s.core) c s.core.held (subst (Mem c) (sym are) (inl refl))).0 none

  later_at : (hs : List Entry) → s.core.held ≡ hs → 0 < length hs → next_batch s ≡ None → IsDueLater s
  later_at [] are some none = absurd (omega (arith, some))
  later_at (h ∷ hs) are some none =
      let o = oldest h hs in
      let held = subst (Mem o.0) (sym are) o.1 in
      let e = eligible s o.0 (all_wait o.0 held) (λ j m. o.2 j (subst (Mem j) are m)) in
      let f = some_first (filter (is_eligible s) s.core.held) o.0 (filter-Mem (is_eligible s) o.0 s.core.held held e) in
      let y = Mem-filter (is_eligible s) f.one s.core.held f.among in
      let at = f.at in
      let end = (l.in_order f.one y.0).due in
      let later : s.core.clock < f.due = ⊎_elim {C = s.core.clock < f.due}
      (λ t. absurd (none_due (candidates s.core) refl none f.one
      (filter-Mem (is_candidate s.core) f.one s.core.held y.0
      (and_both (waits f.one.held.flies) _ (and_left _ _ y.1) (and_both (nat_le f.one.due s.core.clock) _ t (and_right (waits f.one.held.flies) _ y.1))))))
      (λ t. let k = leb-false _ _ t in omega (arith, k, at))
      (true_or_false (nat_le f.one.due s.core.clock)) in
      record {
        ticks = f.due - s.core.clock;
        due = ap (option_map (λ due. due - s.core.clock)) f.is;
        some = omega (arith, later);
        within = omega (arith, later, at, end);
      }

  pub due_later : 0 < length s.core.held → next_batch s ≡ None → IsDueLater s
  due_later some none = later_at s.core.held refl some none
