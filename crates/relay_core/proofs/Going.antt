-- The first of those that may go are sent, one after another.
use Rattle.std.proofs.Common.{length-append, ◌≡◌, ℕ, zero, suc, ◌+◌, ◌-◌, ◌<◌, ◌≤◌, List, [], ◌∷◌, ◌++◌, length, Option, Some, None, Bool, true, false, ◌==◌, ◌&&◌, refl, sym, ap, ◌∙◌, ⊎_elim, inl, inr, arith, drop, take}
use Rattle.std.specs.Prelude.{if◌then◌else◌, filter, map, slice_get, option_to_list, option_map, not, nat_lt, nat_le}
use Rattle.relay_action.specs.declared.key.DocKey.{DocKey}
use Rattle.relay_batch.specs.declared.item.BatchItem.{BatchItem}
use Rattle.relay_batch.specs.Gathering.{Gathering, answer_to, after_offer, holds_document, passes_count, passes_bytes}
use Rattle.std.specs.Prelude.{◌⊎◌, ◌||◌}
use Rattle.relay_batch.specs.declared.offer.Offer.{Offer}
use Rattle.relay_batch.specs.declared.offer.Offer.TheVariants.{Busy, Closed, Added}
use Rattle.relay_core.specs.Rule.{gathering_after, closes, by_answer, with_item}
use Rattle.std.specs.Prelude.{Ok}
use Rattle.relay_results.specs.Words.{Mem}
use Rattle.relay_results.specs.Documents.{Document, document_of, same_document}
use Rattle.relay_results.proofs.Lists.{apart_tests, true_or_false, some_same, equal, equal_test, Mem-filter, and_right, not_true}
use Rattle.relay_held.specs.declared.kept.Kept.{Kept}
use Rattle.relay_held.specs.Queues.{AllAbove, Rises, is_of, first_of, with_first, candidates_kept, is_candidate_kept, is_later_kept}
use Rattle.relay_held.proofs.Merging.{same_self}
use Rattle.relay_held.proofs.Changing.{Keeps}
use Rattle.relay_held.proofs.Holding.{launch_keeps}
use Rattle.relay_held.proofs.Heads.{above_mem, first_mem, not_later_first}
use Rattle.relay_held.specs.declared.kept.Candidate.{Candidate}
use Rattle.relay_held.specs.Operations.{candidate_of}
use Rattle.relay_core.specs.Walk.{waits_here, item_of_kept, item_of_candidate, is_next, launch_one, launched_kept, freight}

-- ---- the next one

pub record Next (cs : List Kept) (i : ℕ) : Type 0 where
  pub one : Kept
  pub here : drop i cs ≡ one ∷ drop (i + 1) cs

next_suc : (c : Kept) (cs : List Kept) (i : ℕ) → Next cs i → Next (c ∷ cs) (suc i)
next_suc c cs i n =
    let z : suc (i + 1) ≡ suc i + 1 = omega arith in
    record { one = n.one; here = n.here ∙ ap (λ k. n.one ∷ drop k (c ∷ cs)) z }

pub next_of : (cs : List Kept) (i : ℕ) → i < length cs → Next cs i
next_of [] i lt = absurd (omega (arith, lt))
next_of (c ∷ cs) zero lt = record { one = c; here = refl }
next_of (c ∷ cs) (suc i) lt = next_suc c cs i (next_of cs i (omega (arith, lt)))

pub drop_none : (cs : List Kept) (i : ℕ) → length cs ≤ i → drop i cs ≡ []
drop_none [] zero le = refl
drop_none [] (suc i) le = refl
drop_none (c ∷ cs) zero le = absurd (omega (arith, le))
drop_none (c ∷ cs) (suc i) le = drop_none cs i (omega (arith, le))

pub got_at : (cs : List Kept) (i : ℕ) (h : Kept) → drop i cs ≡ h ∷ drop (i + 1) cs → slice_get cs i ≡ Some h
got_at [] zero h e = absurd (cc)
got_at [] (suc i) h e = absurd (cc)
got_at (c ∷ cs) zero h e = ap (λ xs. slice_get xs 0) e
got_at (c ∷ cs) (suc i) h e =
    let z : suc i + 1 ≡ suc (i + 1) = omega arith in
    got_at cs i h (e ∙ ap (λ k. h ∷ drop k (c ∷ cs)) z)

-- what was asked for is one of them
pub record Asked (cs : List Kept) (i : ℕ) (x : Candidate) : Type 0 where
  pub one : Kept
  pub here : drop i cs ≡ one ∷ drop (i + 1) cs
  pub item : item_of_candidate x ≡ item_of_kept one
  pub within : i < length cs

asked_suc : (c : Kept) (cs : List Kept) (i : ℕ) (x : Candidate) → Asked cs i x → Asked (c ∷ cs) (suc i) x
asked_suc c cs i x a =
    let z : suc (i + 1) ≡ suc i + 1 = omega arith in let lt = a.within in
    record { one = a.one; here = a.here ∙ ap (λ k. a.one ∷ drop k (c ∷ cs)) z; item = a.item; within = omega (arith, lt) }

pub asked_for : (cs : List Kept) (i : ℕ) (x : Candidate) → Some x ≡ option_map candidate_of (slice_get cs i) → Asked cs i x
asked_for [] zero x e = absurd (cc)
asked_for [] (suc i) x e = absurd (cc)
asked_for (c ∷ cs) zero x e = record {
  one = c;
  here = refl;
  item = ap item_of_candidate (same_some x (candidate_of c) e);
  within = omega arith;
}
  where
    same_some : (a b : Candidate) → Some a ≡ Some b → a ≡ b
    same_some a b e = cc
asked_for (c ∷ cs) (suc i) x e = asked_suc c cs i x (asked_for cs i x e)

pub none_left : (cs : List Kept) (i : ℕ) → None ≡ option_map candidate_of (slice_get cs i) → drop i cs ≡ []
none_left [] zero e = refl
none_left [] (suc i) e = refl
none_left (c ∷ cs) zero e = absurd (cc)
none_left (c ∷ cs) (suc i) e = none_left cs i e

pub rises_drop : (i : ℕ) (cs : List Kept) → Rises cs → Rises (drop i cs)
rises_drop i [] r = none i
  where
    none : (n : ℕ) → Rises (drop n [])
    none zero = tt
    none (suc n) = tt
rises_drop zero (c ∷ cs) r = r
rises_drop (suc i) (c ∷ cs) r = rises_drop i cs r.1

-- ---- it is sent

abbrev pub NextAbove : ℕ → List BatchItem → Type 0
NextAbove v [] = Unit {0}
NextAbove v (i ∷ is) = v < i.version

pub above_taken : (v m : ℕ) (cs : List Kept) → AllAbove v cs → NextAbove v (map item_of_kept (take m cs))
above_taken v zero cs a = tt
above_taken v (suc m) [] a = tt
above_taken v (suc m) (c ∷ cs) a = a.0

is_it : (h : Kept) (is : List BatchItem) → h.flies ≡ None → is_next (item_of_kept h ∷ is) h ≡ true
is_it h is e = (λ i. (h.version == h.version) && waits_here (e i)) ∙ ap (λ b. b && true) (equal_test h.version h.version refl)

not_it : (h x : Kept) (is : List BatchItem) → x.version < h.version → is_next (item_of_kept h ∷ is) x ≡ false
not_it h x is lt = ap (λ b. b && waits_here x.flies) (⊎_elim {C = (x.version == h.version) ≡ false} (λ t. let e = equal x.version h.version t in absurd (omega (arith, lt, e))) (λ f. f) (true_or_false (x.version == h.version)))

not_next : (v : ℕ) (x : Kept) (is : List BatchItem) → x.version < v → NextAbove v is → is_next is x ≡ false
not_next v x [] lt a = refl
not_next v x (i ∷ is) lt a = ap (λ b. b && waits_here x.flies) (⊎_elim {C = (x.version == i.version) ≡ false} (λ t. let e = equal x.version i.version t in absurd (omega (arith, lt, e, a))) (λ f. f) (true_or_false (x.version == i.version)))

flies_now : (clock n p : ℕ) (h : Kept) (is : List BatchItem) → is_next is (launch_one clock n p h) ≡ false
flies_now clock n p h [] = refl
flies_now clock n p h (i ∷ is) = none (h.version == i.version)
  where
    none : (b : Bool) → (b && false) ≡ false
    none true = refl
    none false = refl

module _ (clock n p : ℕ) (k : DocKey) (h : Kept) (is : List BatchItem) (waits : h.flies ≡ None) (above : NextAbove h.version is) where
  pub launched_step : (hs : List Kept) → Rises hs → first_of k hs ≡ Some h → launched_kept clock hs n p (item_of_kept h ∷ is) ≡ launched_kept clock (with_first k (launch_one clock n p) hs) n (p + 1) is
  launched_step [] r e = absurd (cc)
  launched_step (x ∷ hs) r e = ⊎_elim {C = launched_kept clock (x ∷ hs) n p (item_of_kept h ∷ is) ≡ launched_kept clock (with_first k (launch_one clock n p) (x ∷ hs)) n (p + 1) is}
      (λ t. let same : x ≡ h = some_same x h (sym (ap (λ b. if b then Some x else first_of k hs) t) ∙ e) in
      ap (λ b. if b then launch_one clock n p x ∷ launched_kept clock hs n (p + 1) is else x ∷ launched_kept clock hs n p (item_of_kept h ∷ is)) (ap (λ (y : Kept). is_next (item_of_kept h ∷ is) y) same ∙ is_it h is waits)
      ∙ sym (ap (λ b. if b then launch_one clock n (p + 1) (launch_one clock n p x) ∷ launched_kept clock hs n (p + 1 + 1) (drop 1 is) else launch_one clock n p x ∷ launched_kept clock hs n (p + 1) is) (flies_now clock n p x is))
      ∙ ap (λ zs. launched_kept clock zs n (p + 1) is) (sym (ap (λ b. if b then launch_one clock n p x ∷ hs else x ∷ with_first k (launch_one clock n p) hs) t)))
      (λ f. let e' = sym (ap (λ b. if b then Some x else first_of k hs) f) ∙ e in
      let lt = above_mem x.version hs h r.0 (first_mem k hs h e').0 in
      ap (λ b. if b then launch_one clock n p x ∷ launched_kept clock hs n (p + 1) is else x ∷ launched_kept clock hs n p (item_of_kept h ∷ is)) (not_it h x is lt)
      ∙ ap (λ zs. x ∷ zs) (launched_step hs r.1 e')
      ∙ sym (ap (λ b. if b then launch_one clock n (p + 1) x ∷ launched_kept clock (with_first k (launch_one clock n p) hs) n (p + 1 + 1) (drop 1 is) else x ∷ launched_kept clock (with_first k (launch_one clock n p) hs) n (p + 1) is) (not_next h.version x is lt above))
      ∙ ap (λ zs. launched_kept clock zs n (p + 1) is) (sym (ap (λ b. if b then launch_one clock n p x ∷ hs else x ∷ with_first k (launch_one clock n p) hs) f)))
      (true_or_false (is_of k x))

  pub freight_step : (hs : List Kept) → Rises hs → first_of k hs ≡ Some h → freight hs (item_of_kept h ∷ is) ≡ option_to_list h.write ++ freight (with_first k (launch_one clock n p) hs) is
  freight_step [] r e = absurd (cc)
  freight_step (x ∷ hs) r e = ⊎_elim {C = freight (x ∷ hs) (item_of_kept h ∷ is) ≡ option_to_list h.write ++ freight (with_first k (launch_one clock n p) (x ∷ hs)) is}
      (λ t. let same : x ≡ h = some_same x h (sym (ap (λ b. if b then Some x else first_of k hs) t) ∙ e) in
      ap (λ b. if b then option_to_list x.write ++ freight hs is else freight hs (item_of_kept h ∷ is)) (ap (λ (y : Kept). is_next (item_of_kept h ∷ is) y) same ∙ is_it h is waits)
      ∙ ap (λ (y : Kept). option_to_list y.write ++ freight hs is) same
      ∙ ap (λ ws. option_to_list h.write ++ ws) (sym (ap (λ b. if b then option_to_list (launch_one clock n p x).write ++ freight hs (drop 1 is) else freight hs is) (flies_now clock n p x is))
      ∙ ap (λ zs. freight zs is) (sym (ap (λ b. if b then launch_one clock n p x ∷ hs else x ∷ with_first k (launch_one clock n p) hs) t))))
      (λ f. let e' = sym (ap (λ b. if b then Some x else first_of k hs) f) ∙ e in
      let lt = above_mem x.version hs h r.0 (first_mem k hs h e').0 in
      ap (λ b. if b then option_to_list x.write ++ freight hs is else freight hs (item_of_kept h ∷ is)) (not_it h x is lt)
      ∙ freight_step hs r.1 e'
      ∙ ap (λ ws. option_to_list h.write ++ ws) (sym (ap (λ b. if b then option_to_list x.write ++ freight (with_first k (launch_one clock n p) hs) (drop 1 is) else freight (with_first k (launch_one clock n p) hs) is) (not_next h.version x is lt above))
      ∙ ap (λ zs. freight zs is) (sym (ap (λ b. if b then launch_one clock n p x ∷ hs else x ∷ with_first k (launch_one clock n p) hs) f))))
      (true_or_false (is_of k x))

pub launched_none : (clock : ℕ) (hs : List Kept) (n p : ℕ) → launched_kept clock hs n p [] ≡ hs
launched_none clock [] n p = refl
launched_none clock (h ∷ hs) n p = ap (λ zs. h ∷ zs) (launched_none clock hs n p)

pub freight_none : (hs : List Kept) → freight hs [] ≡ []
freight_none [] = refl
freight_none (h ∷ hs) = freight_none hs

-- ---- the others stay the first of their documents

later_with : (k : DocKey) (f : Kept → Kept) (hs : List Kept) (d : Document) (v : ℕ) → Keeps f → is_later_kept (with_first k f hs) d v ≡ is_later_kept hs d v
later_with k f [] d v p = refl
later_with k f (h ∷ hs) d v p = ⊎_elim {C = is_later_kept (with_first k f (h ∷ hs)) d v ≡ is_later_kept (h ∷ hs) d v}
    (λ t. ap (λ b. is_later_kept (if b then f h ∷ hs else h ∷ with_first k f hs) d v) t
    ∙ (λ i. (same_document (document_of (p.key h i)) d && nat_lt (p.version h i) v) || is_later_kept hs d v))
    (λ t. ap (λ b. is_later_kept (if b then f h ∷ hs else h ∷ with_first k f hs) d v) t
    ∙ ap (λ b. (same_document (document_of h.key) d && nat_lt h.version v) || b) (later_with k f hs d v p))
    (true_or_false (is_of k h))

filter_same : (p q : Kept → Bool) (hs : List Kept) → ((h : Kept) → p h ≡ q h) → filter p hs ≡ filter q hs
filter_same p q [] e = refl
filter_same p q (h ∷ hs) e = λ i. if e h i then h ∷ filter_same p q hs e i else filter_same p q hs e i

without_it : (p : Kept → Bool) (k : DocKey) (f : Kept → Kept) (h : Kept) (hs : List Kept) → p h ≡ true → p (f h) ≡ false → is_of k h ≡ true → first_of k hs ≡ Some h → slice_get (filter p hs) 0 ≡ Some h
    → filter p (with_first k f hs) ≡ drop 1 (filter p hs)
without_it p k f h [] holds fails of first got = refl
without_it p k f h (x ∷ hs) holds fails of first got = ⊎_elim {C = filter p (with_first k f (x ∷ hs)) ≡ drop 1 (filter p (x ∷ hs))}
    (λ t. let same : x ≡ h = some_same x h (sym (ap (λ b. if b then Some x else first_of k hs) t) ∙ first) in
    ap (λ b. filter p (if b then f x ∷ hs else x ∷ with_first k f hs)) t
    ∙ ap (λ (y : Kept). filter p (f y ∷ hs)) same
    ∙ ap (λ b. if b then f h ∷ filter p hs else filter p hs) fails
    ∙ sym (ap (λ (y : Kept). drop 1 (filter p (y ∷ hs))) same ∙ ap (λ b. drop 1 (if b then h ∷ filter p hs else filter p hs)) holds))
    (λ t.
    let rest = sym (ap (λ b. if b then Some x else first_of k hs) t) ∙ first in
    let not_it : p x ≡ false = ⊎_elim {C = p x ≡ false}
    (λ u. let same : x ≡ h = some_same x h (sym (ap (λ b. slice_get (if b then x ∷ filter p hs else filter p hs) 0) u) ∙ got) in absurd (apart_tests (sym t ∙ ap (is_of k) same ∙ of)))
    (λ u. u) (true_or_false (p x)) in
    ap (λ b. filter p (if b then f x ∷ hs else x ∷ with_first k f hs)) t
    ∙ ap (λ b. if b then x ∷ filter p (with_first k f hs) else filter p (with_first k f hs)) not_it
    ∙ without_it p k f h hs holds fails of rest (sym (ap (λ b. slice_get (if b then x ∷ filter p hs else filter p hs) 0) not_it) ∙ got)
    ∙ ap (drop 1) (sym (ap (λ b. if b then x ∷ filter p hs else filter p hs) not_it)))
    (true_or_false (is_of k x))

-- one of them is the first of its document
pub its_first : (hs : List Kept) (clock : ℕ) (h : Kept) → Rises hs → slice_get (candidates_kept hs clock) 0 ≡ Some h → first_of h.key hs ≡ Some h
its_first hs clock h r e =
    let c = Mem-filter (is_candidate_kept hs clock) h hs (get_mem (candidates_kept hs clock) h e) in
    let rest = and_right (waits_here h.flies) (nat_le h.due clock && not (is_later_kept hs (document_of h.key) h.version)) c.1 in
    not_later_first hs h r c.0 (not_true _ (and_right (nat_le h.due clock) _ rest))
  where
    get_mem : (cs : List Kept) (x : Kept) → slice_get cs 0 ≡ Some x → Mem x cs
    get_mem [] x e = absurd (cc)
    get_mem (c ∷ cs) x e = inl (sym (some_same c x e))

-- the first of them is sent: the others may still go
pub candidates_next : (hs : List Kept) (clock number place : ℕ) (h : Kept) → Rises hs → slice_get (candidates_kept hs clock) 0 ≡ Some h
    → candidates_kept (with_first h.key (launch_one clock number place) hs) clock ≡ drop 1 (candidates_kept hs clock)
candidates_next hs clock number place h r e =
    let f = launch_one clock number place in
    let k = h.key in
    let mem = Mem-filter (is_candidate_kept hs clock) h hs (get_mem (candidates_kept hs clock) h e) in
    filter_same (is_candidate_kept (with_first k f hs) clock) (is_candidate_kept hs clock) (with_first k f hs)
    (λ x. ap (λ b. waits_here x.flies && (nat_le x.due clock && not b)) (later_with k f hs (document_of x.key) x.version (launch_keeps clock number place)))
    ∙ without_it (is_candidate_kept hs clock) k f h hs mem.1 refl (same_self k) (its_first hs clock h r e) e
  where
    get_mem : (cs : List Kept) (x : Kept) → slice_get cs 0 ≡ Some x → Mem x cs
    get_mem [] x e = absurd (cc)
    get_mem (c ∷ cs) x e = inl (sym (some_same c x e))

pub waits_of : (hs : List Kept) (clock : ℕ) (i : ℕ) (h : Kept) (rest : List Kept) → drop i (candidates_kept hs clock) ≡ h ∷ rest → h.flies ≡ None
waits_of hs clock i h rest e = none h.flies (Rattle.relay_results.proofs.Lists.and_left (waits_here h.flies) _ (Rattle.relay_results.proofs.Lists.Mem-filter (is_candidate_kept hs clock) h hs (mem i (candidates_kept hs clock) e)).1)
  where
    none : (s : Option Rattle.relay_held.specs.declared.kept.Spot.Spot) → waits_here s ≡ true → s ≡ None
    none None t = refl
    none (Some s) t = absurd (apart_tests t)

    mem : (j : ℕ) (xs : List Kept) → drop j xs ≡ h ∷ rest → Mem h xs
    mem zero [] z = absurd (cc)
    mem (suc j) [] z = absurd (cc)
    mem zero (x ∷ xs) z = inl (sym (some_same x h (ap (λ ys. slice_get ys 0) z)))
    mem (suc j) (x ∷ xs) z = inr (mem j xs z)

pub take_less : (m i : ℕ) (cs : List Kept) (h : Kept) → i < m → drop i cs ≡ h ∷ drop (i + 1) cs → take (m - i) (drop i cs) ≡ h ∷ take (m - (i + 1)) (drop (i + 1) cs)
take_less m i cs h lt e =
    let z : m - i ≡ suc (m - (i + 1)) = omega (arith, lt) in
    ap (λ xs. take (m - i) xs) e ∙ ap (λ j. take j (h ∷ drop (i + 1) cs)) z

-- ---- offers

pub offer_closed : (i : BatchItem) (is : List BatchItem) (g : Gathering) → answer_to i g ≡ Closed
    → (gathering_after (i ∷ is) g ≡ g) × (closes (i ∷ is) g ≡ true)
offer_closed i is g e = (
  ap (λ o. by_answer o (gathering_after is g) g (gathering_after is (with_item i g))) e,
  ap (λ o. by_answer o (closes is g) true (closes is (with_item i g))) e,
)

pub items_next : (cs : List Kept) (i : ℕ) (h x : Kept) → drop i cs ≡ h ∷ drop (i + 1) cs → h ≡ x → map item_of_kept (drop i cs) ≡ item_of_kept x ∷ map item_of_kept (drop (i + 1) cs)
items_next cs i h x e is = ap (map item_of_kept) e ∙ ap (λ (y : Kept). item_of_kept y ∷ map item_of_kept (drop (i + 1) cs)) is

pub offer_on : (i : BatchItem) (is : List BatchItem) (g g' : Gathering) (o : Offer) → o ≡ answer_to i g → (o ≡ Closed → ⊥) → g' ≡ after_offer {E = Unit {0}} i g (Ok o)
    → (gathering_after (i ∷ is) g ≡ gathering_after is g') × (closes (i ∷ is) g ≡ closes is g')
offer_on i is g g' Busy e n after = (
  ap (λ o. by_answer o (gathering_after is g) g (gathering_after is (with_item i g))) (sym e) ∙ ap (gathering_after is) (sym after),
  ap (λ o. by_answer o (closes is g) true (closes is (with_item i g))) (sym e) ∙ ap (closes is) (sym after),
)
offer_on i is g g' Closed e n after = absurd (n refl)
offer_on i is g g' Added e n after = (
  ap (λ o. by_answer o (gathering_after is g) g (gathering_after is (with_item i g))) (sym e) ∙ ap (gathering_after is) (sym after),
  ap (λ o. by_answer o (closes is g) true (closes is (with_item i g))) (sym e) ∙ ap (closes is) (sym after),
)

pub one_more_at_most : (i : BatchItem) (g g' : Gathering) (o : Offer) → g' ≡ after_offer {E = Unit {0}} i g (Ok o) → length g'.items ≤ length g.items + 1
one_more_at_most i g g' Busy after = let e = ap (λ (x : Gathering). length x.items) after in omega (arith, e)
one_more_at_most i g g' Closed after = let e = ap (λ (x : Gathering). length x.items) after in omega (arith, e)
one_more_at_most i g g' Added after =
    let e = ap (λ (x : Gathering). length x.items) after in
    let n = length-append g.items (i ∷ []) in
    omega (arith, e, n)

-- ---- the batch is made of the first of them: no offer is Busy, since versions number the documents and increase

abbrev pub DocsBelow : ℕ → List BatchItem → Type 0
DocsBelow v [] = Unit {0}
DocsBelow v (i ∷ is) = (i.doc < v) × DocsBelow v is

pub docs_free : (v : ℕ) (is : List BatchItem) → DocsBelow v is → holds_document v is ≡ false
docs_free v [] b = refl
docs_free v (i ∷ is) b = ⊎_elim {C = ((i.doc == v) || holds_document v is) ≡ false}
    (λ t. let e = equal i.doc v t in absurd (omega (arith, e, b.0)))
    (λ f. ap (λ x. x || holds_document v is) f ∙ docs_free v is b.1)
    (true_or_false (i.doc == v))

docs_more : (v w : ℕ) (is : List BatchItem) (x : BatchItem) → v < w → x.doc ≡ v → DocsBelow v is → DocsBelow w (is ++ x ∷ [])
docs_more v w [] x lt e b = (omega (arith, lt, e), tt)
docs_more v w (i ∷ is) x lt e b = (omega (arith, lt, b.0), docs_more v w is x lt e b.1)

pub answered_open : (i : BatchItem) (g : Gathering) → holds_document i.doc g.items ≡ false → (answer_to i g ≡ Closed) ⊎ (answer_to i g ≡ Added)
answered_open i g f = ⊎_elim {C = (answer_to i g ≡ Closed) ⊎ (answer_to i g ≡ Added)}
    (λ t. inl (ap (λ b. if b then Busy else if (passes_count g i.cap || passes_bytes g i.bytes) then Closed else Added) f ∙ ap (λ b. if b then Closed else Added) t))
    (λ n. inr (ap (λ b. if b then Busy else if (passes_count g i.cap || passes_bytes g i.bytes) then Closed else Added) f ∙ ap (λ b. if b then Closed else Added) n))
    (true_or_false (passes_count g i.cap || passes_bytes g i.bytes))

none_behind : (xs : List BatchItem) → xs ≡ xs ++ []
none_behind [] = refl
none_behind (x ∷ xs) = ap (λ ys. x ∷ ys) (none_behind xs)

abbrev pub BelowFirst : List Kept → List BatchItem → Type 0
BelowFirst [] is = Unit {0}
BelowFirst (c ∷ cs) is = DocsBelow c.version is

pub below_next : (c : Kept) (cs : List Kept) (is : List BatchItem) → AllAbove c.version cs → DocsBelow c.version is → BelowFirst cs (is ++ item_of_kept c ∷ [])
below_next c [] is a b = tt
below_next c (d ∷ cs) is a b = docs_more c.version d.version is (item_of_kept c) a.0 refl b

pub first_ones : (cs : List Kept) (g : Gathering) → Rises cs → BelowFirst cs g.items → (n : ℕ) × ((gathering_after (map item_of_kept cs) g).items ≡ g.items ++ map item_of_kept (take n cs)) × (n ≤ length cs)
first_ones [] g r b = (0, none_behind g.items, omega arith)
first_ones (c ∷ cs) g r b = ⊎_elim {C = (n : ℕ) × ((gathering_after (map item_of_kept (c ∷ cs)) g).items ≡ g.items ++ map item_of_kept (take n (c ∷ cs))) × (n ≤ length (c ∷ cs))}
    (λ e. (0, ap (λ (h : Gathering). h.items) (offer_closed (item_of_kept c) (map item_of_kept cs) g e).0 ∙ none_behind g.items, omega arith))
    (λ e. let rest = first_ones cs (with_item (item_of_kept c) g) r.1 (below_next c cs g.items r.0 b) in (
      suc rest.0,
      ap (λ o. (by_answer o (gathering_after (map item_of_kept cs) g) g (gathering_after (map item_of_kept cs) (with_item (item_of_kept c) g))).items) e
          ∙ rest.1 ∙ Rattle.std.proofs.Common.append_assoc g.items (item_of_kept c ∷ []) (map item_of_kept (take rest.0 cs)),
      let le = rest.2 in omega (arith, le),
    ))
    (answered_open (item_of_kept c) g (docs_free c.version g.items b))
