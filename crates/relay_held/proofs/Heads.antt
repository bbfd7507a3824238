-- Which operations may be sent: each is the first of its document.
use Rattle.std.proofs.Common.{◌≡◌, ℕ, ◌<◌, ◌≤◌, List, [], ◌∷◌, length, Option, Some, None, Bool, true, false, ◌&&◌, ◌||◌, refl, sym, ap, ◌∙◌, subst, ⊎_elim, inl, inr, arith}
use Rattle.std.specs.Prelude.{◌⊎◌, if◌then◌else◌, filter, slice_get, not, nat_lt, nat_le, unwrap_or, map, IsSome}
use Rattle.std.specs.List.{IsDistinct, AllByRecursion}
use Rattle.std.specs.Map.{keys_of, lookup}
use Rattle.std.proofs.lemmas.Bool.{lt-ltb}
use Rattle.std.proofs.lemmas.List.{length-map}
use Rattle.std.proofs.lemmas.Map.Steps.{length-le_from_keys}
use Rattle.relay_action.specs.declared.key.DocKey.{DocKey}
use Rattle.relay_results.specs.Documents.{Document, document_of, same_document}
use Rattle.relay_results.specs.Words.{Mem}
use Rattle.relay_results.proofs.Lists.{apart_tests, true_or_false, some_same, and_left, and_right, and_both, not_true, Mem-filter, filter-Mem, Mem-map, any_true, or_left}
use Rattle.relay_held.specs.declared.kept.Kept.{Kept}
use Rattle.relay_held.specs.Operations.{waits_here}
use Rattle.relay_held.specs.Queues.{AllAbove, Rises, same_key, is_of, first_of, is_later_kept, is_candidate_kept, is_eligible_kept, candidates_kept, eligible, IsMerge}
use Rattle.relay_held.proofs.Merging.{same_self, same_along, same_back, apart_back, no_lt, rises_filter}
use Rattle.relay_held.proofs.Changing.{first_is, same_queue, same_key_laws}

-- ---- the first of a document is no later than another

pub above_mem : (v : ℕ) (hs : List Kept) (x : Kept) → AllAbove v hs → Mem x hs → v < x.version
above_mem v [] x a m = elim m [ ]
above_mem v (h ∷ hs) x a m = ⊎_elim (λ e. let w = ap (λ (y : Kept). y.version) e in omega (arith, a.0, w)) (λ n. above_mem v hs x a.1 n) m

-- two that are held with the same version are equal
pub one_version : (hs : List Kept) (x y : Kept) → Rises hs → Mem x hs → Mem y hs → x.version ≡ y.version → x ≡ y
one_version [] x y r m n e = elim m [ ]
one_version (h ∷ hs) x y r m n e =
    ⊎_elim {C = x ≡ y}
    (λ a. ⊎_elim {C = x ≡ y} (λ b. a ∙ sym b) (λ b. let lt = above_mem h.version hs y r.0 b in let v = ap (λ (z : Kept). z.version) a in absurd (omega (arith, lt, v, e))) n)
    (λ a. ⊎_elim {C = x ≡ y} (λ b. let lt = above_mem h.version hs x r.0 a in let v = ap (λ (z : Kept). z.version) b in absurd (omega (arith, lt, v, e))) (λ b. one_version hs x y r.1 a b e) n)
    m

above_none : (hs : List Kept) (k : Document) (v w : ℕ) → v ≤ w → AllAbove w hs → is_later_kept hs k v ≡ false
above_none [] k v w le a = refl
above_none (h ∷ hs) k v w le a =
    let lt = a.0 in
    rw (no_lt h.version v (omega (arith, lt, le))) (rw (and_no (same_document (document_of h.key) k)) (above_none hs k v w le a.1))
  where
    and_no : (b : Bool) → (b && false) ≡ false
    and_no true = refl
    and_no false = refl

pub first_mem : (k : DocKey) (hs : List Kept) (h : Kept) → first_of k hs ≡ Some h → Mem h hs × (is_of k h ≡ true)
first_mem k [] h e = absurd (cc)
first_mem k (x ∷ hs) h e = ⊎_elim {C = Mem h (x ∷ hs) × (is_of k h ≡ true)}
    (λ t. let is : x ≡ h = some_same x h (sym (ap (λ b. if b then Some x else first_of k hs) t) ∙ e) in (inl (sym is), sym (ap (is_of k) is) ∙ t))
    (λ f. let r = first_mem k hs h (sym (ap (λ b. if b then Some x else first_of k hs) f) ∙ e) in (inr r.0, r.1))
    (true_or_false (is_of k x))

pub first_not_later : (k : DocKey) (hs : List Kept) (h : Kept) → Rises hs → first_of k hs ≡ Some h → is_later_kept hs (document_of h.key) h.version ≡ false
first_not_later k [] h r e = absurd (cc)
first_not_later k (x ∷ hs) h r e = ⊎_elim {C = is_later_kept (x ∷ hs) (document_of h.key) h.version ≡ false}
    (λ t. let is : x ≡ h = some_same x h (sym (ap (λ b. if b then Some x else first_of k hs) t) ∙ e) in
    let v = ap (λ (y : Kept). y.version) is in
    neither (same_document (document_of x.key) (document_of h.key)) (nat_lt x.version h.version) _ (inr (no_lt x.version h.version (omega (arith, v)))) (above_none hs (document_of h.key) h.version x.version (omega (arith, v)) r.0))
    (λ f. let e' = sym (ap (λ b. if b then Some x else first_of k hs) f) ∙ e in
    let of = (first_mem k hs h e').1 in
    let apart : same_key x.key h.key ≡ false = apart_back h.key x.key (sym (same_along k h.key x.key of) ∙ f) in
    neither (same_document (document_of x.key) (document_of h.key)) (nat_lt x.version h.version) _ (inl apart) (first_not_later k hs h r.1 e'))
    (true_or_false (is_of k x))
  where
    neither : (a b c : Bool) → (a ≡ false) ⊎ (b ≡ false) → c ≡ false → ((a && b) || c) ≡ false
    neither true true c (inl e) f = absurd (cc)
    neither true true c (inr e) f = absurd (cc)
    neither true false c e f = f
    neither false b c e f = f

pub not_later_first : (hs : List Kept) (h : Kept) → Rises hs → Mem h hs → is_later_kept hs (document_of h.key) h.version ≡ false → first_of h.key hs ≡ Some h
not_later_first [] h r m e = elim m [ ]
not_later_first (x ∷ hs) h r m e = ⊎_elim {C = first_of h.key (x ∷ hs) ≡ Some h}
    (λ t. rw t (⊎_elim {C = Some x ≡ Some h}
    (λ is. ap Some (sym is))
    (λ n. let lt = above_mem x.version hs h r.0 n in
    let yes = and_both (same_document (document_of x.key) (document_of h.key)) (nat_lt x.version h.version) (same_back h.key x.key t) (lt-ltb x.version h.version lt) in
    absurd (apart_tests (sym e ∙ or_left _ (is_later_kept hs (document_of h.key) h.version) yes)))
    m))
    (λ f. rw f (⊎_elim {C = first_of h.key hs ≡ Some h}
    (λ is. absurd (apart_tests (sym f ∙ ap (λ (y : Kept). same_key h.key y.key) (sym is) ∙ same_self h.key)))
    (λ n. not_later_first hs h r.1 n (none_right _ _ e))
    m))
    (true_or_false (is_of h.key x))
  where
    none_right : (a b : Bool) → (a || b) ≡ false → b ≡ false
    none_right true b h = cc
    none_right false b h = h

-- ---- those that wait

pub eligible_is : (k : DocKey) (hs : List Kept) (h : Kept) → Rises hs → first_of k hs ≡ Some h → waits_here h.flies ≡ true → Mem h (eligible hs)
eligible_is k hs h r e w = filter-Mem (is_eligible_kept hs) h hs (first_mem k hs h e).0 (and_both (waits_here h.flies) _ w (ap not (first_not_later k hs h r e)))

pub eligible_first : (hs : List Kept) (h : Kept) → Rises hs → Mem h (eligible hs) → (first_of h.key hs ≡ Some h) × (waits_here h.flies ≡ true)
eligible_first hs h r m =
    let c = Mem-filter (is_eligible_kept hs) h hs m in
    let no = not_true _ (and_right (waits_here h.flies) _ c.1) in
    (not_later_first hs h r c.0 no, and_left (waits_here h.flies) _ c.1)

pub eligible_rises : (hs : List Kept) → Rises hs → Rises (eligible hs)
eligible_rises hs r = rises_filter (is_eligible_kept hs) hs r

-- the candidates are those of them that are due
pub due_eligible : (hs : List Kept) (clock : ℕ) → candidates_kept hs clock ≡ filter (λ (h : Kept). nat_le h.due clock) (eligible hs)
due_eligible hs clock = go hs
  where
    due : (b c d : Bool) (h : Kept) (xs ys : List Kept) → nat_le h.due clock ≡ c → xs ≡ filter (λ (h : Kept). nat_le h.due clock) ys
        → (if b && (c && d) then h ∷ xs else xs) ≡ filter (λ (h : Kept). nat_le h.due clock) (if b && d then h ∷ ys else ys)
    due true true true h xs ys t e = rw t (ap (λ zs. h ∷ zs) e)
    due true false true h xs ys t e = rw t e
    due true true false h xs ys t e = e
    due true false false h xs ys t e = e
    due false c d h xs ys t e = e

    go : (xs : List Kept) → filter (is_candidate_kept hs clock) xs ≡ filter (λ (h : Kept). nat_le h.due clock) (filter (is_eligible_kept hs) xs)
    go [] = refl
    go (x ∷ xs) = due (waits_here x.flies) (nat_le x.due clock) (not (is_later_kept hs (document_of x.key) x.version)) x (filter (is_candidate_kept hs clock) xs) (filter (is_eligible_kept hs) xs) refl (go xs)

pub candidate_first : (hs : List Kept) (clock : ℕ) (h : Kept) → Rises hs → Mem h (candidates_kept hs clock) → (first_of h.key hs ≡ Some h) × ((waits_here h.flies && nat_le h.due clock) ≡ true)
candidate_first hs clock h r m =
    let l = Mem-filter (λ (x : Kept). nat_le x.due clock) h (eligible hs) (subst (Mem h) (due_eligible hs clock) m) in
    let f = eligible_first hs h r l.0 in
    (f.0, and_both (waits_here h.flies) (nat_le h.due clock) f.1 l.1)

-- ---- no more candidates than documents

all_apart : (hs : List Kept) (h : Kept) (cs : List Kept) → ((x : Kept) → Mem x cs → same_key h.key x.key ≡ false) → AllByRecursion (λ (k : DocKey). same_key h.key k ≡ false) (map (λ (x : Kept). x.key) cs)
all_apart hs h [] f = tt
all_apart hs h (c ∷ cs) f = (f c (inl refl), all_apart hs h cs (λ x m. f x (inr m)))

keys_apart : (hs cs : List Kept) → Rises cs → ((x : Kept) → Mem x cs → first_of x.key hs ≡ Some x) → IsDistinct same_key (map (λ (x : Kept). x.key) cs)
unfolding IsDistinct
keys_apart hs [] r f = tt
keys_apart hs (h ∷ cs) r f = (
  all_apart hs h cs (λ x m. ⊎_elim {C = same_key h.key x.key ≡ false}
      (λ t. let is = some_same h x (sym (f h (inl refl)) ∙ first_along h.key x.key hs t ∙ f x (inr m)) in
      let v = ap (λ (y : Kept). y.version) is in
      let lt = above_mem h.version cs x r.0 m in absurd (omega (arith, v, lt)))
      (λ n. n)
      (true_or_false (same_key h.key x.key))),
  keys_apart hs cs r.1 (λ x m. f x (inr m)),
)
  where
    first_along : (a b : DocKey) (ys : List Kept) → same_key a b ≡ true → first_of a ys ≡ first_of b ys
    first_along a b [] t = refl
    first_along a b (y ∷ ys) t = λ i. if same_along a b y.key t i then Some y else first_along a b ys t i

pub few_eligible : (es : List (DocKey × List Kept)) (hs : List Kept) → IsMerge es hs → length (eligible hs) ≤ length (keys_of es)
few_eligible es hs m =
    let cs = eligible hs in
    let le = length-le_from_keys same_key_laws (map (λ (x : Kept). x.key) cs) es
    (keys_apart hs cs (eligible_rises hs m.rises) (λ x c. (eligible_first hs x m.rises c).0))
    (λ q a. found q (any_true (same_key q) (map (λ (x : Kept). x.key) cs) a)) in
    let l = length-map cs (λ (x : Kept). x.key) in
    let n = length-map es (λ (e : DocKey × List Kept). e.0) in
    omega (arith, le, l, n)
  where
    some_queue : (o : Option (List Kept)) (h : Kept) → slice_get (unwrap_or o []) 0 ≡ Some h → IsSome o
    some_queue None h e = absurd (cc)
    some_queue (Some q) h e = refl

    found : (q : DocKey) → (k : DocKey) × Mem k (map (λ (x : Kept). x.key) (eligible hs)) × (same_key q k ≡ true) → IsSome (lookup (same_key q) es)
    found q a =
        let x = Mem-map (λ (x : Kept). x.key) a.0 (eligible hs) a.1 in
        let first = (eligible_first hs x.0 m.rises x.1).0 in
        let t = subst (λ k. same_key q k ≡ true) x.2 a.2 in
        some_queue (lookup (same_key q) es) x.0
        (ap (λ l. slice_get l 0) (same_queue es q x.0.key t ∙ m.queues x.0.key) ∙ sym (first_is x.0.key hs) ∙ first)

length_filter : (p : Kept → Bool) (hs : List Kept) → length (filter p hs) ≤ length hs
length_filter p [] = omega arith
length_filter p (h ∷ hs) = let le = length_filter p hs in ⊎_elim {C = length (filter p (h ∷ hs)) ≤ length (h ∷ hs)}
    (λ t. rw t (omega (arith, le)))
    (λ f. rw f (omega (arith, le)))
    (true_or_false (p h))

pub few_candidates : (clock : ℕ) (es : List (DocKey × List Kept)) (hs : List Kept) → IsMerge es hs → length (candidates_kept hs clock) ≤ length (keys_of es)
few_candidates clock es hs m =
    let e = ap length (due_eligible hs clock) in
    let le = length_filter (λ (h : Kept). nat_le h.due clock) (eligible hs) in
    let few = few_eligible es hs m in
    omega (arith, e, le, few)
