-- All queues together are the held list: if each queue is what is held of its document, merging them gives what is held.
use Rattle.std.proofs.Common.{◌≡◌, ℕ, ◌<◌, ◌≤◌, List, [], ◌∷◌, Some, None, Bool, true, false, refl, sym, ap, ◌∙◌, ⊎_elim, arith}
use Rattle.std.specs.Prelude.{if◌then◌else◌, not, nat_lt, filter, unwrap_or}
use Rattle.std.specs.List.{IsDistinct, AllByRecursion}
use Rattle.std.specs.Map.{lookup, keys_of}
use Rattle.std.proofs.lemmas.Bool.{lt-ltb}
use Rattle.relay_action.specs.declared.key.DocKey.{DocKey}
use Rattle.relay_results.specs.Documents.{Document, document_of, same_document}
use Rattle.relay_results.proofs.Same.{same_document-true, same_document-self}
use Rattle.relay_results.proofs.Lists.{apart_tests, true_or_false}
use Rattle.relay_held.specs.declared.kept.Kept.{Kept}
use Rattle.relay_held.specs.Queues.{AllAbove, Rises, same_key, is_of, insert_one, insert_all, merge_of, queue_of, IsMerge}

-- ---- documents

pub same_self : (a : DocKey) → same_key a a ≡ true
same_self a = same_document-self (document_of a)

pub same_along : (a b c : DocKey) → same_key a b ≡ true → same_key a c ≡ same_key b c
same_along a b c t = ap (λ (d : Document). same_document d (document_of c)) (same_document-true (document_of a) (document_of b) t)

pub same_back : (a b : DocKey) → same_key a b ≡ true → same_key b a ≡ true
same_back a b t = sym (same_along a b a t) ∙ same_self a

pub apart_back : (a b : DocKey) → same_key a b ≡ false → same_key b a ≡ false
apart_back a b f = ⊎_elim {C = same_key b a ≡ false} (λ t. absurd (apart_tests (sym f ∙ same_back b a t))) (λ e. e) (true_or_false (same_key b a))

-- ---- lists

pub no_lt : (a b : ℕ) → b ≤ a → nat_lt a b ≡ false
no_lt a b le = ⊎_elim {C = nat_lt a b ≡ false} (λ t. let lt = Rattle.std.proofs.lemmas.Bool.ltb-true a b t in absurd (omega (arith, lt, le))) (λ e. e) (true_or_false (nat_lt a b))

pub above_more : (v w : ℕ) (hs : List Kept) → v ≤ w → AllAbove w hs → AllAbove v hs
above_more v w [] le a = tt
above_more v w (h ∷ hs) le a = (omega (arith, a.0, le), above_more v w hs le a.1)

pub above_filter : (p : Kept → Bool) (v : ℕ) (hs : List Kept) → AllAbove v hs → AllAbove v (filter p hs)
above_filter p v [] a = tt
above_filter p v (h ∷ hs) a = ⊎_elim {C = AllAbove v (filter p (h ∷ hs))}
    (λ t. rw t (a.0, above_filter p v hs a.1))
    (λ t. rw t (above_filter p v hs a.1))
    (true_or_false (p h))

pub rises_filter : (p : Kept → Bool) (hs : List Kept) → Rises hs → Rises (filter p hs)
rises_filter p [] r = tt
rises_filter p (h ∷ hs) r = ⊎_elim {C = Rises (filter p (h ∷ hs))}
    (λ t. rw t (above_filter p h.version hs r.0, rises_filter p hs r.1))
    (λ t. rw t (rises_filter p hs r.1))
    (true_or_false (p h))

insert_front : (x : Kept) (hs : List Kept) → AllAbove x.version hs → insert_one x hs ≡ x ∷ hs
insert_front x [] a = refl
insert_front x (h ∷ hs) a = rw (lt-ltb x.version h.version a.0) refl

insert_past : (x h : Kept) (hs : List Kept) → h.version < x.version → insert_one x (h ∷ hs) ≡ h ∷ insert_one x hs
insert_past x h hs lt = rw (no_lt x.version h.version (omega (arith, lt))) refl

inserted_past : (xs : List Kept) (h : Kept) (hs : List Kept) → AllAbove h.version xs → insert_all xs (h ∷ hs) ≡ h ∷ insert_all xs hs
inserted_past [] h hs a = refl
inserted_past (x ∷ xs) h hs a = ap (insert_one x) (inserted_past xs h hs a.1) ∙ insert_past x h (insert_all xs hs) a.0

-- what passes a test and what does not, merged
pub parted : (p : Kept → Bool) (hs : List Kept) → Rises hs → insert_all (filter p hs) (filter (λ h. not (p h)) hs) ≡ hs
parted p [] r = refl
parted p (h ∷ hs) r = ⊎_elim {C = insert_all (filter p (h ∷ hs)) (filter (λ x. not (p x)) (h ∷ hs)) ≡ h ∷ hs}
    (λ t. rw t (ap (insert_one h) (parted p hs r.1) ∙ insert_front h hs r.0))
    (λ t. rw t (inserted_past (filter p hs) h (filter (λ x. not (p x)) hs) (above_filter p h.version hs r.0) ∙ ap (λ ys. h ∷ ys) (parted p hs r.1)))
    (true_or_false (p h))

-- ---- the queues

-- no document has two queues
abbrev pub NoneTwice : List (DocKey × List Kept) → Type 0
NoneTwice [] = Unit {0}
NoneTwice (e ∷ es) = (lookup (same_key e.0) es ≡ None) × NoneTwice es

none_of : (k : DocKey) (es : List (DocKey × List Kept)) → AllByRecursion (λ y. same_key k y ≡ false) (keys_of es) → lookup (same_key k) es ≡ None
none_of k [] a = refl
none_of k (e ∷ es) a = rw (a.0) (none_of k es a.1)

pub none_twice : (es : List (DocKey × List Kept)) → IsDistinct same_key (keys_of es) → NoneTwice es
unfolding IsDistinct
none_twice [] d = tt
none_twice (e ∷ es) d = (none_of e.0 es d.0, none_twice es d.1)

lookup_along : (a b : DocKey) (es : List (DocKey × List Kept)) → same_key a b ≡ true → lookup (same_key a) es ≡ lookup (same_key b) es
lookup_along a b [] t = refl
lookup_along a b (e ∷ es) t = λ i. Rattle.std.specs.Prelude.cond (same_along a b e.0 t i) (Some e.1) (lookup_along a b es t i)

none_left : (k : DocKey) (hs : List Kept) (k0 : DocKey) → same_key k k0 ≡ true → filter (is_of k) (filter (λ h. not (is_of k0 h)) hs) ≡ []
none_left k [] k0 t = refl
none_left k (h ∷ hs) k0 t = ⊎_elim {C = filter (is_of k) (filter (λ x. not (is_of k0 x)) (h ∷ hs)) ≡ []}
    (λ a. rw a (none_left k hs k0 t))
    (λ f. let e : is_of k h ≡ false = same_along k k0 h.key t ∙ f in rw f (rw e (none_left k hs k0 t)))
    (true_or_false (is_of k0 h))

all_left : (k : DocKey) (hs : List Kept) (k0 : DocKey) → same_key k k0 ≡ false → filter (is_of k) (filter (λ h. not (is_of k0 h)) hs) ≡ filter (is_of k) hs
all_left k [] k0 f = refl
all_left k (h ∷ hs) k0 f = ⊎_elim {C = filter (is_of k) (filter (λ x. not (is_of k0 x)) (h ∷ hs)) ≡ filter (is_of k) (h ∷ hs)}
    (λ a. let e : is_of k h ≡ false = apart_back h.key k (sym (same_along k0 h.key k a) ∙ apart_back k k0 f) in rw a (rw e (all_left k hs k0 f)))
    (λ g. rw g (⊎_elim {C = filter (is_of k) (h ∷ filter (λ x. not (is_of k0 x)) hs) ≡ filter (is_of k) (h ∷ hs)}
    (λ b. rw b (ap (λ ys. h ∷ ys) (all_left k hs k0 f)))
    (λ b. rw b (all_left k hs k0 f))
    (true_or_false (is_of k h))))
    (true_or_false (is_of k0 h))

-- without the documents of the first queue
pub rest_merge : (e : DocKey × List Kept) (es : List (DocKey × List Kept)) (hs : List Kept) → NoneTwice (e ∷ es) → IsMerge (e ∷ es) hs → IsMerge es (filter (λ h. not (is_of e.0 h)) hs)
rest_merge e es hs n m = record {
  rises = rises_filter (λ h. not (is_of e.0 h)) hs m.rises;
  queues = λ k. ⊎_elim {C = queue_of es k ≡ filter (is_of k) (filter (λ h. not (is_of e.0 h)) hs)}
      (λ t. ap (λ o. unwrap_or o []) (lookup_along k e.0 es t ∙ n.0) ∙ sym (none_left k hs e.0 t))
      (λ f. ap (λ b. unwrap_or (Rattle.std.specs.Prelude.cond b (Some e.1) (lookup (same_key k) es)) []) (sym f) ∙ m.queues k ∙ sym (all_left k hs e.0 f))
      (true_or_false (same_key k e.0));
}

pub first_queue : (e : DocKey × List Kept) (es : List (DocKey × List Kept)) (hs : List Kept) → IsMerge (e ∷ es) hs → e.1 ≡ filter (is_of e.0) hs
first_queue e es hs m = ap (λ b. unwrap_or (Rattle.std.specs.Prelude.cond b (Some e.1) (lookup (same_key e.0) es)) []) (sym (same_self e.0)) ∙ m.queues e.0

none_held : (hs : List Kept) → IsMerge [] hs → [] ≡ hs
none_held [] m = refl
none_held (h ∷ hs) m = let e : [] ≡ h ∷ filter (is_of h.key) hs = m.queues h.key ∙ ap (λ b. if b then h ∷ filter (is_of h.key) hs else filter (is_of h.key) hs) (same_self h.key) in absurd (cc)

pub merge_is : (es : List (DocKey × List Kept)) (hs : List Kept) → NoneTwice es → IsMerge es hs → merge_of es ≡ hs
merge_is [] hs n m = none_held hs m
merge_is (e ∷ es) hs n m =
    (λ i. insert_all (first_queue e es hs m i) (merge_is es (filter (λ h. not (is_of e.0 h)) hs) n.1 (rest_merge e es hs n m) i))
    ∙ parted (is_of e.0) hs m.rises
