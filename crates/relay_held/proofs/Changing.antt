-- What a change of one queue makes of the held list.
use Rattle.std.proofs.Common.{◌≡◌, ℕ, ◌<◌, List, [], ◌∷◌, ◌++◌, Option, Some, Bool, true, false, refl, sym, ap, ◌∙◌, subst, ⊎_elim, arith, drop}
use Rattle.std.specs.Prelude.{if◌then◌else◌, cond, filter, unwrap_or, slice_get}
use Rattle.std.specs.List.{IsDistinct}
use Rattle.std.specs.Map.{lookup, keys_of}
use Rattle.std.specs.Cmp.{IsEquivalence}
use Rattle.indexmap.specs.IndexMap.{IndexMap, Updates}
use Rattle.relay_action.specs.declared.key.DocKey.{DocKey}
use Rattle.relay_results.proofs.Lists.{true_or_false}
use Rattle.relay_held.specs.declared.kept.Kept.{Kept}
use Rattle.relay_held.specs.Queues.{AllAbove, AllUnder, Rises, same_key, is_of, first_of, with_first, without_first, on_first, merge_of, queue_of, IsMerge, Changes}
use Rattle.relay_held.proofs.Merging.{same_self, same_along, same_back, apart_back, none_twice, merge_is}

-- ---- a change of a map

cond_out : (b : Bool) (w : Option (List Kept)) (o : Option (List Kept)) → unwrap_or (cond b w o) [] ≡ cond b (unwrap_or w []) (unwrap_or o [])
cond_out true w o = refl
cond_out false w o = refl

pub changes_of : {S : Type 0} (m n : IndexMap DocKey (List Kept) S) (key : DocKey) (w : Option (List Kept)) → Updates same_key m n key w → Changes m.entries n.entries key (unwrap_or w [])
changes_of m n key w u = record { queues = λ k. ap (λ o. unwrap_or o []) (u.0 k) ∙ cond_out (same_key key k) w (lookup (same_key k) m.entries) }

pub same_queue : (es : List (DocKey × List Kept)) (a b : DocKey) → same_key a b ≡ true → queue_of es a ≡ queue_of es b
same_queue [] a b t = refl
same_queue (e ∷ es) a b t = ap (λ o. unwrap_or o []) (found (e ∷ es))
  where
    found : (fs : List (DocKey × List Kept)) → lookup (same_key a) fs ≡ lookup (same_key b) fs
    found [] = refl
    found (f ∷ fs) = λ i. cond (same_along a b f.0 t i) (Some f.1) (found fs i)

-- a change that changes nothing
pub changes_none : (es : List (DocKey × List Kept)) (key : DocKey) (q : List Kept) → q ≡ queue_of es key → Changes es es key q
changes_none es key q e = record {
  queues = λ k. ⊎_elim {C = queue_of es k ≡ cond (same_key key k) q (queue_of es k)}
      (λ t. rw t (sym (same_queue es key k t) ∙ sym e))
      (λ f. rw f refl)
      (true_or_false (same_key key k));
}

-- ---- one more comes last

rises_push : (x : Kept) (hs : List Kept) → Rises hs → AllUnder x.version hs → Rises (hs ++ x ∷ [])
rises_push x [] r u = (tt, tt)
rises_push x (h ∷ hs) r u = (above_push h.version hs r.0 u.0, rises_push x hs r.1 u.1)
  where
    above_push : (v : ℕ) (ys : List Kept) → AllAbove v ys → v < x.version → AllAbove v (ys ++ x ∷ [])
    above_push v [] a lt = (lt, tt)
    above_push v (y ∷ ys) a lt = (a.0, above_push v ys a.1 lt)

pub filter_push : (p : Kept → Bool) (hs : List Kept) (x : Kept) → filter p (hs ++ x ∷ []) ≡ filter p hs ++ (if p x then x ∷ [] else [])
filter_push p [] x = refl
filter_push p (h ∷ hs) x = ⊎_elim {C = filter p ((h ∷ hs) ++ x ∷ []) ≡ filter p (h ∷ hs) ++ (if p x then x ∷ [] else [])}
    (λ t. rw t (ap (λ ys. h ∷ ys) (filter_push p hs x)))
    (λ f. rw f (filter_push p hs x))
    (true_or_false (p h))

none_more : (xs : List Kept) → xs ≡ xs ++ []
none_more [] = refl
none_more (x ∷ xs) = ap (λ ys. x ∷ ys) (none_more xs)

pub push_merges : (es fs : List (DocKey × List Kept)) (hs : List Kept) (x : Kept) → IsMerge es hs → AllUnder x.version hs → Changes es fs x.key (queue_of es x.key ++ x ∷ []) → IsMerge fs (hs ++ x ∷ [])
push_merges es fs hs x m u c = record {
  rises = rises_push x hs m.rises u;
  queues = λ k. c.queues k ∙ ⊎_elim {C = cond (same_key x.key k) (queue_of es x.key ++ x ∷ []) (queue_of es k) ≡ filter (is_of k) (hs ++ x ∷ [])}
      (λ t. let b : is_of k x ≡ true = same_back x.key k t in
      rw t (ap (λ q. q ++ x ∷ []) (same_queue es x.key k t ∙ m.queues k) ∙ sym (filter_push (is_of k) hs x ∙ ap (λ v. filter (is_of k) hs ++ (if v then x ∷ [] else [])) b)))
      (λ f. let b : is_of k x ≡ false = apart_back x.key k f in
      rw f (m.queues k ∙ none_more (filter (is_of k) hs) ∙ sym (filter_push (is_of k) hs x ∙ ap (λ v. filter (is_of k) hs ++ (if v then x ∷ [] else [])) b)))
      (true_or_false (same_key x.key k));
}

-- ---- the first of a document is changed

pub record Keeps (f : Kept → Kept) : Type 0 where
  pub version : (h : Kept) → (f h).version ≡ h.version
  pub key : (h : Kept) → (f h).key ≡ h.key

above_with : (v : ℕ) (k : DocKey) (f : Kept → Kept) (hs : List Kept) → Keeps f → AllAbove v hs → AllAbove v (with_first k f hs)
above_with v k f [] p a = tt
above_with v k f (h ∷ hs) p a = ⊎_elim {C = AllAbove v (with_first k f (h ∷ hs))}
    (λ t. let e = p.version h in rw t (omega (arith, a.0, e), a.1))
    (λ g. rw g (a.0, above_with v k f hs p a.1))
    (true_or_false (is_of k h))

above_as : (v w : ℕ) (hs : List Kept) → w ≡ v → AllAbove v hs → AllAbove w hs
above_as v w hs e a = subst (λ n. AllAbove n hs) (sym e) a

pub rises_with : (k : DocKey) (f : Kept → Kept) (hs : List Kept) → Keeps f → Rises hs → Rises (with_first k f hs)
rises_with k f [] p r = tt
rises_with k f (h ∷ hs) p r = ⊎_elim {C = Rises (with_first k f (h ∷ hs))}
    (λ t. rw t (above_as h.version (f h).version hs (p.version h) r.0, r.1))
    (λ g. rw g (above_with h.version k f hs p r.0, rises_with k f hs p r.1))
    (true_or_false (is_of k h))

pub filter_with_same : (k0 k : DocKey) (f : Kept → Kept) (hs : List Kept) → Keeps f → same_key k0 k ≡ true → filter (is_of k) (with_first k0 f hs) ≡ on_first f (filter (is_of k) hs)
filter_with_same k0 k f [] p s = refl
filter_with_same k0 k f (h ∷ hs) p s = ⊎_elim {C = filter (is_of k) (with_first k0 f (h ∷ hs)) ≡ on_first f (filter (is_of k) (h ∷ hs))}
    (λ t. let b : is_of k h ≡ true = sym (same_along k0 k h.key s) ∙ t in let c : is_of k (f h) ≡ true = ap (same_key k) (p.key h) ∙ b in rw t (rw c (rw b refl)))
    (λ g. let b : is_of k h ≡ false = sym (same_along k0 k h.key s) ∙ g in rw g (rw b (filter_with_same k0 k f hs p s)))
    (true_or_false (is_of k0 h))

pub filter_with_apart : (k0 k : DocKey) (f : Kept → Kept) (hs : List Kept) → Keeps f → same_key k0 k ≡ false → filter (is_of k) (with_first k0 f hs) ≡ filter (is_of k) hs
filter_with_apart k0 k f [] p s = refl
filter_with_apart k0 k f (h ∷ hs) p s = ⊎_elim {C = filter (is_of k) (with_first k0 f (h ∷ hs)) ≡ filter (is_of k) (h ∷ hs)}
    (λ t. let b : is_of k h ≡ false = apart_back h.key k (sym (same_along k0 h.key k t) ∙ s) in let c : is_of k (f h) ≡ false = ap (same_key k) (p.key h) ∙ b in rw t (rw c (rw b refl)))
    (λ g. rw g (⊎_elim {C = filter (is_of k) (h ∷ with_first k0 f hs) ≡ filter (is_of k) (h ∷ hs)}
    (λ b. rw b (ap (λ ys. h ∷ ys) (filter_with_apart k0 k f hs p s)))
    (λ b. rw b (filter_with_apart k0 k f hs p s))
    (true_or_false (is_of k h))))
    (true_or_false (is_of k0 h))

pub with_merges : (es fs : List (DocKey × List Kept)) (hs : List Kept) (k0 : DocKey) (f : Kept → Kept) → Keeps f → IsMerge es hs → Changes es fs k0 (on_first f (queue_of es k0)) → IsMerge fs (with_first k0 f hs)
with_merges es fs hs k0 f p m c = record {
  rises = rises_with k0 f hs p m.rises;
  queues = λ k. c.queues k ∙ ⊎_elim {C = cond (same_key k0 k) (on_first f (queue_of es k0)) (queue_of es k) ≡ filter (is_of k) (with_first k0 f hs)}
      (λ t. rw t (ap (on_first f) (same_queue es k0 k t ∙ m.queues k) ∙ sym (filter_with_same k0 k f hs p t)))
      (λ g. rw g (m.queues k ∙ sym (filter_with_apart k0 k f hs p g)))
      (true_or_false (same_key k0 k));
}

-- ---- the first of a document goes

above_without : (v : ℕ) (k : DocKey) (hs : List Kept) → AllAbove v hs → AllAbove v (without_first k hs)
above_without v k [] a = tt
above_without v k (h ∷ hs) a = ⊎_elim {C = AllAbove v (without_first k (h ∷ hs))}
    (λ t. rw t (a.1))
    (λ g. rw g (a.0, above_without v k hs a.1))
    (true_or_false (is_of k h))

rises_without : (k : DocKey) (hs : List Kept) → Rises hs → Rises (without_first k hs)
rises_without k [] r = tt
rises_without k (h ∷ hs) r = ⊎_elim {C = Rises (without_first k (h ∷ hs))}
    (λ t. rw t (r.1))
    (λ g. rw g (above_without h.version k hs r.0, rises_without k hs r.1))
    (true_or_false (is_of k h))

pub filter_without_same : (k0 k : DocKey) (hs : List Kept) → same_key k0 k ≡ true → filter (is_of k) (without_first k0 hs) ≡ drop 1 (filter (is_of k) hs)
filter_without_same k0 k [] s = refl
filter_without_same k0 k (h ∷ hs) s = ⊎_elim {C = filter (is_of k) (without_first k0 (h ∷ hs)) ≡ drop 1 (filter (is_of k) (h ∷ hs))}
    (λ t. let b : is_of k h ≡ true = sym (same_along k0 k h.key s) ∙ t in rw t (rw b refl))
    (λ g. let b : is_of k h ≡ false = sym (same_along k0 k h.key s) ∙ g in rw g (rw b (filter_without_same k0 k hs s)))
    (true_or_false (is_of k0 h))

pub filter_without_apart : (k0 k : DocKey) (hs : List Kept) → same_key k0 k ≡ false → filter (is_of k) (without_first k0 hs) ≡ filter (is_of k) hs
filter_without_apart k0 k [] s = refl
filter_without_apart k0 k (h ∷ hs) s = ⊎_elim {C = filter (is_of k) (without_first k0 (h ∷ hs)) ≡ filter (is_of k) (h ∷ hs)}
    (λ t. let b : is_of k h ≡ false = apart_back h.key k (sym (same_along k0 h.key k t) ∙ s) in rw t (rw b refl))
    (λ g. rw g (⊎_elim {C = filter (is_of k) (h ∷ without_first k0 hs) ≡ filter (is_of k) (h ∷ hs)}
    (λ b. rw b (ap (λ ys. h ∷ ys) (filter_without_apart k0 k hs s)))
    (λ b. rw b (filter_without_apart k0 k hs s))
    (true_or_false (is_of k h))))
    (true_or_false (is_of k0 h))

pub without_merges : (es fs : List (DocKey × List Kept)) (hs : List Kept) (k0 : DocKey) → IsMerge es hs → Changes es fs k0 (drop 1 (queue_of es k0)) → IsMerge fs (without_first k0 hs)
without_merges es fs hs k0 m c = record {
  rises = rises_without k0 hs m.rises;
  queues = λ k. c.queues k ∙ ⊎_elim {C = cond (same_key k0 k) (drop 1 (queue_of es k0)) (queue_of es k) ≡ filter (is_of k) (without_first k0 hs)}
      (λ t. rw t (ap (drop 1) (same_queue es k0 k t ∙ m.queues k) ∙ sym (filter_without_same k0 k hs t)))
      (λ g. rw g (m.queues k ∙ sym (filter_without_apart k0 k hs g)))
      (true_or_false (same_key k0 k));
}

-- ---- so it is what is held afterwards

pub record Holds (fs : List (DocKey × List Kept)) (hs : List Kept) : Type 0 where
  pub list : merge_of fs ≡ hs
  pub merge : IsMerge fs (merge_of fs)

pub holds_of : (fs : List (DocKey × List Kept)) (hs : List Kept) → IsDistinct same_key (keys_of fs) → IsMerge fs hs → Holds fs hs
holds_of fs hs d m = let e = merge_is fs hs (none_twice fs d) m in record { list = e; merge = subst (IsMerge fs) (sym e) m }

-- ---- what is read

pub first_is : (k : DocKey) (hs : List Kept) → first_of k hs ≡ slice_get (filter (is_of k) hs) 0
first_is k [] = refl
first_is k (h ∷ hs) = ⊎_elim {C = first_of k (h ∷ hs) ≡ slice_get (filter (is_of k) (h ∷ hs)) 0}
    (λ t. rw t refl)
    (λ f. rw f (first_is k hs))
    (true_or_false (is_of k h))

-- ---- the test of two keys is an equivalence

either_way : (a b : DocKey) → same_key a b ≡ same_key b a
either_way a b = ⊎_elim {C = same_key a b ≡ same_key b a} (λ t. t ∙ sym (same_back a b t)) (λ f. f ∙ sym (apart_back a b f)) (true_or_false (same_key a b))

pub same_key_laws : IsEquivalence same_key
same_key_laws = record { refl = same_self; symm = either_way; congr = same_along }
