-- As many documents have queues as have held operations, since no queue is empty.
use Rattle.std.proofs.Common.{◌≡◌, ℕ, ◌+◌, ◌<◌, List, [], ◌∷◌, length, Some, None, Bool, true, false, ◌||◌, refl, sym, ap, ◌∙◌, subst, ⊎_elim, arith}
use Rattle.std.specs.Prelude.{if◌then◌else◌, cond, not, filter, Result, Ok, Err, IsOk, is_err, OnOk}
use Rattle.std.specs.List.{IsDistinct, list_any}
use Rattle.std.specs.Map.{lookup, keys_of}
use Rattle.relay_action.specs.declared.key.DocKey.{DocKey}
use Rattle.relay_results.specs.Documents.{Document, document_of, same_document}
use Rattle.relay_results.proofs.Same.{same_document-true}
use Rattle.relay_results.proofs.Lists.{true_or_false, none_some, or_left, or_right}
use Rattle.relay_held.specs.declared.kept.Kept.{Kept}
use Rattle.relay_held.specs.Queues.{same_key, is_of, documents, distinct, NoneEmpty, IsMerge}
use Rattle.relay_held.proofs.Merging.{NoneTwice, none_twice, same_self, same_along, apart_back, rest_merge, first_queue}

-- ---- how many documents the held operations are of

-- something is held of the document
abbrev pub holds_some : DocKey → List Kept → Bool
holds_some k hs = list_any (same_document (document_of k)) (documents hs)

abbrev one_if : Bool → ℕ
one_if true = 1
one_if false = 0

-- what is not of the document
abbrev rest_of : DocKey → List Kept → List Kept
rest_of k hs = filter (λ h. not (is_of k h)) hs

some_apart : (a k : DocKey) (hs : List Kept) → same_key a k ≡ false → holds_some a hs ≡ holds_some a (rest_of k hs)
some_apart a k [] f = refl
some_apart a k (h ∷ hs) f = ⊎_elim {C = holds_some a (h ∷ hs) ≡ holds_some a (rest_of k (h ∷ hs))}
    (λ t. let b : same_key a h.key ≡ false = apart_back h.key a (sym (same_along k h.key a t) ∙ apart_back a k f) in
    rw t (rw b (some_apart a k hs f)))
    (λ g. rw g (ap (λ b. same_key a h.key || b) (some_apart a k hs f)))
    (true_or_false (is_of k h))

one_more : (b : Bool) (n m : ℕ) → n ≡ one_if b + m → (if b then n else n + 1) ≡ 1 + m
one_more true n m e = e
one_more false n m e = omega (arith, e)

one_apart : (b c : Bool) (n m : ℕ) → n ≡ one_if c + m → (if b then n else n + 1) ≡ one_if c + (if b then m else m + 1)
one_apart true c n m e = e
one_apart false c n m e = omega (arith, e)

-- a document is one of them
distinct_without : (k : DocKey) (hs : List Kept) → distinct (documents hs) ≡ one_if (holds_some k hs) + distinct (documents (rest_of k hs))
distinct_without k [] = omega arith
distinct_without k (h ∷ hs) = ⊎_elim {C = distinct (documents (h ∷ hs)) ≡ one_if (holds_some k (h ∷ hs)) + distinct (documents (rest_of k (h ∷ hs)))}
    (λ t. let same : holds_some h.key hs ≡ holds_some k hs = ap (λ (d : Document). list_any (same_document d) (documents hs)) (sym (same_document-true (document_of k) (document_of h.key) t)) in
    rw t (rw same (one_more (holds_some k hs) (distinct (documents hs)) (distinct (documents (rest_of k hs))) (distinct_without k hs))))
    (λ f. rw f (rw (some_apart h.key k hs (apart_back k h.key f)) (one_apart (holds_some h.key (rest_of k hs)) (holds_some k hs) (distinct (documents hs)) (distinct (documents (rest_of k hs))) (distinct_without k hs))))
    (true_or_false (is_of k h))

some_of : (k : DocKey) (hs : List Kept) → 0 < length (filter (is_of k) hs) → holds_some k hs ≡ true
some_of k [] lt = absurd (omega (arith, lt))
some_of k (h ∷ hs) lt = ⊎_elim {C = holds_some k (h ∷ hs) ≡ true}
    (λ t. or_left (same_key k h.key) (holds_some k hs) t)
    (λ f. or_right (same_key k h.key) (holds_some k hs) (some_of k hs (subst (λ b. 0 < length (if b then h ∷ filter (is_of k) hs else filter (is_of k) hs)) f lt)))
    (true_or_false (is_of k h))

none_empty_rest : (e : DocKey × List Kept) (es : List (DocKey × List Kept)) → lookup (same_key e.0) es ≡ None → NoneEmpty (e ∷ es) → NoneEmpty es
none_empty_rest e es n a = record {
  filled = λ k q is. ⊎_elim {C = 0 < length q}
      (λ t. absurd (none_some q (sym n ∙ sym (along es k t) ∙ is)))
      (λ f. a.filled k q (ap (λ b. cond b (Some e.1) (lookup (same_key k) es)) f ∙ is))
      (true_or_false (same_key k e.0));
}
  where
    along : (fs : List (DocKey × List Kept)) (k : DocKey) → same_key k e.0 ≡ true → lookup (same_key k) fs ≡ lookup (same_key e.0) fs
    along [] k t = refl
    along (x ∷ fs) k t = λ i. cond (same_along k e.0 x.0 t i) (Some x.1) (along fs k t i)

counted : (es : List (DocKey × List Kept)) (hs : List Kept) → NoneTwice es → IsMerge es hs → NoneEmpty es → length (keys_of es) ≡ distinct (documents hs)
counted [] [] n m a = refl
counted [] (h ∷ hs) n m a = let e : [] ≡ h ∷ filter (is_of h.key) hs = m.queues h.key ∙ ap (λ b. if b then h ∷ filter (is_of h.key) hs else filter (is_of h.key) hs) (same_self h.key) in absurd (cc)
counted (e ∷ es) hs n m a =
    let here = first_queue e es hs m in
    let some = a.filled e.0 e.1 (ap (λ b. cond b (Some e.1) (lookup (same_key e.0) es)) (same_self e.0)) in
    let rest = counted es (rest_of e.0 hs) n.1 (rest_merge e es hs n m) (none_empty_rest e es n.0 a) in
    let one = distinct_without e.0 hs ∙ ap (λ b. one_if b + distinct (documents (rest_of e.0 hs))) (some_of e.0 hs (subst (λ q. 0 < length q) here some)) in
    omega (arith, rest, one)

pub keys_counted : (es : List (DocKey × List Kept)) (hs : List Kept) → IsDistinct same_key (keys_of es) → IsMerge es hs → NoneEmpty es → length (keys_of es) ≡ distinct (documents hs)
keys_counted es hs d m a = counted es hs (none_twice es d) m a

pub on_ok_of : {A E : Type 0} (r : Result A E) (P : Type 0) → IsOk r → OnOk r P → P
on_ok_of (Ok x) P i p = p
on_ok_of (Err e) P i p = absurd (cc)

pub ok_of : {A E : Type 0} (r : Result A E) (P : Type 0) → is_err r ≡ false → OnOk r P → P
ok_of (Ok x) P f p = p
ok_of (Err e) P f p = absurd (cc)
