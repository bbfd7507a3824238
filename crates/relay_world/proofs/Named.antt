-- What is kept of each document after one of them was run.
use Rattle.std.proofs.Common.{◌≡◌, ◌∙◌, ℕ, List, [], ◌∷◌, ◌++◌, Option, Some, None, Bool, true, false, refl, ap, sym, append-nil}
use Rattle.std.specs.Prelude.{◌&&◌, if◌then◌else◌}
use Rattle.std.specs.Map.{lookup, set_value}
use Rattle.indexmap.specs.IndexMap.{insert_entry}
use Rattle.relay_action.specs.declared.key.DocKey.{DocKey}
use Rattle.relay_action.specs.declared.operation.OpName.{OpName}
use Rattle.relay_results.specs.Documents.{Document, document_of, same_document}
use Rattle.relay_results.proofs.Same.{same_document-true}
use Rattle.relay_index.specs.Keys.{same_key}
use Rattle.relay_index.proofs.Appended.{same_document-sym, same_document-at}
use Rattle.relay_world.specs.State.{Named, kept_among, names_of, before_of}
use Rattle.relay_world.proofs.Ran.{and_false}

-- a document's entry is that of its key
kept-own : (es : List (DocKey × Named)) (key : DocKey) (k : Document) → same_document k (document_of key) ≡ true → kept_among es k ≡ lookup (same_key key) es
kept-own es key k e = ap (λ d. kept_among es d) (same_document-true k (document_of key) e)

pub set_value-same : (es : List (DocKey × Named)) (key : DocKey) (u : Named) → lookup (same_key key) es ≡ Some u → set_value (same_key key) es u ≡ es
set_value-same [] key u e = refl
set_value-same (x ∷ xs) key u e = by (same_key key x.0) refl (set_value-same xs key u)
  where
    by : (b : Bool) → same_key key x.0 ≡ b → (lookup (same_key key) xs ≡ Some u → set_value (same_key key) xs u ≡ xs) → set_value (same_key key) (x ∷ xs) u ≡ x ∷ xs
    by true f rest = let found : Some x.1 ≡ Some u = rw f at e in let is : u ≡ x.1 = cc in rw (f, is) refl
    by false f rest = let later = rw f at e in rw f (ap (λ l. x ∷ l) (rest later))

-- an entry that is changed is that of its document, and no other
kept-set : (es : List (DocKey × Named)) (key : DocKey) (u v : Named) (k : Document) → lookup (same_key key) es ≡ Some u
    → kept_among (set_value (same_key key) es v) k ≡ (if same_document k (document_of key) then Some v else kept_among es k)
kept-set [] key u v k e = absurd (cc)
kept-set (x ∷ xs) key u v k e = by (same_key key x.0) (same_document k (document_of x.0)) refl refl (kept-set xs key u v k)
  where
    by : (a b : Bool) → same_key key x.0 ≡ a → same_document k (document_of x.0) ≡ b
        → (lookup (same_key key) xs ≡ Some u → kept_among (set_value (same_key key) xs v) k ≡ (if same_document k (document_of key) then Some v else kept_among xs k))
        → kept_among (set_value (same_key key) (x ∷ xs) v) k ≡ (if same_document k (document_of key) then Some v else kept_among (x ∷ xs) k)
    by true true f g rest = rw (same_document-at (document_of key) (document_of x.0) k f, f, g) refl
    by true false f g rest = rw (same_document-at (document_of key) (document_of x.0) k f, f, g) refl
    by false true f g rest =
        let other : same_document k (document_of key) ≡ false = ap (λ c. same_document c (document_of key)) (same_document-true k (document_of x.0) g) ∙ same_document-sym (document_of x.0) (document_of key) ∙ f in
        rw (other, f, g) refl
    by false false f g rest = let later = rw f at e in rw (f, g) (rest later)

-- a new entry is that of its document, and no other
kept-insert : (es : List (DocKey × Named)) (key : DocKey) (v : Named) (k : Document) → lookup (same_key key) es ≡ None
    → kept_among (insert_entry same_key es key v) k ≡ (if same_document k (document_of key) then Some v else kept_among es k)
kept-insert [] key v k e = by (same_document k (document_of key)) refl
  where
    by : (b : Bool) → same_document k (document_of key) ≡ b → kept_among ((key, v) ∷ []) k ≡ (if same_document k (document_of key) then Some v else None)
    by true f = rw f refl
    by false f = rw f refl
kept-insert (x ∷ xs) key v k e = by (same_key key x.0) (same_document k (document_of x.0)) refl refl (kept-insert xs key v k)
  where
    by : (a b : Bool) → same_key key x.0 ≡ a → same_document k (document_of x.0) ≡ b
        → (lookup (same_key key) xs ≡ None → kept_among (insert_entry same_key xs key v) k ≡ (if same_document k (document_of key) then Some v else kept_among xs k))
        → kept_among (insert_entry same_key (x ∷ xs) key v) k ≡ (if same_document k (document_of key) then Some v else kept_among (x ∷ xs) k)
    by true b f g rest = let found : Some x.1 ≡ None = rw f at e in absurd (cc)
    by false true f g rest =
        let other : same_document k (document_of key) ≡ false = ap (λ c. same_document c (document_of key)) (same_document-true k (document_of x.0) g) ∙ same_document-sym (document_of x.0) (document_of key) ∙ f in
        rw (other, f, g) refl
    by false false f g rest = let later = rw f at e in rw (f, g) (rest later)

-- ---- names

abbrev pub name_if : Bool → OpName → List OpName
name_if b n = if b then n ∷ [] else []

and_true : (b : Bool) → (b && true) ≡ b
and_true true = refl
and_true false = refl

-- by whether the document is the one that was run
names-by : (found : Option Named) (v : Named) (s b : Bool) (n : OpName) (old new : Option Named) → new ≡ (if s then Some v else old) → (s ≡ true → old ≡ found)
    → v.names ≡ names_of found ++ name_if b n → names_of new ≡ names_of old ++ name_if (b && s) n
names-by found v true b n old new is own more =
    ap names_of is ∙ more ∙ (λ i. names_of (sym (own refl) i) ++ name_if (sym (and_true b) i) n)
names-by found v false b n old new is own more =
    ap names_of is ∙ sym (append-nil (names_of old)) ∙ ap (λ t. names_of old ++ name_if t n) (sym (and_false b))

before-by : (found : Option Named) (v : Named) (s : Bool) (len now : ℕ) (old new : Option Named) → new ≡ (if s then Some v else old) → (s ≡ true → old ≡ found)
    → (s ≡ true → v.before ≡ before_of len found) → (s ≡ false → now ≡ len) → before_of now new ≡ before_of len old
before-by found v true len now old new is own same other = ap (before_of now) is ∙ same refl ∙ ap (before_of len) (sym (own refl))
before-by found v false len now old new is own same other = (λ i. before_of (other refl i) (is i))

module _ (es : List (DocKey × Named)) (key : DocKey) (k : Document) where
  pub names-set : (u v : Named) (b : Bool) (n : OpName) → lookup (same_key key) es ≡ Some u → v ≡ record u { names = u.names ++ name_if b n }
      → names_of (kept_among (set_value (same_key key) es v) k) ≡ names_of (kept_among es k) ++ name_if (b && same_document k (document_of key)) n
  names-set u v b n e is =
      names-by (Some u) v (same_document k (document_of key)) b n (kept_among es k) (kept_among (set_value (same_key key) es v) k) (kept-set es key u v k e)
      (λ s. kept-own es key k s ∙ e) (ap (λ (x : Named). x.names) is)

  pub before-set : (u v : Named) (len now : ℕ) → lookup (same_key key) es ≡ Some u → v.before ≡ u.before → (same_document k (document_of key) ≡ false → now ≡ len)
      → before_of now (kept_among (set_value (same_key key) es v) k) ≡ before_of len (kept_among es k)
  before-set u v len now e same other =
      before-by (Some u) v (same_document k (document_of key)) len now (kept_among es k) (kept_among (set_value (same_key key) es v) k) (kept-set es key u v k e)
      (λ s. kept-own es key k s ∙ e) (λ s. same) other

  pub names-insert : (v : Named) (b : Bool) (n : OpName) → lookup (same_key key) es ≡ None → v.names ≡ name_if b n
      → names_of (kept_among (insert_entry same_key es key v) k) ≡ names_of (kept_among es k) ++ name_if (b && same_document k (document_of key)) n
  names-insert v b n e is =
      names-by None v (same_document k (document_of key)) b n (kept_among es k) (kept_among (insert_entry same_key es key v) k) (kept-insert es key v k e)
      (λ s. kept-own es key k s ∙ e) is

  pub before-insert : (v : Named) (len now : ℕ) → lookup (same_key key) es ≡ None → (same_document k (document_of key) ≡ true → v.before ≡ len) → (same_document k (document_of key) ≡ false → now ≡ len)
      → before_of now (kept_among (insert_entry same_key es key v) k) ≡ before_of len (kept_among es k)
  before-insert v len now e same other =
      before-by None v (same_document k (document_of key)) len now (kept_among es k) (kept_among (insert_entry same_key es key v) k) (kept-insert es key v k e)
      (λ s. kept-own es key k s ∙ e) same other
