-- What an index has after one more write.
use Rattle.std.proofs.Common.{◌+◌, ◌≡◌, ◌≢◌, ◌∙◌, ℕ, suc, ◌-◌, ◌<◌, ◌≤◌, List, [], ◌∷◌, ◌++◌, length, Option, Some, None, unwrap_or, option_map, Bool, true, false, refl, ap, sym, subst, max, arith, append-nil, length-append, if◌then◌else◌, ltb}
use Rattle.std.proofs.Math.Seq.{get_or-append_seam}
use Rattle.std.proofs.lemmas.Option.{slice_get_read}
use borrow.Author.Tests.{ltb-true, ltb-false}
use Rattle.relay_action.specs.declared.key.DocKey.{DocKey}
use Rattle.relay_action.specs.declared.write.Write.{Write}
use Rattle.relay_results.specs.Documents.{Document, document_of, same_document}
use Rattle.relay_results.specs.Outside.{is_above}
use Rattle.relay_results.proofs.Same.{same_document-true, same_document-self}
use Rattle.relay_index.specs.States.{State, applied_writes, applied_among, last_of, stored_version, total, NoneEmpty, AreOf, RiseFrom, IsIndex, IsHighest}
use Rattle.relay_index.specs.Lists.{with_write, index_after}
use Rattle.relay_index.specs.Runs.{is_newer}

-- ---- documents

pub same_document-sym : (a b : Document) → same_document a b ≡ same_document b a
same_document-sym a b = by (same_document a b) (same_document b a) refl refl
  where
    by : (x y : Bool) → same_document a b ≡ x → same_document b a ≡ y → same_document a b ≡ same_document b a
    by true y e f = ap (λ c. same_document c b) (same_document-true a b e) ∙ ap (λ c. same_document b c) (sym (same_document-true a b e))
    by false true e f = ap (λ c. same_document c b) (sym (same_document-true b a f)) ∙ ap (λ c. same_document b c) (same_document-true b a f)
    by false false e f = e ∙ sym f

-- what is the same document as another has the same answers
pub same_document-at : (a b k : Document) → same_document a b ≡ true → same_document k a ≡ same_document k b
same_document-at a b k e = ap (λ c. same_document k c) (same_document-true a b e)

-- ---- the list of a document

-- a list with the write at its end, if the test holds
abbrev pub more_if : Bool → List Write → Write → List Write
more_if b ws w = ws ++ (if b then w ∷ [] else [])

more_none : (ws : List Write) (w : Write) → more_if false ws w ≡ ws
more_none ws w = append-nil ws

pub applied-with_write : (es : List (DocKey × List Write)) (w : Write) (k : Document)
    → applied_among (with_write es w) k ≡ more_if (same_document k (document_of w.key)) (applied_among es k) w
applied-with_write [] w k = by (same_document k (document_of w.key)) refl
  where
    by : (b : Bool) → same_document k (document_of w.key) ≡ b → applied_among (with_write [] w) k ≡ more_if (same_document k (document_of w.key)) [] w
    by true e = rw e refl
    by false e = rw e refl
applied-with_write (e ∷ es) w k = by (same_document (document_of w.key) (document_of e.0)) (same_document k (document_of e.0)) refl refl (applied-with_write es w k)
  where
    by : (a b : Bool) → same_document (document_of w.key) (document_of e.0) ≡ a → same_document k (document_of e.0) ≡ b
        → applied_among (with_write es w) k ≡ more_if (same_document k (document_of w.key)) (applied_among es k) w
        → applied_among (with_write (e ∷ es) w) k ≡ more_if (same_document k (document_of w.key)) (applied_among (e ∷ es) k) w
    by true true f g rest = rw (same_document-at (document_of w.key) (document_of e.0) k f, f, g) refl
    by true false f g rest = rw (same_document-at (document_of w.key) (document_of e.0) k f, f, g) (sym (more_none _ w))
    by false true f g rest =
        let other : same_document k (document_of w.key) ≡ false = ap (λ c. same_document c (document_of w.key)) (same_document-true k (document_of e.0) g) ∙ same_document-sym (document_of e.0) (document_of w.key) ∙ f in
        rw (other, f, g) (sym (more_none _ w))
    by false false f g rest = rw (f, g) rest

-- ---- the last write of a list

pub last_of-push : (ws : List Write) (w : Write) → last_of (ws ++ w ∷ []) ≡ Some w
last_of-push ws w =
    let at : length (ws ++ w ∷ []) - 1 ≡ length ws = omega (arith, length-append ws (w ∷ [])) in
    rw at (slice_get_read (ws ++ w ∷ []) (length (ws ++ w ∷ [])) (length ws) w refl (omega (arith, length-append ws (w ∷ []))) (sym (get_or-append_seam ws w [] w)))

pub last_of-step : (v w : Write) (ws : List Write) → last_of (v ∷ w ∷ ws) ≡ last_of (w ∷ ws)
last_of-step v w ws =
    let at : length (v ∷ w ∷ ws) - 1 ≡ suc (length (w ∷ ws) - 1) = omega arith in
    rw at refl

-- the version that the next write has to be above: that of the last write, or the one given
abbrev pub top : Option ℕ → List Write → Option ℕ
top low [] = low
top low (w ∷ ws) = top (Some w.version) ws

top-last_of : (low : Option ℕ) (w : Write) (ws : List Write) → top low (w ∷ ws) ≡ option_map (λ (v : Write). v.version) (last_of (w ∷ ws))
top-last_of low w [] = refl
top-last_of low w (v ∷ vs) = top-last_of (Some w.version) v vs ∙ ap (option_map (λ (x : Write). x.version)) (sym (last_of-step w v vs))

top-stored : (ws : List Write) → top None ws ≡ option_map (λ (v : Write). v.version) (last_of ws)
top-stored [] = refl
top-stored (w ∷ ws) = top-last_of None w ws

-- ---- what every index keeps

AreOf-push : (k : Document) (ws : List Write) (w : Write) → AreOf k ws → document_of w.key ≡ k → AreOf k (ws ++ w ∷ [])
AreOf-push k [] w h e = (e, tt)
AreOf-push k (x ∷ xs) w h e = (h.0, AreOf-push k xs w h.1 e)

RiseFrom-push : (low : Option ℕ) (ws : List Write) (w : Write) → RiseFrom low ws → is_above (top low ws) w.version ≡ true → RiseFrom low (ws ++ w ∷ [])
RiseFrom-push None [] w h e = tt
RiseFrom-push (Some low) [] w h e = (ltb-true low w.version e, tt)
RiseFrom-push None (x ∷ xs) w h e = RiseFrom-push (Some x.version) xs w h e
RiseFrom-push (Some low) (x ∷ xs) w h e = (h.0, RiseFrom-push (Some x.version) xs w h.1 e)

push_nonempty : (ws : List Write) (w : Write) → ws ++ w ∷ [] ≢ []
push_nonempty [] w e = cc
push_nonempty (x ∷ xs) w e = cc

pub NoneEmpty-with_write : (es : List (DocKey × List Write)) (w : Write) → NoneEmpty es → NoneEmpty (with_write es w)
NoneEmpty-with_write [] w h = (push_nonempty [] w, tt)
NoneEmpty-with_write (e ∷ es) w h = by (same_document (document_of w.key) (document_of e.0)) refl (NoneEmpty-with_write es w h.1)
  where
    by : (b : Bool) → same_document (document_of w.key) (document_of e.0) ≡ b → NoneEmpty (with_write es w) → NoneEmpty (with_write (e ∷ es) w)
    by true f rest = rw f (push_nonempty e.1 w, h.1)
    by false f rest = rw f (h.0, rest)

-- one more write is in the lists
total-with_write : (es : List (DocKey × List Write)) (w : Write) → total (with_write es w) ≡ total es + 1
total-with_write [] w = refl
total-with_write (e ∷ es) w = by (same_document (document_of w.key) (document_of e.0)) refl (total-with_write es w)
  where
    by : (b : Bool) → same_document (document_of w.key) (document_of e.0) ≡ b → total (with_write es w) ≡ total es + 1 → total (with_write (e ∷ es) w) ≡ total (e ∷ es) + 1
    by true f rest = rw f (omega (arith, length-append e.1 (w ∷ [])))
    by false f rest = rw f (omega (arith, rest))

pub IsIndex-appended : (s : State) (w : Write) → IsIndex s → is_newer s w ≡ true → IsIndex (index_after s w)
IsIndex-appended s w h newer = record {
  begun = NoneEmpty-with_write s.documents w h.begun;
  of_document = λ k. subst (AreOf k) (sym (applied-with_write s.documents w k)) (of_at k (same_document k (document_of w.key)) refl);
  rising = λ k. subst (RiseFrom None) (sym (applied-with_write s.documents w k)) (rise_at k (same_document k (document_of w.key)) refl);
  counted = rw (total-with_write s.documents w) (omega (arith, h.counted));
}
  where
    of_at : (k : Document) (b : Bool) → same_document k (document_of w.key) ≡ b → AreOf k (more_if b (applied_writes s k) w)
    of_at k true e = AreOf-push k (applied_writes s k) w (h.of_document k) (sym (same_document-true k (document_of w.key) e))
    of_at k false e = subst (AreOf k) (sym (more_none _ w)) (h.of_document k)

    rise_at : (k : Document) (b : Bool) → same_document k (document_of w.key) ≡ b → RiseFrom None (more_if b (applied_writes s k) w)
    rise_at k true e =
        let place : document_of w.key ≡ k = sym (same_document-true k (document_of w.key) e) in
        RiseFrom-push None (applied_writes s k) w (h.rising k) (rw top-stored (subst (λ j. is_above (stored_version s j) w.version ≡ true) place newer))
    rise_at k false e = subst (RiseFrom None) (sym (more_none _ w)) (h.rising k)

-- the stored version is that of the write, if the document is its own
pub stored-appended : (s : State) (w : Write) (k : Document)
    → stored_version (index_after s w) k ≡ (if same_document k (document_of w.key) then Some w.version else stored_version s k)
stored-appended s w k = rw (applied-with_write s.documents w k) (by (same_document k (document_of w.key)) refl)
  where
    by : (b : Bool) → same_document k (document_of w.key) ≡ b
        → option_map (λ (v : Write). v.version) (last_of (more_if b (applied_writes s k) w)) ≡ (if b then Some w.version else stored_version s k)
    by true e = ap (option_map (λ (v : Write). v.version)) (last_of-push (applied_writes s k) w)
    by false e = ap (λ ws. option_map (λ (v : Write). v.version) (last_of ws)) (more_none (applied_writes s k) w)

-- ---- the greatest version

-- the greatest version after a write of this version
abbrev pub highest_with : Option ℕ → ℕ → ℕ
highest_with highest version = max (unwrap_or highest 0) version

-- the document of the write has its version
own_version : (s : State) (w : Write) → stored_version (index_after s w) (document_of w.key) ≡ Some w.version
own_version s w = stored-appended s w (document_of w.key) ∙ rw (same_document-self (document_of w.key)) refl

-- no version is above a bound that the write's version and the versions stored before keep
within : (s : State) (w : Write) (n : ℕ) → w.version ≤ n → ((k : Document) (v : ℕ) → stored_version s k ≡ Some v → v ≤ n)
    → (k : Document) (v : ℕ) → stored_version (index_after s w) k ≡ Some v → v ≤ n
within s w n own others k v e = by (same_document k (document_of w.key)) refl
  where
    by : (b : Bool) → same_document k (document_of w.key) ≡ b → v ≤ n
    by true f = let same : Some w.version ≡ Some v = rw f at (sym (stored-appended s w k) ∙ e) in let is : w.version ≡ v = cc in omega arith
    by false f = others k v (rw f at (sym (stored-appended s w k) ∙ e))

-- the greatest version before is still that of its document, if the write's is not above it
still : (s : State) (w : Write) (k : Document) (n : ℕ) → is_newer s w ≡ true → w.version ≤ n → stored_version s k ≡ Some n → stored_version (index_after s w) k ≡ Some n
still s w k n newer below e = stored-appended s w k ∙ by (same_document k (document_of w.key)) refl
  where
    by : (b : Bool) → same_document k (document_of w.key) ≡ b → (if same_document k (document_of w.key) then Some w.version else stored_version s k) ≡ Some n
    by false f = rw f e
    by true f =
        let place : document_of w.key ≡ k = sym (same_document-true k (document_of w.key) f) in
        let above : is_above (Some n) w.version ≡ true = ap (λ o. is_above o w.version) (sym e ∙ ap (stored_version s) (sym place)) ∙ newer in
        absurd (omega (arith, ltb-true n w.version above))

pub IsHighest-appended : (s : State) (w : Write) (highest : Option ℕ) → IsHighest s highest → is_newer s w ≡ true → IsHighest (index_after s w) (Some (highest_with highest w.version))
IsHighest-appended s w None h newer =
    let is : max 0 w.version ≡ w.version = omega arith in (
      (document_of w.key, rw is (own_version s w)),
      within s w (max 0 w.version) (omega arith) (λ k v e. absurd (none_some v (sym (h k) ∙ e))),
    )
  where
    none_some : (v : ℕ) → None ≡ Some v → ⊥
    none_some v e = cc
IsHighest-appended s w (Some n) h newer = by (ltb n w.version) refl
  where
    by : (b : Bool) → ltb n w.version ≡ b → IsHighest (index_after s w) (Some (max n w.version))
    by true e =
        let above : n < w.version = ltb-true n w.version e in
        let is : max n w.version ≡ w.version = omega arith in (
          (document_of w.key, rw is (own_version s w)),
          within s w (max n w.version) (omega arith) (λ k v f. omega (arith, h.1 k v f)),
        )
    by false e =
        let below : w.version ≤ n = ltb-false n w.version e in
        let is : max n w.version ≡ n = omega arith in (
          (h.0.0, rw is (still s w h.0.0 n newer below h.0.1)),
          within s w (max n w.version) (omega arith) (λ k v f. omega (arith, h.1 k v f)),
        )
