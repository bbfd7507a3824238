-- The test of a reply against a request, in one chain and by places.
use Rattle.std.proofs.Common.{◌≡◌, ◌↔◌, ℕ, zero, suc, List, [], ◌∷◌, length, Some, Bool, true, false, IsTrue, refl, ap, sym, ◌∙◌, arith}
use Rattle.std.specs.Prelude.{◌&&◌, ◌==◌, bytes_eq, slice_get}
use Rattle.std.specs.List.{list_all, zip}
use Rattle.std.proofs.lemmas.Bool.{eqb-true}
use Rattle.std.proofs.lemmas.Bool.Decides.{Decides-eqb}
use Rattle.std.proofs.lemmas.Slice.Eq.{bytes_eq-Decides}
use Rattle.relay_action.specs.Actions.{kind_of}
use Rattle.relay_action.specs.declared.write.Write.{Write}
use Rattle.relay_results.specs.declared.outcome.Outcome.{Outcome}
use Rattle.relay_results.specs.Documents.{same_kind}
use Rattle.relay_results.specs.Matching.{is_entry_for, matches, Matches}
use Rattle.relay_results.proofs.Both.{both, and-true}
use Rattle.relay_results.proofs.Same.{same_kind-Decides}

suc-eqb : (m n : ℕ) → (suc m == suc n) ≡ (m == n)
suc-eqb m n = grind arith

zero-eqb : (n : ℕ) → (0 == suc n) ≡ false
zero-eqb n = grind arith

eqb-zero : (n : ℕ) → (suc n == 0) ≡ false
eqb-zero n = grind arith

swapped : (a b c : Bool) → (a && (b && c)) ≡ (b && (a && c))
swapped true b c = refl
swapped false true c = refl
swapped false false c = refl

pub matches-zip : (os : List Outcome) (ws : List Write) → matches os ws ≡ ((length os == length ws) && list_all (λ p. is_entry_for p.0 p.1) (zip os ws))
matches-zip [] [] = refl
matches-zip [] (w ∷ ws) = rw (zero-eqb (length ws)) refl
matches-zip (o ∷ os) [] = rw (eqb-zero (length os)) refl
matches-zip (o ∷ os) (w ∷ ws) =
    ap (λ b. is_entry_for o w && b) (matches-zip os ws)
    ∙ swapped (is_entry_for o w) (length os == length ws) (list_all (λ p. is_entry_for p.0 p.1) (zip os ws))
    ∙ ap (λ b. b && (is_entry_for o w && list_all (λ p. is_entry_for p.0 p.1) (zip os ws))) (sym (suc-eqb (length os) (length ws)))

-- an entry for a write has its kind and its id
entry-kind : (o : Outcome) (w : Write) → is_entry_for o w ≡ true → o.kind ≡ kind_of w.action
entry-kind o w h = (same_kind-Decides o.kind (kind_of w.action)).0 (both (same_kind o.kind (kind_of w.action)) (bytes_eq o.id w.key.id) h).0

entry-id : (o : Outcome) (w : Write) → is_entry_for o w ≡ true → o.id ≡ w.key.id
entry-id o w h = (bytes_eq-Decides o.id w.key.id).0 (both (same_kind o.kind (kind_of w.action)) (bytes_eq o.id w.key.id) h).1

entry-from : (o : Outcome) (w : Write) → o.kind ≡ kind_of w.action → o.id ≡ w.key.id → is_entry_for o w ≡ true
entry-from o w k i = and-true _ _ ((same_kind-Decides o.kind (kind_of w.action)).1 k) ((bytes_eq-Decides o.id w.key.id).1 i)

-- at each place of lists that match
pub entry_at : (os : List Outcome) (ws : List Write) (place : ℕ) (o : Outcome) (w : Write) → matches os ws ≡ true → slice_get os place ≡ Some o → slice_get ws place ≡ Some w → is_entry_for o w ≡ true
entry_at [] ws place o w h e f = cc
entry_at (x ∷ os) [] place o w h e f = cc
entry_at (x ∷ os) (y ∷ ws) zero o w h e f =
    let a : x ≡ o = cc in
    let b : y ≡ w = cc in
    rw (← a, ← b) (both (is_entry_for x y) (matches os ws) h).0
entry_at (x ∷ os) (y ∷ ws) (suc place) o w h e f = entry_at os ws place o w (both (is_entry_for x y) (matches os ws) h).1 e f

pub matches-length : (os : List Outcome) (ws : List Write) → matches os ws ≡ true → length os ≡ length ws
matches-length os ws h =
    eqb-true (length os) (length ws) (both (length os == length ws) (list_all (λ p. is_entry_for p.0 p.1) (zip os ws)) (sym (matches-zip os ws) ∙ h)).0

pub Matches-from_matches : (os : List Outcome) (ws : List Write) → matches os ws ≡ true → Matches os ws
Matches-from_matches os ws h = record {
  as_many = matches-length os ws h;
  kinds = λ place o w e f. entry-kind o w (entry_at os ws place o w h e f);
  ids = λ place o w e f. entry-id o w (entry_at os ws place o w h e f);
}

pub matches-from_Matches : (os : List Outcome) (ws : List Write) → Matches os ws → matches os ws ≡ true
matches-from_Matches [] [] m = refl
matches-from_Matches [] (w ∷ ws) m = absurd (omega (arith, m.as_many))
matches-from_Matches (o ∷ os) [] m = absurd (omega (arith, m.as_many))
matches-from_Matches (o ∷ os) (w ∷ ws) m =
    and-true _ _ (entry-from o w (m.kinds zero o w refl refl) (m.ids zero o w refl refl))
    (matches-from_Matches os ws (record {
      as_many = omega (arith, m.as_many);
      kinds = λ place x y e f. m.kinds (suc place) x y e f;
      ids = λ place x y e f. m.ids (suc place) x y e f;
    }))

pub matches-Matches : (os : List Outcome) (ws : List Write) → IsTrue (matches os ws) ↔ Matches os ws
matches-Matches os ws = (Matches-from_matches os ws, matches-from_Matches os ws)

-- what the two halves of the test make of it
pub matches-same_length : (os : List Outcome) (ws : List Write) (r : Bool) → length os ≡ length ws → r ≡ list_all (λ p. is_entry_for p.0 p.1) (zip os ws) → r ≡ matches os ws
matches-same_length os ws r n e =
    let t : (length os == length ws) ≡ true = (Decides-eqb (length os) (length ws)).1 n in
    e ∙ sym (matches-zip os ws ∙ ap (λ b. b && list_all (λ p. is_entry_for p.0 p.1) (zip os ws)) t)

pub matches-other_length : (os : List Outcome) (ws : List Write) → (length os ≡ length ws → ⊥) → (length os == length ws) ≡ matches os ws
matches-other_length os ws h =
    let e : (length os == length ws) ≡ false = grind (arith, h) in
    e ∙ sym (matches-zip os ws ∙ ap (λ b. b && list_all (λ p. is_entry_for p.0 p.1) (zip os ws)) e)
