-- The bytes that are escaped, and what they become.
use Rattle.std.proofs.Common.{◌≡◌, ◌≢◌, ℕ, ◌<◌, ◌≤◌, ◌==◌, ◌||◌, not, Bool, true, false, List, [], ◌∷◌, ◌++◌, refl, ap, sym, ◌∙◌, arith, ⊎_elim, ◌⊎◌}
use Rattle.std.specs.Char.{is_ascii_alphanumeric}
use Rattle.std.proofs.lemmas.Bool.{agree_below_at, cases_eq, cond-true, cond-false, cases_Bool}
use Rattle.std.proofs.lemmas.Bool.Decides.{nat_tests}
use Rattle.percent_encoding.specs.AsciiSet.{contains, should_percent_encode}
use Rattle.percent_encoding.specs.Percent.{percent_encode, percent_encode_byte}
use Rattle.percent_encoding.specs.declared.ascii_set.AsciiSet.{AsciiSet}
use Rattle.percent_encoding.specs.declared.ascii_set.TheConstants.{NON_ALPHANUMERIC}
use Rattle.percent_encoding.proofs.StandardFacts.{non_alphanumeric}
use Rattle.percent_encoding.proofs.PercentLemmas.{percent_encode-nil, percent_encode_escaped, percent_encode_kept}
use Rattle.relay_target.specs.Targets.{is_unreserved, EscapesReserved, escaped}

-- the second set is the first without this byte
pub record Lacks (byte : ℕ) (old new : AsciiSet) : Type 0 where
  pub removed : contains new byte ≡ false
  pub others : (b : ℕ) → b < 128 → b ≢ byte → contains new b ≡ contains old b

-- so it is among the bytes of ASCII that are not of a class, and that are this one as little
lacks_class : (byte : ℕ) (old new : AsciiSet) (kept : ℕ → Bool) → Lacks byte old new
    → ((b : ℕ) → b < 128 → contains old b ≡ not (kept b))
    → (b : ℕ) → b < 128 → contains new b ≡ not (kept b || (b == byte))
lacks_class byte old new kept l h b small = ⊎_elim
    (λ same. at b same)
    (λ other. l.others b small other ∙ h b small ∙ same_not (kept b) (b == byte) (no other))
    (cases_eq b byte)
  where
    no : b ≢ byte → (b == byte) ≡ false
    no other = grind (arith, nat_tests)

    yes_eq : (k : ℕ) → k ≡ byte → (k == byte) ≡ true
    yes_eq k same = grind (arith, nat_tests)

    yes : (x y : Bool) → y ≡ true → not (x || y) ≡ false
    yes true y e = refl
    yes false y e = ap not e

    same_not : (x y : Bool) → y ≡ false → not x ≡ not (x || y)
    same_not true y e = refl
    same_not false y e = sym (ap not e)

    at : (k : ℕ) → k ≡ byte → contains new k ≡ not (kept k || (k == byte))
    at k same = ap (contains new) same ∙ l.removed ∙ sym (yes (kept k) (k == byte) (yes_eq k same))

-- the set without the four marks has what is not unreserved
pub reserved : (s1 s2 s3 s4 : AsciiSet) → Lacks 45 NON_ALPHANUMERIC s1 → Lacks 46 s1 s2 → Lacks 95 s2 s3 → Lacks 126 s3 s4 → EscapesReserved s4
reserved s1 s2 s3 s4 l1 l2 l3 l4 b small =
    let a0 = λ (k : ℕ) (h : k < 128). agree_below_at (contains NON_ALPHANUMERIC) (λ c. not (is_ascii_alphanumeric c)) 128 k non_alphanumeric h in
    let a1 = lacks_class 45 NON_ALPHANUMERIC s1 is_ascii_alphanumeric l1 a0 in
    let a2 = lacks_class 46 s1 s2 (λ k. is_ascii_alphanumeric k || (k == 45)) l2 a1 in
    let a3 = lacks_class 95 s2 s3 (λ k. (is_ascii_alphanumeric k || (k == 45)) || (k == 46)) l3 a2 in
    let a4 = lacks_class 126 s3 s4 (λ k. ((is_ascii_alphanumeric k || (k == 45)) || (k == 46)) || (k == 95)) l4 a3 in
    a4 b small ∙ ap not (regroup (is_ascii_alphanumeric b) (b == 45) (b == 46) (b == 95) (b == 126))
  where
    regroup : (v w x y z : Bool) → ((((v || w) || x) || y) || z) ≡ (v || (w || (x || (y || z))))
    regroup true w x y z = refl
    regroup false true x y z = refl
    regroup false false true y z = refl
    regroup false false false y z = refl

-- a byte outside ASCII is not unreserved
outside : (b : ℕ) → 128 ≤ b → is_unreserved b ≡ false
outside b big = grind (arith, nat_tests)

-- what is escaped by such a set
should : (set : AsciiSet) → EscapesReserved set → (b : ℕ) → should_percent_encode set b ≡ not (is_unreserved b)
unfolding should_percent_encode
should set h b = ⊎_elim
    (λ (low : b < 128). let e = h b low in grind (arith, nat_tests, e))
    (λ (high : 128 ≤ b). let e = outside b high in grind (arith, nat_tests, e))
    (low_or_high b)
  where
    low_or_high : (k : ℕ) → (k < 128) ⊎ (128 ≤ k)
    low_or_high k = grind arith

pub encoded : (set : AsciiSet) → EscapesReserved set → (bytes : List ℕ) → percent_encode set bytes ≡ escaped bytes
unfolding escaped
encoded set h [] = percent_encode-nil set
encoded set h (b ∷ bytes) = ⊎_elim
    (λ (e : is_unreserved b ≡ true). percent_encode_kept set b bytes (should set h b ∙ ap not e) ∙ ap (λ w. b ∷ w) (encoded set h bytes)
    ∙ sym (ap (λ w. w ++ escaped bytes) (cond-true (is_unreserved b) (b ∷ []) (percent_encode_byte b) e)))
    (λ (e : is_unreserved b ≡ false). percent_encode_escaped set b bytes (should set h b ∙ ap not e) ∙ ap (λ w. percent_encode_byte b ++ w) (encoded set h bytes)
    ∙ sym (ap (λ w. w ++ escaped bytes) (cond-false (is_unreserved b) (b ∷ []) (percent_encode_byte b) e)))
    (cases_Bool (is_unreserved b))
