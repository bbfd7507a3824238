-- Digits say one number exactly if they are the same from the first that is not 0 on.
use Rattle.std.proofs.Common.{◌≡◌, ◌≢◌, ℕ, ◌+◌, ◌*◌, ◌<◌, Bool, true, false, cond, eqb, List, [], ◌∷◌, ◌++◌, reverse, refl, ap, ◌∙◌, sym, subst, arith, ◌⊎◌, inl, inr}
use Rattle.std.specs.Prelude.{bytes_eq}
use Rattle.std.specs.Char.{digit_value, is_ascii_digit}
use Rattle.std.specs.List.{list_all}
use Rattle.std.proofs.lemmas.Bool.{eqb-true, eq-eqb}
use Rattle.std.proofs.lemmas.Bool.Decides.{nat_tests, eqb_tells}
use Rattle.std.proofs.lemmas.Int.Digits.{digits_value_push}
use Rattle.std.proofs.lemmas.List.{reverse-reverse, reverse-append}
use Rattle.std.proofs.lemmas.Slice.Eq.{bytes_eq-Decides}
use Rattle.relay_http.specs.Fields.{number}
use Rattle.relay_http.specs.Steps.{significant}
use Rattle.relay_http.proofs.Written.{both, reversed_digits}

reverse-cons : (c : ℕ) (cs : List ℕ) → reverse (c ∷ cs) ≡ reverse cs ++ c ∷ []
reverse-cons c cs = reverse-append (c ∷ []) cs

-- the number of digits from the last to the first
abbrev backward : List ℕ → ℕ
backward [] = 0
backward (c ∷ cs) = backward cs * 10 + digit_value c

-- the last of these is not 0
abbrev ends_well : List ℕ → Type 0
ends_well [] = Unit {0}
ends_well (c ∷ []) = c ≢ 48
ends_well (c ∷ (d ∷ ds)) = ends_well (d ∷ ds)

backward_is : (ds : List ℕ) → number (reverse ds) ≡ backward ds
backward_is [] = refl
backward_is (c ∷ cs) = ap number (reverse-cons c cs) ∙ digits_value_push 10 (reverse cs) c ∙ ap (λ k. k * 10 + digit_value c) (backward_is cs)

digit_is : (c : ℕ) → is_ascii_digit c ≡ true → (c ≡ 48 + digit_value c) × (digit_value c < 10)
digit_is c d = (grind (arith, nat_tests, d), grind (arith, nat_tests, d))

some : (c : ℕ) (cs : List ℕ) → list_all is_ascii_digit (c ∷ cs) ≡ true → ends_well (c ∷ cs) → 0 < backward (c ∷ cs)
some c [] all well =
    let d = (digit_is c (both _ _ all).0).0 in
    let positive : 0 < digit_value c = grind (arith, d, well) in
    omega (arith, positive)
some c (d ∷ ds) all well =
    let more = some d ds (both _ _ all).1 well in
    omega (arith, more)

rest_well : (c : ℕ) (cs : List ℕ) → ends_well (c ∷ cs) → ends_well cs
rest_well c [] well = tt
rest_well c (d ∷ ds) well = well

one_number : (xs ys : List ℕ) → list_all is_ascii_digit xs ≡ true → list_all is_ascii_digit ys ≡ true → ends_well xs → ends_well ys → backward xs ≡ backward ys → xs ≡ ys
one_number [] [] a b w v e = refl
one_number [] (d ∷ ds) a b w v e =
    let more = some d ds b v in
    absurd (omega (arith, more, e))
one_number (c ∷ cs) [] a b w v e =
    let more = some c cs a w in
    absurd (omega (arith, more, e))
one_number (c ∷ cs) (d ∷ ds) a b w v e =
    let x = digit_is c (both _ _ a).0 in
    let y = digit_is d (both _ _ b).0 in
    let x0 = x.0 in
    let x1 = x.1 in
    let y0 = y.0 in
    let y1 = y.1 in
    let first : c ≡ d = omega (arith, x0, x1, y0, y1, e) in
    let others : backward cs ≡ backward ds = omega (arith, x1, y1, e) in
    let rest = one_number cs ds (both _ _ a).1 (both _ _ b).1 (rest_well c cs w) (rest_well d ds v) others in
    ap (λ k. k ∷ cs) first ∙ ap (λ k. d ∷ k) rest

ends_last : (xs : List ℕ) (c : ℕ) → c ≢ 48 → ends_well (xs ++ c ∷ [])
ends_last [] c n = n
ends_last (x ∷ []) c n = n
ends_last (x ∷ (y ∷ ys)) c n = ends_last (y ∷ ys) c n

tells : (c : ℕ) → (eqb c 48 ≡ true) ⊎ ((eqb c 48 ≡ false) × (c ≢ 48))
tells c = from (eqb_tells c 48)
  where
    from : ((eqb c 48 ≡ true) × (c ≡ 48)) ⊎ ((eqb c 48 ≡ false) × (c ≢ 48)) → (eqb c 48 ≡ true) ⊎ ((eqb c 48 ≡ false) × (c ≢ 48))
    from (inl x) = inl x.0
    from (inr x) = inr x

-- the digits from the first that is not 0 on
record Kept (ds : List ℕ) : Type 0 where
  number_is : number (significant ds) ≡ number ds
  digits : list_all is_ascii_digit (significant ds) ≡ true
  well : ends_well (reverse (significant ds))

kept_more : (c : ℕ) (cs : List ℕ) → list_all is_ascii_digit (c ∷ cs) ≡ true → Kept cs → (eqb c 48 ≡ true) ⊎ ((eqb c 48 ≡ false) × (c ≢ 48)) → Kept (c ∷ cs)
kept_more c cs all k (inl e) =
    let is : significant (c ∷ cs) ≡ significant cs = ap (λ b. cond b (significant cs) (c ∷ cs)) e in
    let zero : c ≡ 48 = eqb-true c 48 e in
    record {
      number_is = ap number is ∙ k.number_is ∙ ap (λ d. number (d ∷ cs)) (sym zero);
      digits = ap (list_all is_ascii_digit) is ∙ k.digits;
      well = subst (λ s. ends_well (reverse s)) (sym is) k.well;
    }
kept_more c cs all k (inr e) =
    let is : significant (c ∷ cs) ≡ c ∷ cs = ap (λ b. cond b (significant cs) (c ∷ cs)) e.0 in
    record {
      number_is = ap number is;
      digits = ap (list_all is_ascii_digit) is ∙ all;
      well = subst (λ s. ends_well (reverse s)) (sym is) (subst ends_well (sym (reverse-cons c cs)) (ends_last (reverse cs) c e.1));
    }

kept : (ds : List ℕ) → list_all is_ascii_digit ds ≡ true → Kept ds
kept [] all = record { number_is = refl; digits = refl; well = tt }
kept (c ∷ cs) all = kept_more c cs all (kept cs (both _ _ all).1) (tells c)

-- digits of one number
same_digits : (xs ys : List ℕ) → list_all is_ascii_digit xs ≡ true → list_all is_ascii_digit ys ≡ true → number xs ≡ number ys → significant xs ≡ significant ys
same_digits xs ys a b e =
    let k = kept xs a in
    let l = kept ys b in
    let value : (s : List ℕ) → backward (reverse s) ≡ number s = λ s. sym (backward_is (reverse s)) ∙ ap number (reverse-reverse s) in
    let turned = one_number (reverse (significant xs)) (reverse (significant ys)) (reversed_digits (significant xs) k.digits) (reversed_digits (significant ys) l.digits) k.well l.well
    (value (significant xs) ∙ k.number_is ∙ e ∙ sym l.number_is ∙ sym (value (significant ys))) in
    sym (reverse-reverse (significant xs)) ∙ ap reverse turned ∙ reverse-reverse (significant ys)

same_truth : (a b : Bool) → (a ≡ true → b ≡ true) → (b ≡ true → a ≡ true) → a ≡ b
same_truth true true f g = refl
same_truth false false f g = refl
same_truth true false f g = sym (f refl)
same_truth false true f g = g refl

pub same_number_is : (xs ys : List ℕ) → list_all is_ascii_digit xs ≡ true → list_all is_ascii_digit ys ≡ true → bytes_eq (significant ys) (significant xs) ≡ eqb (number xs) (number ys)
same_number_is xs ys a b =
    let d = bytes_eq-Decides (significant ys) (significant xs) in
    same_truth (bytes_eq (significant ys) (significant xs)) (eqb (number xs) (number ys))
    (λ e. eq-eqb (number xs) (number ys) (sym (kept xs a).number_is ∙ ap number (sym (d.0 e)) ∙ (kept ys b).number_is))
    (λ e. d.1 (sym (same_digits xs ys a b (eqb-true (number xs) (number ys) e))))
