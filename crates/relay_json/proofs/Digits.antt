-- A short text of digits is a number that fits.
use Rattle.std.proofs.Common.{◌≡◌, ℕ, ◌+◌, ◌^◌, ◌<◌, ◌≤◌, true, false, List, [], ◌∷◌, ◌++◌, length, get_or, drop, is_some, refl, sym, ap, ◌∙◌, subst, arith, append-nil, lt-ltb, ne_eqb, lit<}
use Rattle.std.proofs.Math.Nat.{pow-le-pow_right}
use Rattle.std.proofs.lemmas.Int.Digits.{digits_value-lt}
use Rattle.std.proofs.lemmas.List.{drop_more}
use Rattle.std.proofs.lemmas.Str.{digit_value_digit}
use Rattle.std.specs.Char.{digit_value}
use Rattle.std.specs.Str.Parse.{digits_value, AllDigits}
use Rattle.fast_float.specs.Text.{Parts, scan, IsWellFormed}
use Rattle.fast_float.proofs.Writing.{scan-text_of}
use Rattle.serde_json.specs.Read.{number_of, number_from}

no_minus : (ds : List ℕ) → AllDigits 10 ds → 0 < length ds → get_or ds 0 0 ≡ 45 → ⊥
no_minus [] h some e = omega arith
no_minus (d ∷ ds) h some e = let digit : digit_value d < 10 = h.0 in let is : d ≡ 45 = e in grind arith

abbrev parts_of : List ℕ → Parts
parts_of ds = record { whole = ds; point = false; fraction = []; exponent_negative = false; exponent = []; len = length (ds ++ []) }

scan-digits : (ds : List ℕ) → AllDigits 10 ds → scan ds ≡ parts_of ds
scan-digits ds h =
    let formed : IsWellFormed (parts_of ds) = record { whole_digits = h; fraction_digits = tt; exponent_digits = tt; no_point = λ _. refl; no_exponent = λ _. refl; len_is = refl } in
    ap scan (sym (append-nil ds)) ∙ scan-text_of (parts_of ds) formed

short_fits : (ds : List ℕ) → AllDigits 10 ds → length ds ≤ 19 → digits_value 10 ds < 2 ^ 64
short_fits ds h l = let most : 10 ^ length ds ≤ 10 ^ 19 = pow-le-pow_right (lit< tt) l in omega (arith, digits_value-lt 10 ds h)

number_from-digits : (ds : List ℕ) → AllDigits 10 ds → 0 < length ds → length ds ≤ 19 → is_some (number_from false (parts_of ds)) ≡ true
number_from-digits ds h some short =
    let fits : digits_value 10 (ds ++ []) < 2 ^ 64 = rw (append-nil ds) (short_fits ds h short) in
    rw (lt-ltb _ _ some, lt-ltb _ _ fits) refl

pub number_of-digits : (ds : List ℕ) → AllDigits 10 ds → 0 < length ds → length ds ≤ 19 → is_some (number_of ds) ≡ true
unfolding number_of
number_of-digits ds h some short =
    rw (ne_eqb (get_or ds 0 0) 45 (no_minus ds h some)) (ap (λ p. is_some (number_from false p)) (scan-digits ds h) ∙ number_from-digits ds h some short)

-- one more digit
pub digits_on : (bs : List ℕ) (i b : ℕ) → i < length bs → b ≡ get_or bs i b → 48 ≤ b → b ≤ 57 → (AllDigits 10 (drop i bs) → AllDigits 10 bs) → AllDigits 10 (drop (i + 1) bs) → AllDigits 10 bs
digits_on bs i b h e low high before rest =
    let here : drop i bs ≡ b ∷ drop (i + 1) bs = drop_more bs i b h ∙ ap (λ y. y ∷ drop (i + 1) bs) (sym e) in
    let digit : digit_value b < 10 = omega (arith, digit_value_digit b (low, high)) in
    before (subst (AllDigits 10) (sym here) (digit, rest))
