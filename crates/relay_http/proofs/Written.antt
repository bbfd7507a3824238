-- What a length that is written says.
use Rattle.std.proofs.Common.{◌≡◌, ℕ, ◌<◌, ◌≤◌, ◌^◌, Bool, true, false, ◌&&◌, cond, eqb, List, [], ◌∷◌, map, reverse, refl, ap, ◌∙◌, arith, Result, Ok, Err}
use Rattle.std.specs.Prelude.{nat_le}
use Rattle.std.specs.Char.{digit_value, is_ascii_digit}
use Rattle.std.specs.List.{list_all}
use Rattle.std.specs.Fmt.{decimal}
use Rattle.std.specs.Str.Parse.{AllDigits}
use Rattle.std.proofs.lemmas.Bool.{and_from, eq-eqb, lt-ltb, le-leb, false≢true}
use Rattle.std.proofs.lemmas.Bool.Decides.{nat_tests}
use Rattle.std.proofs.lemmas.Fmt.{decimal_is_IsNumeral, decimal_nonempty}
use Rattle.std.proofs.lemmas.List.{reverse-reverse}
use Rattle.std.proofs.lemmas.List.Sums.{AllPass-from_list_all, list_all-from_AllPass}
use Rattle.httparse.specs.Grammar.{is_ows, is_value_byte, skip_ows, trim_ows}
use Rattle.httparse.proofs.TrimLemmas.{AllPass-reverse}
use Rattle.relay_http.specs.Fields.{elements, pieces, in_front, is_number, number, agrees}
use Rattle.relay_http.specs.Framing.{framing_by_length}
use Rattle.relay_http.specs.declared.fault.HttpFault.{HttpFault}
use Rattle.relay_http.specs.declared.fault.HttpFault.TheVariants as fault
use Rattle.relay_http.specs.declared.framing.Framing.{Framing}
use Rattle.relay_http.specs.declared.framing.Framing.TheVariants as framing

decimal_digit : (c : ℕ) → digit_value c < 10 → is_ascii_digit c ≡ true
decimal_digit c small = grind (arith, nat_tests)

decimal_digits : (text : List ℕ) → AllDigits 10 text → list_all is_ascii_digit text ≡ true
decimal_digits [] all = refl
decimal_digits (c ∷ cs) all = and_from _ _ (decimal_digit c all.0) (decimal_digits cs all.1)

pub both : (a b : Bool) → (a && b) ≡ true → (a ≡ true) × (b ≡ true)
both true true e = (refl, refl)
both true false e = absurd (false≢true e)
both false b e = absurd (false≢true e)

no_ows : (c : ℕ) → is_ascii_digit c ≡ true → is_ows c ≡ false
no_ows c d = grind (arith, nat_tests, d)

no_comma : (c : ℕ) → is_ascii_digit c ≡ true → eqb c 44 ≡ false
no_comma c d = grind (arith, nat_tests, d)

value_digit : (c : ℕ) → is_ascii_digit c ≡ true → is_value_byte c ≡ true
value_digit c d = grind (arith, nat_tests, d)

skip_digits : (ds : List ℕ) → list_all is_ascii_digit ds ≡ true → skip_ows ds ≡ ds
skip_digits [] d = refl
skip_digits (c ∷ cs) d = ap (λ b. cond b (skip_ows cs) (c ∷ cs)) (no_ows c (both (is_ascii_digit c) (list_all is_ascii_digit cs) d).0)

pub reversed_digits : (ds : List ℕ) → list_all is_ascii_digit ds ≡ true → list_all is_ascii_digit (reverse ds) ≡ true
reversed_digits ds d = list_all-from_AllPass is_ascii_digit (reverse ds) (AllPass-reverse is_ascii_digit ds (AllPass-from_list_all is_ascii_digit ds d))

pub trim_digits : (ds : List ℕ) → list_all is_ascii_digit ds ≡ true → trim_ows ds ≡ ds
unfolding trim_ows
trim_digits ds d = ap (λ w. reverse (skip_ows (reverse w))) (skip_digits ds d) ∙ ap reverse (skip_digits (reverse ds) (reversed_digits ds d)) ∙ reverse-reverse ds

pub trim_value : (ds : List ℕ) → list_all is_ascii_digit ds ≡ true → trim_ows (32 ∷ ds) ≡ ds
unfolding trim_ows
trim_value ds d = ap (λ w. reverse (skip_ows (reverse w))) (skip_digits ds d) ∙ ap reverse (skip_digits (reverse ds) (reversed_digits ds d)) ∙ reverse-reverse ds

pieces_digits : (ds : List ℕ) → list_all is_ascii_digit ds ≡ true → pieces ds ≡ ds ∷ []
pieces_digits [] d = refl
pieces_digits (c ∷ cs) d =
    let p = both (is_ascii_digit c) (list_all is_ascii_digit cs) d in
    ap (λ b. cond b ([] ∷ pieces cs) (in_front c (pieces cs))) (no_comma c p.0) ∙ ap (in_front c) (pieces_digits cs p.1)

pub elements_digits : (ds : List ℕ) → list_all is_ascii_digit ds ≡ true → elements (trim_ows (32 ∷ ds)) ≡ ds ∷ []
unfolding elements
elements_digits ds d = ap (λ w. map trim_ows (pieces w)) (trim_value ds d) ∙ ap (map trim_ows) (pieces_digits ds d) ∙ ap (λ w. w ∷ []) (trim_digits ds d)

pub value_digits : (ds : List ℕ) → list_all is_ascii_digit ds ≡ true → list_all is_value_byte ds ≡ true
value_digits [] d = refl
value_digits (c ∷ cs) d =
    let p = both (is_ascii_digit c) (list_all is_ascii_digit cs) d in
    and_from _ _ (value_digit c p.0) (value_digits cs p.1)

pub digits_written : (n : ℕ) → n < 2 ^ 64 → list_all is_ascii_digit (decimal n) ≡ true
digits_written n small = decimal_digits (decimal n) (decimal_is_IsNumeral n small).0.1

pub sized_written : (limit n : ℕ) (o : Framing) → n < 2 ^ 64 → n ≤ limit → framing_by_length limit o (decimal n ∷ []) ≡ Ok (framing.Sized n)
sized_written limit n o small fits =
    let some = decimal_nonempty n small in
    let value : number (decimal n) ≡ n = (decimal_is_IsNumeral n small).1 in
    let is : is_number (decimal n) ≡ true = and_from _ _ (lt-ltb _ _ some) (digits_written n small) in
    let same : eqb (number (decimal n)) (number (decimal n)) ≡ true = eq-eqb (number (decimal n)) (number (decimal n)) refl in
    let all : (agrees (decimal n) (decimal n) && true) ≡ true = and_from _ _ (and_from _ _ is (and_from _ _ is same)) refl in
    let within : nat_le (number (decimal n)) limit ≡ true = ap (λ k. nat_le k limit) value ∙ le-leb n limit fits in
    chosen (agrees (decimal n) (decimal n) && true) (nat_le (number (decimal n)) limit) (number (decimal n)) n all within value
  where
    chosen : (a b : Bool) (m n : ℕ) → a ≡ true → b ≡ true → m ≡ n → ◌≡◌ {A = Result Framing HttpFault} (cond a (cond b (Ok (framing.Sized m)) (Err fault.BodyLong)) (Err fault.Malformed)) (Ok (framing.Sized n))
    chosen true true m n e f g = ap (λ k. Ok (framing.Sized k)) g
    chosen true false m n e f g = absurd (false≢true f)
    chosen false b m n e f g = absurd (false≢true e)
