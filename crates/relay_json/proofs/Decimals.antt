-- A decimal number at the front of bytes.
use Rattle.std.proofs.Common.{◌≡◌, ℕ, ◌+◌, ◌-◌, ◌*◌, ◌/◌, ◌%◌, ◌^◌, ◌<◌, ◌≤◌, List, [], ◌∷◌, ◌++◌, length, get_or, take, drop, sym, ap, ◌∙◌, subst, arith, append_assoc, lit<}
use Rattle.std.proofs.Math.Nat.{pow-le-pow_right}
use Rattle.std.proofs.lemmas.Fmt.{decimal_digit, decimal_step, decimal_is_IsNumeral, first_decimal, length-decimal-le}
use Rattle.std.proofs.lemmas.Int.Digits.{digits_value-lt}
use Rattle.std.proofs.lemmas.List.{drop_more, take_all, length-drop}
use Rattle.std.specs.Char.{digit_value}
use Rattle.std.specs.Fmt.{decimal}
use Rattle.std.specs.Str.Parse.{digits_value, AllDigits}
use Rattle.relay_json.specs.Decimals.{BeginsWithDigit, IsWhole}

-- the first byte, and the rest as it is cut off
first_of : (bytes : List ℕ) (count : ℕ) → 1 ≤ length bytes → length bytes - 1 ≤ count → bytes ≡ get_or bytes 0 0 ∷ take count (drop 1 bytes)
first_of bytes count some enough =
    drop_more bytes 0 0 some ∙ ap (λ r. get_or bytes 0 0 ∷ r) (sym (take_all count (drop 1 bytes) (omega (arith, length-drop 1 bytes))))

-- a first digit is a number
pub digit_first : (bytes : List ℕ) (n count : ℕ) → 1 ≤ length bytes → length bytes - 1 ≤ count → 48 + n ≡ get_or bytes 0 0 → n < 10 → bytes ≡ decimal n ++ take count (drop 1 bytes)
digit_first bytes n count some enough is small =
    first_of bytes count some enough ∙ ap (λ ds. ds ++ take count (drop 1 bytes)) (ap (λ b. b ∷ []) (sym is) ∙ sym (decimal_digit n small))

digit_behind : (n d : ℕ) → 0 < n → n < 10 ^ 18 → d < 10 → decimal (n * 10 + d) ≡ decimal n ++ ((48 + d) ∷ [])
digit_behind n d some small digit =
    let front : (n * 10 + d) / 10 ≡ n = omega arith in
    let last : (n * 10 + d) % 10 ≡ d = omega arith in
    decimal_step (n * 10 + d) (omega arith) (omega arith) ∙ (λ i. decimal (front i) ++ ((48 + last i) ∷ []))

-- a digit after a number makes it longer
pub digit_more : (bytes : List ℕ) (n d count : ℕ) → 0 < n → n < 10 ^ 18 → 1 ≤ length bytes → length bytes - 1 ≤ count → 48 + d ≡ get_or bytes 0 0 → d < 10 → decimal n ++ bytes ≡ decimal (n * 10 + d) ++ take count (drop 1 bytes)
digit_more bytes n d count some small one enough is digit =
    let rest = take count (drop 1 bytes) in
    ap (λ bs. decimal n ++ bs) (first_of bytes count one enough ∙ ap (λ b. b ∷ rest) (sym is))
    ∙ sym (append_assoc (decimal n) ((48 + d) ∷ []) rest)
    ∙ ap (λ ds. ds ++ rest) (sym (digit_behind n d some small digit))

-- ---- the digits of a number, and what follows them

is_digit : (b : ℕ) → digit_value b < 10 → (48 ≤ b) × (b ≤ 57)
is_digit b h = grind arith

-- digits begin with one
begins : (ds rest : List ℕ) → AllDigits 10 ds → 0 < length ds → BeginsWithDigit (ds ++ rest)
begins [] rest h some = absurd (let no : ⊥ = omega arith in no)
begins (d ∷ ds) rest h some = is_digit d h.0

-- the first byte, by its place
pub digit_at_front : (bytes : List ℕ) → 1 ≤ length bytes → 48 ≤ get_or bytes 0 0 → get_or bytes 0 0 ≤ 57 → BeginsWithDigit bytes
digit_at_front [] some low high = absurd (let no : ⊥ = omega arith in no)
digit_at_front (b ∷ bs) some low high = (low, high)

pub front_of_digit : (bytes : List ℕ) → BeginsWithDigit bytes → (1 ≤ length bytes) × (48 ≤ get_or bytes 0 0) × (get_or bytes 0 0 ≤ 57)
front_of_digit [] digit = absurd digit
front_of_digit (b ∷ bs) digit = (omega arith, digit.0, digit.1)

-- if there is no digit in front, there is no number
pub no_decimal : (bytes : List ℕ) → (BeginsWithDigit bytes → ⊥) → (n : ℕ) (rest : List ℕ) → bytes ≡ decimal n ++ rest → IsWhole n rest → ⊥
no_decimal bytes none n rest same whole =
    let short : n < 10 ^ 18 = whole.0 in
    let digits = (decimal_is_IsNumeral n (omega arith)).0 in
    none (subst BeginsWithDigit (sym same) (begins (decimal n) rest digits.1 digits.0))

-- what follows a text that is no longer than the digits in front begins with a digit if one follows
-- them
begins_later : (ds later text rest : List ℕ) → AllDigits 10 ds → BeginsWithDigit later → length text ≤ length ds → ds ++ later ≡ text ++ rest → BeginsWithDigit rest
begins_later [] later [] rest h digit short same = subst BeginsWithDigit same digit
begins_later [] later (t ∷ ts) rest h digit short same = absurd (let no : ⊥ = omega arith in no)
begins_later (d ∷ ds) later [] rest h digit short same = subst BeginsWithDigit same (is_digit d h.0)
begins_later (d ∷ ds) later (t ∷ ts) rest h digit short same =
    begins_later ds later ts rest h.1 digit (omega arith) (ap (drop 1) same)

-- from the least number of 18 digits on, that many are written
long_enough : (n : ℕ) → 10 ^ 17 ≤ n → n < 10 ^ 18 → 18 ≤ length (decimal n)
long_enough n long short =
    let numeral = decimal_is_IsNumeral n (omega arith) in
    let value : digits_value 10 (decimal n) ≡ n = numeral.1 in
    let below : digits_value 10 (decimal n) < 10 ^ length (decimal n) = digits_value-lt 10 (decimal n) numeral.0.1 in
    let less : length (decimal n) ≤ 17 → 10 ^ length (decimal n) ≤ 10 ^ 17 = pow-le-pow_right (lit< tt) in
    let no : length (decimal n) ≤ 17 → ⊥ = λ h. omega (arith, less h) in
    omega (arith, no)

-- what begins with a digit above 0 is not a 0 with something after it
first_of_zero : (ds later rest : List ℕ) → 48 < get_or ds 0 0 → ds ++ later ≡ 48 ∷ rest → ⊥
first_of_zero [] later rest h same = omega arith
first_of_zero (d ∷ ds) later rest h same = let first : d ≡ 48 = ap (λ bs. get_or bs 0 0) same in omega arith

-- if a digit follows 18 digits, there is no number in front
pub too_long : (n : ℕ) (later : List ℕ) → 10 ^ 17 ≤ n → n < 10 ^ 18 → BeginsWithDigit later → (m : ℕ) (rest : List ℕ) → decimal n ++ later ≡ decimal m ++ rest → IsWhole m rest → ⊥
too_long n later long short digit m rest same whole =
    let small : m < 10 ^ 18 = whole.0 in
    let numeral = (decimal_is_IsNumeral n (omega arith)).0 in
    let lengths : length (decimal m) ≤ length (decimal n) = omega (arith, length-decimal-le 18 m (lit< tt) small (omega arith), long_enough n long short) in
    let zero : m ≡ 0 → decimal m ++ rest ≡ 48 ∷ rest = λ is. ap (λ ds. ds ++ rest) (ap decimal is ∙ decimal_digit 0 (lit< tt)) in
    let not_zero : m ≡ 0 → ⊥ = λ is. first_of_zero (decimal n) later rest (first_decimal n (omega arith) (omega arith)) (same ∙ zero is) in
    whole.1 (omega (arith, not_zero)) (begins_later (decimal n) later (decimal m) rest numeral.1 digit lengths same)
