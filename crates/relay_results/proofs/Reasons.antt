-- A reason that states a stored version, and what is kept of it.
use Rattle.std.proofs.Common.{◌≡◌, ◌+◌, ◌<◌, ◌≤◌, ◌^◌, ◌⊎◌, inl, inr, ℕ, zero, suc, List, [], ◌∷◌, ◌++◌, ◌==◌, ◌||◌, ◌&&◌, not, length, take, get_or, Bool, true, false, refl, ap, sym, subst, ◌∙◌, arith, append_assoc}
use Rattle.std.specs.Prelude.{codes, decimal, nat_le, nat_lt, if◌then◌else◌}
use Rattle.std.specs.Str.{IsCharBoundary}
use Rattle.std.specs.List.{list_any}
use Rattle.std.specs.Str.Parse.{AllDigits}
use borrow.Author.Tests.{ltb-true, ltb-false, leb-true}
use Rattle.std.proofs.lemmas.Bool.{le-leb, lt-ltb}
use Rattle.std.proofs.lemmas.Bool.Decides.{nat_tests}
use Rattle.std.proofs.lemmas.Fmt.{decimal_is_IsNumeral}
use Rattle.std.proofs.lemmas.Grind.{common_steps}
use Rattle.relay_results.specs.declared.done.VersionConflict.{VersionConflict}
use Rattle.relay_results.specs.Conflicts.{conflict_reason, may_cut, last_cut, front}
use Rattle.relay_results.specs.Replies.{IsTruncated, reason_limit}
use Rattle.relay_results.proofs.Both.{both, and-true}
use Rattle.relay_results.proofs.OneReading.{one_cut}
use Rattle.relay_results.specs.Stored.{stored_mark, StatesStored}

-- ---- the mark is the last

abbrev HasNoC : List ℕ → Type 0
HasNoC text = list_any (λ b. b == 99) text ≡ false

no_c-append : (xs ys : List ℕ) → HasNoC xs → HasNoC ys → HasNoC (xs ++ ys)
no_c-append [] ys h k = k
no_c-append (x ∷ xs) ys h k = elim (x == 99) as (λ b. (b || list_any (λ b. b == 99) xs) ≡ false → (b || list_any (λ b. b == 99) (xs ++ ys)) ≡ false) [
  | true ↦ λ e. cc
  | false ↦ λ e. no_c-append xs ys e k
] h

digits-no_c : (w : List ℕ) → AllDigits 10 w → HasNoC w
digits-no_c [] all = refl
digits-no_c (x ∷ w) all =
    let rest = digits-no_c w all.1 in
    let two : (x ≡ 99) ⊎ ((x == 99) ≡ false) = grind (arith, nat_tests) in
    elim two [ inl e ↦ absurd (omega (arith, rw e at all.0)) | inr apart ↦ ap (λ b. b || list_any (λ b. b == 99) w) apart ∙ rest ]

c_in : (front rest : List ℕ) → list_any (λ b. b == 99) (front ++ 99 ∷ rest) ≡ true
c_in [] rest = refl
c_in (x ∷ front) rest = let more = c_in front rest in grind (arith, common_steps, more)

-- a later one would have another `c`
last_c : (before tail other rest : List ℕ) → HasNoC tail → before ++ 99 ∷ tail ≡ other ++ 99 ∷ rest → length other ≤ length before
last_c [] tail [] rest none e = omega arith
last_c [] tail (x ∷ other) rest none e =
    let tails : tail ≡ other ++ 99 ∷ rest = cc in
    let some = c_in other rest in
    let same = ap (list_any (λ b. b == 99)) tails in absurd (cc)
last_c (b ∷ before) tail [] rest none e = omega arith
last_c (b ∷ before) tail (x ∷ other) rest none e =
    let tails : before ++ 99 ∷ tail ≡ other ++ 99 ∷ rest = cc in
    let more = last_c before tail other rest none tails in omega (arith, more)

-- the reason up to the mark, and after its first byte
abbrev start : List ℕ → List ℕ
start id = codes "[" ++ (id ++ codes "]: version conflict, ")

abbrev ending : VersionConflict → List ℕ
ending c =
    codes "urrent version [" ++ (decimal c.stored ++ (codes "] is higher or equal to the one provided [" ++ (decimal c.provided ++ codes "]")))

reason_is : (id : List ℕ) (c : VersionConflict) → conflict_reason id c ≡ start id ++ 99 ∷ ending c
reason_is id c = ap (λ xs. 91 ∷ xs) (sym (append_assoc id (codes "]: version conflict, ") (99 ∷ ending c)))

ending-no_c : (c : VersionConflict) → c.stored < 2 ^ 64 → c.provided < 2 ^ 64 → HasNoC (ending c)
ending-no_c c fits provided =
    no_c-append (codes "urrent version [") (decimal c.stored ++ (codes "] is higher or equal to the one provided [" ++ (decimal c.provided ++ codes "]"))) refl
    (no_c-append (decimal c.stored) (codes "] is higher or equal to the one provided [" ++ (decimal c.provided ++ codes "]")) (digits-no_c (decimal c.stored) (decimal_is_IsNumeral c.stored fits).0.1)
    (no_c-append (codes "] is higher or equal to the one provided [") (decimal c.provided ++ codes "]") refl
    (no_c-append (decimal c.provided) (codes "]") (digits-no_c (decimal c.provided) (decimal_is_IsNumeral c.provided provided).0.1) refl)))

pub states_stored : (id : List ℕ) (c : VersionConflict) → c.stored < 2 ^ 64 → c.provided < 2 ^ 64 → StatesStored (conflict_reason id c) c.stored
states_stored id c fits provided =
    let number = decimal_is_IsNumeral c.stored fits in record {
      before = start id;
      digits = decimal c.stored;
      after = codes " is higher or equal to the one provided [" ++ (decimal c.provided ++ codes "]");
      mark = record {
        is_there = reason_is id c;
        last = λ other rest e.
            last_c (start id) (ending c) other (codes "urrent version [" ++ rest) (ending-no_c c fits provided) (sym (reason_is id c) ∙ e);
      };
      number = record { digits = number.0; value = number.1; within = fits };
    }

-- ---- what is kept

pub reason-starts : (id : List ℕ) (c : VersionConflict) → IsCharBoundary (conflict_reason id c) 0
reason-starts id c = (omega arith, λ some high. absurd (omega (arith, high)))

high_is_late : (x y z : Bool) → (not x || (y || z)) ≡ true → x ≡ true → y ≡ false → z ≡ true
high_is_late true true z h a b = cc
high_is_late true false true h a b = refl
high_is_late true false false h a b = cc
high_is_late false y z h a b = cc

late_is_high : (x y z : Bool) → (x ≡ true → y ≡ false → z ≡ true) → (not x || (y || z)) ≡ true
late_is_high true true z h = refl
late_is_high true false z h = h refl refl
late_is_high false y z h = refl

boundary_of : (text : List ℕ) (n : ℕ) → may_cut text n ≡ true → IsCharBoundary text n
boundary_of text n h =
    let two = both (nat_le n (length text)) _ h in (
      leb-true n (length text) two.0,
      λ some high.
          let low : nat_lt (get_or text n 0) 128 ≡ false = grind (arith, high) in
          leb-true 192 (get_or text n 0) (high_is_late (nat_lt n (length text)) (nat_lt (get_or text n 0) 128) (nat_le 192 (get_or text n 0)) two.1 (lt-ltb n (length text) some) low),
    )

may_cut_at : (text : List ℕ) (n : ℕ) → IsCharBoundary text n → may_cut text n ≡ true
may_cut_at text n b =
    and-true _ _ (le-leb n (length text) b.0)
    (late_is_high (nat_lt n (length text)) (nat_lt (get_or text n 0) 128) (nat_le 192 (get_or text n 0))
    (λ some high. le-leb 192 (get_or text n 0) (b.1 (ltb-true n (length text) some) (ltb-false (get_or text n 0) 128 high))))

cut_within : (text : List ℕ) (n : ℕ) → last_cut text n ≤ n
cut_within text zero = omega arith
cut_within text (suc n) =
    let less = cut_within text n in
    elim (may_cut text (suc n)) as (λ b. (if b then suc n else last_cut text n) ≤ suc n) [ true ↦ omega arith | false ↦ omega (arith, less) ]

cut_ends : (text : List ℕ) (n : ℕ) → IsCharBoundary text 0 → IsCharBoundary text (last_cut text n)
cut_ends text zero first = first
cut_ends text (suc n) first = by (cut_ends text n first) (may_cut text (suc n)) refl
  where
    by : IsCharBoundary text (last_cut text n) → (b : Bool) → may_cut text (suc n) ≡ b → IsCharBoundary text (if b then suc n else last_cut text n)
    by less true e = boundary_of text (suc n) e
    by less false e = less

at_or_below : (m n : ℕ) → m ≤ suc n → (m ≡ suc n) ⊎ (m ≤ n)
at_or_below m n h = grind (arith, h)

none_longer : (text : List ℕ) (n more : ℕ) → last_cut text n < more → more ≤ n → may_cut text more ≡ true → ⊥
none_longer text zero more over within may = absurd (omega (arith, over, within))
none_longer text (suc n) more over within may = by (λ o w. none_longer text n more o w may) (may_cut text (suc n)) refl over
  where
    by : (last_cut text n < more → more ≤ n → ⊥) → (b : Bool) → may_cut text (suc n) ≡ b → (if b then suc n else last_cut text n) < more → ⊥
    by less true e o = omega (arith, o, within)
    by less false e o = elim (at_or_below more n within) [ inl here ↦ cc (sym e ∙ ap (may_cut text) (sym here) ∙ may) | inr below ↦ less o below ]

pub front_is : (limit : ℕ) (text : List ℕ) → IsCharBoundary text 0 → IsTruncated limit text (front limit text)
front_is limit text first = record {
  count = last_cut text limit;
  within = cut_within text limit;
  ends = cut_ends text limit first;
  longest = λ more over within b. none_longer text limit more over within (may_cut_at text more b);
  front_is = refl;
}

-- what was cut of it is that
pub kept_is : (id text kept : List ℕ) (c : VersionConflict) → text ≡ conflict_reason id c → IsTruncated reason_limit text kept → kept ≡ front reason_limit (conflict_reason id c)
kept_is id text kept c e cut =
    one_cut reason_limit (conflict_reason id c) kept (front reason_limit (conflict_reason id c)) (subst (λ t. IsTruncated reason_limit t kept) e cut)
    (front_is reason_limit (conflict_reason id c) (reason-starts id c))
