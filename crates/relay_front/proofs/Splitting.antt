-- A text, cut at the first of some byte.
use Rattle.std.proofs.Common.{◌≡◌, ◌≢◌, ℕ, ◌+◌, ◌<◌, true, false, ◌==◌, List, [], ◌∷◌, ◌++◌, length, get_or, refl, ap, ◌∙◌, arith, length-append, Bool, Option, None, Some}
use denote.Ref.{Bor}
use Rattle.std.specs.Prelude.{MatchOption}
use Rattle.std.proofs.lemmas.Bool.Decides.{nat_tests}
use Rattle.std.proofs.lemmas.Grind.{common_steps}
use Rattle.std.proofs.lemmas.Str.Pattern.{IsSplitOnceResult, split_parts}
use Rattle.relay_front.specs.Parts.{parts_at}
use Rattle.relay_front.specs.Routes.{without_slash, asked_by, Unknown}

-- no byte of the list is c
abbrev Lacks : ℕ → List ℕ → Type 0
Lacks c xs = (i : ℕ) → i < length xs → get_or xs i 0 ≢ c

head_differs : (c x : ℕ) (xs : List ℕ) → Lacks c (x ∷ xs) → (x == c) ≡ false
head_differs c x xs h = let ne : x ≢ c = h 0 (grind (arith, common_steps)) in grind (arith, nat_tests)

Lacks-tail : (c x : ℕ) (xs : List ℕ) → Lacks c (x ∷ xs) → Lacks c xs
Lacks-tail c x xs h i lt = let k = h (i + 1) (grind (arith, common_steps)) in grind (arith, common_steps)

same_test : (c : ℕ) → (c == c) ≡ true
same_test c = grind (arith, nat_tests)

parts-Lacks : (c : ℕ) (xs : List ℕ) → Lacks c xs → parts_at c xs ≡ xs ∷ []
parts-Lacks c [] h = refl
parts-Lacks c (x ∷ xs) h = rw (head_differs c x xs h, parts-Lacks c xs (Lacks-tail c x xs h))

parts-cut : (c : ℕ) (xs ys : List ℕ) → Lacks c xs → parts_at c (xs ++ c ∷ ys) ≡ xs ∷ parts_at c ys
parts-cut c [] ys h = rw (same_test c)
parts-cut c (x ∷ xs) ys h = rw (head_differs c x xs h, parts-cut c xs ys (Lacks-tail c x xs h))

-- what `split_once` gives, as parts
pub cut_by : (c : ℕ) (bs : List ℕ) (r : Option (Bor (List ℕ) × Bor (List ℕ))) → IsSplitOnceResult c bs r → c < 128
    → MatchOption r (parts_at c bs ≡ bs ∷ []) (λ x. parts_at c bs ≡ x.0.now ∷ parts_at c x.1.now)
cut_by c bs None h small = parts-Lacks c bs (split_parts c bs None h small)
cut_by c bs (Some x) h small =
    let is = split_parts c bs (Some x) h small in
    ap (parts_at c) is.0 ∙ parts-cut c x.0.now x.1.now is.1

pub cut_shorter : (c : ℕ) (bs : List ℕ) (r : Option (Bor (List ℕ) × Bor (List ℕ))) → IsSplitOnceResult c bs r → c < 128
    → MatchOption r (Unit {0}) (λ x. length x.1.now < length bs)
cut_shorter c bs None h small = tt
cut_shorter c bs (Some x) h small =
    let is = split_parts c bs (Some x) h small in
    let long : length bs ≡ length x.0.now + length (c ∷ x.1.now) = ap length is.0 ∙ length-append x.0.now (c ∷ x.1.now) in
    grind (arith, common_steps, long)

-- a list of parts is not empty
abbrev pub HasPart : ℕ → List ℕ → Type 0
HasPart c xs = (p : List ℕ) × (ps : List (List ℕ)) × (parts_at c xs ≡ p ∷ ps)

part_before : (c x : ℕ) (xs : List ℕ) (t : Bool) → (x == c) ≡ t → HasPart c xs → HasPart c (x ∷ xs)
part_before c x xs true e rest = ([], parts_at c xs, rw e)
part_before c x xs false e rest = (x ∷ rest.0, rest.1, rw (e, rest.2))

pub some_part : (c : ℕ) (xs : List ℕ) → HasPart c xs
some_part c [] = ([], [], refl)
some_part c (x ∷ xs) = part_before c x xs (x == c) refl (some_part c xs)

-- a slash at the end
pub slash_dropped : (front : List ℕ) → without_slash (front ++ 47 ∷ []) ≡ front
slash_dropped [] = refl
slash_dropped (x ∷ []) = refl
slash_dropped (x ∷ y ∷ front) = ap (λ w. x ∷ w) (slash_dropped (y ∷ front))

pub slash_kept : (bs : List ℕ) → ((front : List ℕ) → bs ≢ front ++ (47 ∷ [])) → without_slash bs ≡ bs
slash_kept [] h = refl
slash_kept (x ∷ []) h = let ne : x ≢ 47 = λ e. h [] (ap (λ k. k ∷ []) e) in grind (arith, nat_tests)
slash_kept (x ∷ y ∷ bs) h = ap (λ w. x ∷ w) (slash_kept (y ∷ bs) (λ front e. h (x ∷ front) (ap (λ w. x ∷ w) e)))

-- a path without a slash at its front
pub no_slash : (m path : List ℕ) → ((rest : List ℕ) → path ≢ 47 ∷ rest) → asked_by m path ≡ Unknown
no_slash m [] h = refl
no_slash m (b ∷ rest) h =
    let ne : b ≢ 47 = λ e. h rest (ap (λ k. k ∷ rest) e) in
    let f : (b == 47) ≡ false = grind (arith, nat_tests) in
    rw f
