-- Elements of values, and what one more field adds.
use Rattle.std.proofs.Common.{◌≡◌, ◌≢◌, ℕ, zero, suc, ◌+◌, ◌*◌, ◌<◌, ◌≤◌, Bool, true, false, cond, ◌&&◌, ◌||◌, List, [], ◌∷◌, ◌++◌, map, length, get_or, take, drop, sym, refl, ap, ◌∙◌, arith}
use Rattle.std.specs.Prelude.{codes, bytes_eq, IsTrue, ◌↔◌}
use Rattle.std.specs.List.{list_all, list_any}
use Rattle.std.specs.Char.{digit_value}
use Rattle.std.specs.Str.Parse.{digits_value_after, digits_value}
use Rattle.std.proofs.Math.Nat.{mul-le-mul_left}
use Rattle.std.proofs.lemmas.List.{append-nil, take_more, take-append-drop}
use Rattle.std.proofs.lemmas.Grind.{flat_map-append}
use Rattle.std.proofs.lemmas.Bool.{and_left, and_right, eq-eqb, ne_eqb}
use Rattle.std.proofs.lemmas.Bool.{false≢true}
use Rattle.std.proofs.lemmas.Slice.Eq.{bytes_eq-Decides}
use Rattle.std.specs.Bool.{Decides}
use Rattle.std.proofs.lemmas.List.{map-append}
use Rattle.std.specs.Prelude.{Result, Ok, Err, nat_le}
use Rattle.httparse.specs.Grammar.{trim_ows}
use Rattle.relay_http.specs.Fields.{number}
use Rattle.relay_http.specs.Framing.{framing_by_length}
use Rattle.relay_http.specs.declared.fault.HttpFault.{HttpFault}
use Rattle.relay_http.specs.declared.fault.HttpFault.TheVariants as fault
use Rattle.relay_http.specs.declared.framing.Framing.{Framing}
use Rattle.relay_http.specs.declared.framing.Framing.TheVariants as framing
use Rattle.relay_http.specs.Fields.{Header, same_word, has_field, values_named, elements_named, elements, pieces, in_front, agrees}
use Rattle.relay_http.specs.Codings.{coding_of, next_coding}
use Rattle.relay_http.specs.Framing.{is_chunked}
use Rattle.relay_http.specs.declared.fields.Coding.{Coding}
use Rattle.relay_http.specs.declared.fields.Coding.TheVariants as coding

-- ---- elements

pieces_at : (xs : List ℕ) (i : ℕ) → i < length xs → get_or xs i 0 ≡ 44 → ((k : ℕ) → k < i → get_or xs k 0 ≢ 44) → pieces xs ≡ take i xs ∷ pieces (drop (suc i) xs)
pieces_at [] i inside comma before = absurd (omega arith)
pieces_at (b ∷ bs) zero inside comma before =
    ap (λ t. cond t ([] ∷ pieces bs) (in_front b (pieces bs))) (eq-eqb b 44 comma)
pieces_at (b ∷ bs) (suc i) inside comma before =
    ap (λ t. cond t ([] ∷ pieces bs) (in_front b (pieces bs))) (ne_eqb b 44 (before 0 (omega arith)))
    ∙ ap (in_front b) (pieces_at bs i (omega arith) comma (λ k below. before (suc k) (omega arith)))

pieces_whole : (xs : List ℕ) → ((k : ℕ) → k < length xs → get_or xs k 0 ≢ 44) → pieces xs ≡ xs ∷ []
pieces_whole [] none = refl
pieces_whole (b ∷ bs) none =
    ap (λ t. cond t ([] ∷ pieces bs) (in_front b (pieces bs))) (ne_eqb b 44 (none 0 (omega arith)))
    ∙ ap (in_front b) (pieces_whole bs (λ k below. none (suc k) (omega arith)))

pub elements_at : (xs : List ℕ) (i : ℕ) → i < length xs → get_or xs i 0 ≡ 44 → ((k : ℕ) → k < i → get_or xs k 0 ≢ 44) → elements xs ≡ trim_ows (take i xs) ∷ elements (drop (suc i) xs)
unfolding elements
elements_at xs i inside comma before = ap (map trim_ows) (pieces_at xs i inside comma before)

pub elements_whole : (xs : List ℕ) → ((k : ℕ) → k < length xs → get_or xs k 0 ≢ 44) → elements xs ≡ trim_ows xs ∷ []
unfolding elements
elements_whole xs none = ap (map trim_ows) (pieces_whole xs none)

-- ---- tests over lists

and-true : (x : Bool) → (x && true) ≡ x
and-true true = refl
and-true false = refl

and_assoc : (x y z : Bool) → ((x && y) && z) ≡ (x && (y && z))
and_assoc true y z = refl
and_assoc false y z = refl

or_assoc : (x y z : Bool) → ((x || y) || z) ≡ (x || (y || z))
or_assoc true y z = refl
or_assoc false y z = refl

pub list_all-append : {X : Type 0} (p : X → Bool) (xs ys : List X) → list_all p (xs ++ ys) ≡ (list_all p xs && list_all p ys)
list_all-append p [] ys = refl
list_all-append p (x ∷ xs) ys = ap (λ t. p x && t) (list_all-append p xs ys) ∙ sym (and_assoc (p x) _ _)

pub list_any-append : {X : Type 0} (p : X → Bool) (xs ys : List X) → list_any p (xs ++ ys) ≡ (list_any p xs || list_any p ys)
list_any-append p [] ys = refl
list_any-append p (x ∷ xs) ys = ap (λ t. p x || t) (list_any-append p xs ys) ∙ sym (or_assoc (p x) _ _)

pub list_all_more : {X : Type 0} (p : X → Bool) (xs : List X) (i : ℕ) (d : X) → i < length xs → list_all p (take i xs) ≡ true → p (get_or xs i d) ≡ true → list_all p (take (i + 1) xs) ≡ true
list_all_more p xs i d inside before here =
    ap (list_all p) (take_more xs i d inside) ∙ list_all-append p (take i xs) _ ∙ (λ k. before k && (here k && true))

pub list_all_fails : {X : Type 0} (p : X → Bool) (xs : List X) (i : ℕ) (d : X) → i < length xs → p (get_or xs i d) ≡ false → list_all p xs ≡ false
list_all_fails p [] i d inside fails = absurd (omega arith)
list_all_fails p (x ∷ xs) zero d inside fails = and_left _ _ fails
list_all_fails p (x ∷ xs) (suc i) d inside fails = and_right _ _ (list_all_fails p xs i d (omega arith) fails)

digits_value_after-ge : (radix : ℕ) (ds : List ℕ) (n : ℕ) → 1 ≤ radix → n ≤ digits_value_after radix n ds
digits_value_after-ge radix [] n some = omega arith
digits_value_after-ge radix (d ∷ ds) n some =
    omega (arith, mul-le-mul_left n some, digits_value_after-ge radix ds (n * radix + digit_value d) some)

digits_value_after-append : (radix n : ℕ) (xs ys : List ℕ) → digits_value_after radix n (xs ++ ys) ≡ digits_value_after radix (digits_value_after radix n xs) ys
digits_value_after-append radix n [] ys = refl
digits_value_after-append radix n (x ∷ xs) ys = digits_value_after-append radix (n * radix + digit_value x) xs ys

pub digits_value-take-le : (radix i : ℕ) (ds : List ℕ) → 1 ≤ radix → digits_value radix (take i ds) ≤ digits_value radix ds
digits_value-take-le radix i ds some =
    let whole = ap (digits_value radix) (sym (take-append-drop i ds)) ∙ digits_value_after-append radix 0 (take i ds) (drop i ds) in
    omega (arith, digits_value_after-ge radix (drop i ds) (digits_value radix (take i ds)) some)

pub list_all_next : {X : Type 0} (p : X → Bool) (xs : List X) (i : ℕ) (d : X) → i < length xs → list_all p (take (i + 1) xs) ≡ (list_all p (take i xs) && p (get_or xs i d))
list_all_next p xs i d inside = ap (list_all p) (take_more xs i d inside) ∙ list_all-append p (take i xs) _ ∙ ap (λ t. list_all p (take i xs) && t) (and-true (p (get_or xs i d)))

-- ---- one more field

abbrev pub value_of : List ℕ → Header → List (List ℕ)
value_of name h = cond (same_word h.0 name) (h.1 ∷ []) []

abbrev pub elements_of : List ℕ → Header → List (List ℕ)
elements_of name h = cond (same_word h.0 name) (elements h.1) []

pub values_push : (name : List ℕ) (hs : List Header) (h : Header) → values_named name (hs ++ h ∷ []) ≡ values_named name hs ++ value_of name h
values_push name hs h = flat_map-append (value_of name) hs (h ∷ []) ∙ ap (λ l. values_named name hs ++ l) (append-nil (value_of name h))

pub elements_push : (name : List ℕ) (hs : List Header) (h : Header) → elements_named name (hs ++ h ∷ []) ≡ elements_named name hs ++ elements_of name h
elements_push name hs h = flat_map-append (elements_of name) hs (h ∷ []) ∙ ap (λ l. elements_named name hs ++ l) (append-nil (elements_of name h))

or-false : (x : Bool) → (x || false) ≡ x
or-false true = refl
or-false false = refl

pub has_field_push : (name : List ℕ) (hs : List Header) (h : Header) → has_field name (hs ++ h ∷ []) ≡ (has_field name hs || same_word h.0 name)
has_field_push name hs h = list_any-append (λ f. same_word f.0 name) hs (h ∷ []) ∙ ap (λ t. has_field name hs || t) (or-false (same_word h.0 name))

-- a field of another name changes nothing
pub values_other : (name : List ℕ) (hs : List Header) (h : Header) → same_word h.0 name ≡ false → values_named name (hs ++ h ∷ []) ≡ values_named name hs
values_other name hs h e = values_push name hs h ∙ ap (λ t. values_named name hs ++ cond t (h.1 ∷ []) []) e ∙ append-nil (values_named name hs)

pub elements_other : (name : List ℕ) (hs : List Header) (h : Header) → same_word h.0 name ≡ false → elements_named name (hs ++ h ∷ []) ≡ elements_named name hs
elements_other name hs h e = elements_push name hs h ∙ ap (λ t. elements_named name hs ++ cond t (elements h.1) []) e ∙ append-nil (elements_named name hs)

pub values_same : (name : List ℕ) (hs : List Header) (h : Header) → same_word h.0 name ≡ true → values_named name (hs ++ h ∷ []) ≡ values_named name hs ++ h.1 ∷ []
values_same name hs h e = values_push name hs h ∙ ap (λ t. values_named name hs ++ cond t (h.1 ∷ []) []) e

pub elements_same : (name : List ℕ) (hs : List Header) (h : Header) → same_word h.0 name ≡ true → elements_named name (hs ++ h ∷ []) ≡ elements_named name hs ++ elements h.1
elements_same name hs h e = elements_push name hs h ∙ ap (λ t. elements_named name hs ++ cond t (elements h.1) []) e

-- all of the elements with one more field's
pub all_more : (p : List ℕ → Bool) (xs ys : List (List ℕ)) (b c : Bool) → b ≡ list_all p xs → c ≡ list_all p ys → (b && c) ≡ list_all p (xs ++ ys)
all_more p xs ys b c e f = (λ i. e i && f i) ∙ sym (list_all-append p xs ys)

pub all_one : (p : List ℕ → Bool) (xs : List (List ℕ)) (y : List ℕ) (b c : Bool) → b ≡ list_all p xs → c ≡ p y → (b && c) ≡ list_all p (xs ++ y ∷ [])
all_one p xs y b c e f = all_more p xs (y ∷ []) b c e (f ∙ sym (and-true (p y)))

pub any_more : (p : List ℕ → Bool) (xs ys : List (List ℕ)) (b c : Bool) → b ≡ list_any p xs → c ≡ list_any p ys → (b || c) ≡ list_any p (xs ++ ys)
any_more p xs ys b c e f = (λ i. e i || f i) ∙ sym (list_any-append p xs ys)

after_one : (b : Bool) (v : List ℕ) → coding.Other ≡ next_coding (cond b coding.Chunked coding.Other) v
after_one true v = refl
after_one false v = refl

pub coding_push : (vs : List (List ℕ)) (v : List ℕ) → coding_of (vs ++ v ∷ []) ≡ next_coding (coding_of vs) v
coding_push [] v = refl
coding_push (w ∷ []) v = after_one (same_word w (codes "chunked")) v
coding_push (w ∷ (x ∷ vs)) v = refl

abbrev pub says_chunked : Coding → Bool
says_chunked coding.Absent = false
says_chunked coding.Chunked = true
says_chunked coding.Other = false

by_word : (b : Bool) → b ≡ says_chunked (cond b coding.Chunked coding.Other)
by_word true = refl
by_word false = refl

pub coding_says : (vs : List (List ℕ)) → is_chunked vs ≡ says_chunked (coding_of vs)
coding_says [] = refl
coding_says (v ∷ []) = by_word (same_word v (codes "chunked"))
coding_says (v ∷ (w ∷ vs)) = refl

-- two tests of one fact are one
both_decide : {P : Type 0} (r t : Bool) → (IsTrue r ↔ P) → Decides t P → r ≡ t
both_decide true true h d = refl
both_decide false false h d = refl
both_decide true false h d = absurd (false≢true (d.1 (h.0 refl)))
both_decide false true h d = absurd (false≢true (h.1 (d.0 refl)))

pub same_test : (r : Bool) (xs ys : List ℕ) → (IsTrue r ↔ (xs ≡ ys)) → r ≡ bytes_eq xs ys
same_test r xs ys h = both_decide r (bytes_eq xs ys) h (bytes_eq-Decides xs ys)

map-push : {A : Type 0} (f : A → Header) (xs : List A) (i : ℕ) (d : A) → i < length xs → map f (take (i + 1) xs) ≡ map f (take i xs) ++ f (get_or xs i d) ∷ []
map-push f xs i d inside = ap (map f) (take_more xs i d inside) ∙ map-append f (take i xs) (get_or xs i d ∷ [])

pub elements_step : {A : Type 0} (name : List ℕ) (f : A → Header) (xs : List A) (i : ℕ) (d : A) → i < length xs → elements_named name (map f (take i xs)) ≡ [] → same_word (f (get_or xs i d)).0 name ≡ false → elements_named name (map f (take (i + 1) xs)) ≡ []
elements_step name f xs i d inside none other = ap (elements_named name) (map-push f xs i d inside) ∙ elements_other name (map f (take i xs)) (f (get_or xs i d)) other ∙ none

-- the elements of the first field of the name come first
pub elements_split : {A : Type 0} (name : List ℕ) (f : A → Header) (xs : List A) (i : ℕ) (d : A) → i < length xs → elements_named name (map f (take i xs)) ≡ [] → same_word (f (get_or xs i d)).0 name ≡ true
    → (more : List (List ℕ)) × (elements_named name (map f xs) ≡ elements (f (get_or xs i d)).1 ++ more)
elements_split name f xs i d inside none named =
    let rest = map f (drop (i + 1) xs) in
    let whole : map f xs ≡ map f (take (i + 1) xs) ++ rest = ap (map f) (sym (take-append-drop (i + 1) xs)) ∙ map-append f (take (i + 1) xs) (drop (i + 1) xs) in
    let front : elements_named name (map f (take (i + 1) xs)) ≡ elements (f (get_or xs i d)).1 = ap (elements_named name) (map-push f xs i d inside) ∙ elements_same name (map f (take i xs)) (f (get_or xs i d)) named ∙ ap (λ l. l ++ elements (f (get_or xs i d)).1) none in
    (elements_named name rest, ap (elements_named name) whole ∙ flat_map-append (elements_of name) (map f (take (i + 1) xs)) rest ∙ ap (λ l. l ++ elements_named name rest) front)

-- the length that the first of the elements gives
pub sized_first : (limit : ℕ) (o : Framing) (all : Bool) (r : Result Framing HttpFault) (value first : List ℕ) (rest more es : List (List ℕ))
    → elements value ≡ first ∷ rest → es ≡ elements value ++ more → all ≡ list_all (agrees first) es
    → ((tail : List (List ℕ)) → all ≡ list_all (agrees first) (first ∷ tail) → r ≡ cond all (cond (nat_le (number first) limit) (Ok (framing.Sized (number first))) (Err fault.BodyLong)) (Err fault.Malformed))
    → r ≡ framing_by_length limit o es
sized_first limit o all r value first rest more es e f a h =
    let whole : es ≡ first ∷ (rest ++ more) = f ∙ ap (λ l. l ++ more) e in
    let same : all ≡ list_all (agrees first) (first ∷ (rest ++ more)) = a ∙ ap (list_all (agrees first)) whole in
    h (rest ++ more) same ∙ ap (λ b. cond b (cond (nat_le (number first) limit) (Ok (framing.Sized (number first))) (Err fault.BodyLong)) (Err fault.Malformed)) same ∙ sym (ap (framing_by_length limit o) whole)
