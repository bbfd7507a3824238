-- The line at the front of a list of bytes is one.
use Rattle.std.proofs.Common.{◌≡◌, ◌≢◌, ◌⊎◌, ℕ, ◌+◌, ◌-◌, ◌<◌, ◌≤◌, List, [], ◌∷◌, ◌++◌, length, get_or, Option, None, Some, refl, ap, sym, ◌∙◌, subst, arith, inl, inr, append_assoc, length-append, append-nil}
use Rattle.std.proofs.lemmas.Grind.{common_steps}
use Rattle.std.specs.Io.KnownBytes.{prepend_known, IsAtEnd}
use Rattle.relay_ndjson.specs.Lines.{IsUnbroken, IsRaw, IsPastLimit, line_limit, IsLineBefore, TakesText, IsLong}

unbroken_head : (x : ℕ) (xs : List ℕ) → IsUnbroken (x ∷ xs) → x ≢ 10
unbroken_head x xs h e = grind (arith, common_steps)

unbroken_tail : (x : ℕ) (xs : List ℕ) → IsUnbroken (x ∷ xs) → IsUnbroken xs
unbroken_tail x xs h = grind (arith, common_steps)

-- a list is split at its first line end in one way
same_split : (xs ys r s : List ℕ) → IsUnbroken xs → IsUnbroken ys → xs ++ 10 ∷ r ≡ ys ++ 10 ∷ s → (xs ≡ ys) × (r ≡ s)
same_split [] [] r s h k e = (refl, cc)
same_split [] (y ∷ ys) r s h k e = let f : y ≡ 10 = cc in absurd (unbroken_head y ys k f)
same_split (x ∷ xs) [] r s h k e = let f : x ≡ 10 = cc in absurd (unbroken_head x xs h f)
same_split (x ∷ xs) (y ∷ ys) r s h k e =
    let f : x ≡ y = cc in
    let t : xs ++ 10 ∷ r ≡ ys ++ 10 ∷ s = cc in
    let rec = same_split xs ys r s (unbroken_tail x xs h) (unbroken_tail y ys k) t in
    let g = rec.0 in (cc, rec.1)

pub not_unbroken : (xs r : List ℕ) → IsUnbroken (xs ++ 10 ∷ r) → ⊥
not_unbroken [] r h = unbroken_head 10 r h refl
not_unbroken (x ∷ xs) r h = not_unbroken xs r (unbroken_tail x (xs ++ 10 ∷ r) h)

-- unbroken bytes at the front precede the first line end
pub prefix : (xs raw r t : List ℕ) → IsUnbroken raw → xs ++ 10 ∷ r ≡ raw ++ t → (u : List ℕ) × (xs ≡ raw ++ u)
prefix xs [] r t h e = (xs, refl)
prefix [] (y ∷ raw) r t h e = let f : y ≡ 10 = cc in absurd (unbroken_head y raw h f)
prefix (x ∷ xs) (y ∷ raw) r t h e =
    let f : x ≡ y = cc in
    let g : xs ++ 10 ∷ r ≡ raw ++ t = cc in
    let rec = prefix xs raw r t (unbroken_tail y raw h) g in
    let k = rec.1 in (rec.0, cc)

pub last_of : (xs : List ℕ) (b : ℕ) → get_or (xs ++ b ∷ []) (length xs) 0 ≡ b
last_of [] b = refl
last_of (x ∷ xs) b = last_of xs b

drop_last : (xs ys : List ℕ) (b : ℕ) → xs ++ b ∷ [] ≡ ys ++ b ∷ [] → xs ≡ ys
drop_last [] [] b e = refl
drop_last [] (y ∷ []) b e = cc
drop_last [] (y ∷ z ∷ ys) b e = cc
drop_last (x ∷ []) [] b e = cc
drop_last (x ∷ z ∷ xs) [] b e = cc
drop_last (x ∷ xs) (y ∷ ys) b e =
    let f : x ≡ y = cc in
    let t : xs ++ b ∷ [] ≡ ys ++ b ∷ [] = cc in
    let k = drop_last xs ys b t in cc

ends_in_13 : (text raw : List ℕ) → raw ≡ text ++ 13 ∷ [] → get_or raw (length raw - 1) 0 ≡ 13
ends_in_13 text raw e =
    let n : length raw - 1 ≡ length text = rw e (simp length-append (omega arith)) in
    rw (n, e) (last_of text 13)

same_text : (text other raw : List ℕ) → IsRaw text raw → IsRaw other raw → text ≡ other
same_text text other raw (inl a) (inl b) = drop_last text other 13 (sym a ∙ b)
same_text text other raw (inl a) (inr b) = absurd (b.1 (ends_in_13 text raw a))
same_text text other raw (inr a) (inl b) = absurd (a.1 (ends_in_13 other raw b))
same_text text other raw (inr a) (inr b) = sym a.0 ∙ b.0

-- the bytes of a line with its end, and what follows
pub rejoined : (raw bytes rest all : List ℕ) → bytes ≡ raw ++ 10 ∷ [] → all ≡ bytes ++ rest → all ≡ raw ++ 10 ∷ rest
rejoined raw bytes rest all e f = f ∙ ap (λ b. b ++ rest) e ∙ append_assoc raw (10 ∷ []) rest

-- over bytes that are known
same_front : (all r s text other b c : List ℕ) → IsLineBefore (Some r) text b → all ≡ b ++ r → IsLineBefore (Some s) other c → all ≡ c ++ s → (r ≡ s) × (text ≡ other)
same_front all r s text other b c (inl l) e (inl m) f =
    let k = same_split l.0 m.0 r s l.1 m.1 (sym (rejoined l.0 b r all l.4 e) ∙ rejoined m.0 c s all m.4 f) in
    (k.1, same_text text other m.0 (subst (λ (x : List ℕ). IsRaw text x) k.0 l.2) m.2)
same_front all r s text other b c (inl l) e (inr m) f =
    let whole : other ≡ all = sym m.3 ∙ (sym (append-nil c) ∙ (ap (λ x. c ++ x) (sym m.4) ∙ sym f)) in
    absurd (not_unbroken l.0 r (subst IsUnbroken (whole ∙ rejoined l.0 b r all l.4 e) m.0))
same_front all r s text other b c (inr l) e (inl m) f =
    let whole : text ≡ all = sym l.3 ∙ (sym (append-nil b) ∙ (ap (λ x. b ++ x) (sym l.4) ∙ sym e)) in
    absurd (not_unbroken m.0 s (subst IsUnbroken (whole ∙ rejoined m.0 c s all m.4 f) l.0))
same_front all r s text other b c (inr l) e (inr m) f =
    let one : text ≡ all = sym l.3 ∙ (sym (append-nil b) ∙ (ap (λ x. b ++ x) (sym l.4) ∙ sym e)) in
    let two : other ≡ all = sym m.3 ∙ (sym (append-nil c) ∙ (ap (λ x. c ++ x) (sym m.4) ∙ sym f)) in
    (l.4 ∙ sym m.4, one ∙ sym two)

-- ---- long lines

pub nil_of : (xs : List ℕ) → length xs ≡ 0 → xs ≡ []
nil_of [] e = refl
nil_of (x ∷ xs) e = absurd (omega arith)

cons_not_nil : (xs r : List ℕ) → xs ++ 10 ∷ r ≡ [] → ⊥
cons_not_nil [] r e = cc
cons_not_nil (x ∷ xs) r e = cc

past_some : (raw t : List ℕ) → IsPastLimit raw ⊎ ((line_limit < length raw) × (t ≡ [])) → length raw + length t ≡ 0 → ⊥
past_some raw t (inl p) e = omega (arith, p.0, e)
past_some raw t (inr p) e = omega (arith, p.0, e)

-- a line with its end is not long
ended_not_long : (all text line raw r t : List ℕ) → IsUnbroken line → IsRaw text line → length text ≤ line_limit → all ≡ line ++ 10 ∷ r → IsUnbroken raw → all ≡ raw ++ t → IsPastLimit raw ⊎ ((line_limit < length raw) × (t ≡ [])) → ⊥
ended_not_long all text line raw r t h w n e k f (inr p) =
    not_unbroken line r (subst IsUnbroken (sym (append-nil raw) ∙ (ap (λ x. raw ++ x) (sym p.1) ∙ (sym f ∙ e))) k)
ended_not_long all text line raw r t h (inr w) n e k f (inl p) =
    let u = prefix line raw r t k (sym e ∙ f) in
    let a : length line ≡ length raw + length u.0 = ap length u.1 ∙ length-append raw u.0 in
    let b : length line ≡ length text = ap length w.0 in
    omega (arith, a, b, n, p.0)
ended_not_long all text line raw r t h (inl w) n e k f (inl p) =
    let u = prefix line raw r t k (sym e ∙ f) in
    let a : length line ≡ length raw + length u.0 = ap length u.1 ∙ length-append raw u.0 in
    let b : length line ≡ length text + 1 = ap length w ∙ length-append text (13 ∷ []) in
    let c : length raw ≡ line_limit + 1 = omega (arith, a, b, n, p.0) in
    let d : length u.0 ≡ 0 = omega (arith, a, b, n, p.0) in
    let same : line ≡ raw = u.1 ∙ (ap (λ x. raw ++ x) (nil_of u.0 d) ∙ append-nil raw) in
    let at : line_limit ≡ length text = omega (arith, a, b, n, p.0) in
    p.1 c (ap (λ x. get_or x line_limit 0) (sym same ∙ w) ∙ (ap (λ m. get_or (text ++ 13 ∷ []) m 0) at ∙ last_of text 13))

open_not_long : (all text raw t : List ℕ) → length text ≤ line_limit → text ≡ all → all ≡ raw ++ t → IsPastLimit raw ⊎ ((line_limit < length raw) × (t ≡ [])) → ⊥
open_not_long all text raw t n e f (inl p) =
    let a : length text ≡ length raw + length t = ap length (e ∙ f) ∙ length-append raw t in omega (arith, a, n, p.0)
open_not_long all text raw t n e f (inr p) =
    let a : length text ≡ length raw + length t = ap length (e ∙ f) ∙ length-append raw t in omega (arith, a, n, p.0)

line_not_long : (all r text b raw t : List ℕ) → IsLineBefore (Some r) text b → all ≡ b ++ r → IsUnbroken raw → all ≡ raw ++ t → IsPastLimit raw ⊎ ((line_limit < length raw) × (t ≡ [])) → ⊥
line_not_long all r text b raw t (inl l) e k f p = ended_not_long all text l.0 raw r t l.1 l.2 l.3 (rejoined l.0 b r all l.4 e) k f p
line_not_long all r text b raw t (inr l) e k f p =
    open_not_long all text raw t l.2 (sym l.3 ∙ (sym (append-nil b) ∙ (ap (λ x. b ++ x) (sym l.4) ∙ sym e))) f p

line_not_empty : (all r text b : List ℕ) → IsLineBefore (Some r) text b → all ≡ b ++ r → all ≡ [] → ⊥
line_not_empty all r text b (inl l) e z = cons_not_nil l.0 r (sym (rejoined l.0 b r all l.4 e) ∙ z)
line_not_empty all r text b (inr l) e z =
    l.1 (sym l.3 ∙ (sym (append-nil b) ∙ (ap (λ x. b ++ x) (sym l.4) ∙ (sym e ∙ z))))

-- ---- over streams that show their bytes

-- the stream shows its bytes
abbrev pub Shows : Option (List ℕ) → Type 0
Shows old = (bytes : List ℕ) × (old ≡ Some bytes)

pub shown_rest : (old new : Option (List ℕ)) (b : List ℕ) → Shows old → old ≡ prepend_known b new → (all : List ℕ) × (rest : List ℕ) × (old ≡ Some all) × (new ≡ Some rest) × (all ≡ b ++ rest)
shown_rest old None b s e = let n : Some s.0 ≡ None = sym s.1 ∙ e in cc
shown_rest old (Some rest) b s e = (b ++ rest, rest, e, refl, refl)

pub shows_on : (old new : Option (List ℕ)) (text : List ℕ) → Shows old → TakesText old new text → Shows new
shows_on old new text s t = let r = shown_rest old new t.bytes s t.taken in (r.1, r.3)

pub some_same : (xs ys : List ℕ) → Some xs ≡ Some ys → xs ≡ ys
some_same xs ys e = cc

before_at : (old new rest : Option (List ℕ)) (text b : List ℕ) → new ≡ rest → IsLineBefore new text b → IsLineBefore rest text b
before_at old new rest text b e l = subst (λ (o : Option (List ℕ)). IsLineBefore o text b) e l

-- the line at the front is one
pub one_text : (old new mid : Option (List ℕ)) (text other : List ℕ) → Shows old → TakesText old new text → TakesText old mid other → (new ≡ mid) × (text ≡ other)
one_text old new mid text other s t u =
    let r = shown_rest old new t.bytes s t.taken in
    let q = shown_rest old mid u.bytes s u.taken in
    let same : r.0 ≡ q.0 = some_same r.0 q.0 (sym r.2 ∙ q.2) in
    let k = same_front r.0 r.1 q.1 text other t.bytes u.bytes (before_at old new (Some r.1) text t.bytes r.3 t.line) r.4 (before_at old mid (Some q.1) other u.bytes q.3 u.line) (same ∙ q.4) in
    (r.3 ∙ (ap Some k.0 ∙ sym q.3), k.1)

pub at_end : (old : Option (List ℕ)) (bytes : List ℕ) → old ≡ Some bytes → IsAtEnd old → bytes ≡ []
at_end old bytes e h = subst IsAtEnd e h

-- if there is a line, the stream has not ended
pub no_text_at_end : (old new : Option (List ℕ)) (text : List ℕ) → Shows old → TakesText old new text → IsAtEnd old → ⊥
no_text_at_end old new text s t h =
    let r = shown_rest old new t.bytes s t.taken in
    line_not_empty r.0 r.1 text t.bytes (before_at old new (Some r.1) text t.bytes r.3 t.line) r.4 (at_end old r.0 r.2 h)

past_at : (rest : Option (List ℕ)) (t raw : List ℕ) → rest ≡ Some t → IsPastLimit raw ⊎ ((line_limit < length raw) × IsAtEnd rest) → IsPastLimit raw ⊎ ((line_limit < length raw) × (t ≡ []))
past_at rest t raw e (inl p) = inl p
past_at rest t raw e (inr p) = inr (p.0, at_end rest t e p.1)

-- nor is the line long
pub no_text_at_long : (old new : Option (List ℕ)) (text : List ℕ) → Shows old → TakesText old new text → IsLong old → ⊥
no_text_at_long old new text s t l =
    let r = shown_rest old new t.bytes s t.taken in
    let q = shown_rest old l.rest l.raw s l.taken in
    let same : r.0 ≡ q.0 = some_same r.0 q.0 (sym r.2 ∙ q.2) in
    line_not_long r.0 r.1 text t.bytes l.raw q.1 (before_at old new (Some r.1) text t.bytes r.3 t.line) r.4 l.unbroken (same ∙ q.4) (past_at l.rest q.1 l.raw q.3 l.past)

pub no_long_at_end : (old : Option (List ℕ)) → Shows old → IsLong old → IsAtEnd old → ⊥
no_long_at_end old s l h =
    let q = shown_rest old l.rest l.raw s l.taken in
    let z : length l.raw + length q.1 ≡ 0 = sym (length-append l.raw q.1) ∙ ap length (sym q.4 ∙ at_end old q.0 q.2 h) in
    past_some l.raw q.1 (past_at l.rest q.1 l.raw q.3 l.past) z
