-- The first lane that passes a test.
use Rattle.std.proofs.Common.{◌≡◌, ◌≢◌, ℕ, zero, suc, ◌+◌, ◌<◌, Bool, true, false, ◌||◌, eqb, List, [], ◌∷◌, length, map, get_or, sym, refl, ap, ◌∙◌, arith, ⊎_elim}
use Rattle.std.proofs.lemmas.Bool.Decides.{eqb_tells}
use Rattle.relay_producer.specs.declared.ends.ClosedEnd.{ClosedEnd}
use Rattle.relay_producer.specs.Ends.{is_gone}
use Rattle.relay_threads.specs.declared.lane_end.LaneEnd.{LaneEnd}
use Rattle.relay_threads.specs.declared.lane_end.LaneEndKind.{LaneEndKind}
use Rattle.relay_threads.specs.Faults.{ends_as, is_gone_in, is_gone_in_any}
use Rattle.relay_threads.proofs.Popping.{get_map, long_map}

-- none of the first n passes
abbrev pub NoneBelow : (ℕ → Bool) → ℕ → Type 0
NoneBelow test n = (lane : ℕ) → lane < n → test lane ≡ false

pub none_begin : (test : ℕ → Bool) → NoneBelow test 0
none_begin test lane lt = absurd (omega arith)

pub none_more : (test : ℕ → Bool) (n : ℕ) → NoneBelow test n → test n ≡ false → NoneBelow test (n + 1)
none_more test n h e lane lt =
    ⊎_elim (λ (t : (eqb lane n ≡ true) × (lane ≡ n)). ap test t.1 ∙ e)
    (λ (t : (eqb lane n ≡ false) × (lane ≢ n)). let no = t.1 in h lane (omega arith)) (eqb_tells lane n)

pub ends_at : {W : Type 0} (test : LaneEndKind → Bool) (ends : List (LaneEnd W)) (i : ℕ) (d : LaneEnd W) → i < length ends → ends_as test ends i ≡ test (get_or ends i d).kind
ends_at test [] i d lt = absurd (omega arith)
ends_at test (e ∷ es) zero d lt = refl
ends_at test (e ∷ es) (suc i) d lt = ends_at test es i d (omega arith)

pub ends_here : {W : Type 0} (test : LaneEndKind → Bool) (ends : List (LaneEnd W)) (i : ℕ) (e : LaneEnd W) → i < length ends → e ≡ get_or ends i e → ends_as test ends i ≡ test e.kind
ends_here test ends i e lt value = ends_at test ends i e lt ∙ ap (λ (x : LaneEnd _). test x.kind) (sym value)

pub gone_here : (row : List ClosedEnd) (i : ℕ) (e : ClosedEnd) → i < length row → e ≡ get_or row i e → is_gone_in row i ≡ is_gone e
gone_here row i e lt value = gone_at row i e lt ∙ ap is_gone (sym value) where
  gone_at : (row : List ClosedEnd) (i : ℕ) (d : ClosedEnd) → i < length row → is_gone_in row i ≡ is_gone (get_or row i d)
  gone_at [] i d lt = absurd (omega arith)
  gone_at (x ∷ xs) zero d lt = refl
  gone_at (x ∷ xs) (suc i) d lt = gone_at xs i d (omega arith)

pub gone_past : (row : List ClosedEnd) (i : ℕ) → (i < length row → ⊥) → is_gone_in row i ≡ false
gone_past [] i n = refl
gone_past (x ∷ xs) zero n = absurd (n (omega arith))
gone_past (x ∷ xs) (suc i) n = gone_past xs i (λ lt. n (omega (arith, lt)))

-- this row has marked the lane, and then one of them has
any_true : (rows : List (List ClosedEnd)) (i : ℕ) (d : List ClosedEnd) (lane : ℕ) → i < length rows → is_gone_in (get_or rows i d) lane ≡ true → is_gone_in_any rows lane ≡ true
any_true [] i d lane lt e = absurd (omega arith)
any_true (r ∷ rs) zero d lane lt e = rw e refl
any_true (r ∷ rs) (suc i) d lane lt e = or_right (is_gone_in r lane) (is_gone_in_any rs lane) (any_true rs i d lane (omega arith) e) where
  or_right : (a b : Bool) → b ≡ true → (a || b) ≡ true
  or_right true b e = refl
  or_right false b e = e

any_false : (rows : List (List ClosedEnd)) (lane : ℕ) → ((i : ℕ) (d : List ClosedEnd) → i < length rows → is_gone_in (get_or rows i d) lane ≡ false) → is_gone_in_any rows lane ≡ false
any_false [] lane h = refl
any_false (r ∷ rs) lane h = rw (h 0 [] (omega arith)) (any_false rs lane (λ i d lt. h (suc i) d (omega arith)))

-- the rows before this one have not marked the lane
abbrev pub NoneBefore : {V : Type 0} → (V → List ClosedEnd) → List V → ℕ → ℕ → Type 0
NoneBefore items rows lane n = (i : ℕ) (v : List ClosedEnd) → i < n → is_gone_in (get_or (map items rows) i v) lane ≡ false

module _ {V : Type 0} (items : V → List ClosedEnd) where
  pub before_begin : (rows : List V) (lane : ℕ) → NoneBefore items rows lane 0
  before_begin rows lane i v lt = absurd (omega arith)

  same_get : (xs : List (List ClosedEnd)) (i : ℕ) (d e : List ClosedEnd) → i < length xs → get_or xs i d ≡ get_or xs i e
  same_get [] i d e lt = absurd (omega arith)
  same_get (x ∷ xs) zero d e lt = refl
  same_get (x ∷ xs) (suc i) d e lt = same_get xs i d e (omega arith)

  here : (rows : List V) (n : ℕ) (v : V) (d : List ClosedEnd) → n < length rows → v ≡ get_or rows n v → get_or (map items rows) n d ≡ items v
  here rows n v d lt value = same_get (map items rows) n d (items v) (let l = long_map items rows in omega (arith, l)) ∙ get_map items rows n v ∙ ap items (sym value)

  pub before_more : (rows : List V) (lane n : ℕ) (v : V) → NoneBefore items rows lane n → n < length rows → v ≡ get_or rows n v → is_gone_in (items v) lane ≡ false → NoneBefore items rows lane (n + 1)
  before_more rows lane n v h lt value e i d below =
      ⊎_elim (λ (t : (eqb i n ≡ true) × (i ≡ n)). ap (λ k. is_gone_in (get_or (map items rows) k d) lane) t.1 ∙ ap (λ r. is_gone_in r lane) (here rows n v d lt value) ∙ e)
      (λ (t : (eqb i n ≡ false) × (i ≢ n)). let no = t.1 in h i d (omega arith)) (eqb_tells i n)

  pub before_all : (rows : List V) (lane n : ℕ) → NoneBefore items rows lane n → length rows ≡ n → is_gone_in_any (map items rows) lane ≡ false
  before_all rows lane n h all = any_false (map items rows) lane (λ i d lt. h i d (let l = long_map items rows in omega (arith, l, lt, all)))

  pub before_one : (rows : List V) (lane n : ℕ) (v : V) → n < length rows → v ≡ get_or rows n v → is_gone_in (items v) lane ≡ true → is_gone_in_any (map items rows) lane ≡ true
  before_one rows lane n v lt value e = any_true (map items rows) n (items v) lane (let l = long_map items rows in omega (arith, l)) (ap (λ r. is_gone_in r lane) (here rows n v (items v) lt value) ∙ e)
