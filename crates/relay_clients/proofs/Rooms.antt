-- Each step of a share keeps the room's rule.
use Rattle.std.proofs.Common.{◌≡◌, ℕ, zero, suc, ◌+◌, ◌-◌, ◌*◌, ◌%◌, ◌^◌, ◌<◌, ◌≤◌, Bool, true, false, eqb, List, [], ◌∷◌, ◌++◌, get_or, set, sym, refl, ap, ◌∙◌, subst, arith, length-set, get_or-set_same, get_or-set_other, add-mul, mul-le-mul_right, eq-eqb, ne_eqb, ⊎_elim}
use mathlib.Core.Logic.{dite}
use mathlib.Core.Option.{none, some, some-injective, some-ne-none}
use native.Mathlib.Decide.{ℕ_discrete}
use lib.ListN.{get_elem?}
use prog.Atomic.{either}
use Rattle.atomic_table.specs.Table.{State, Me, step, keeps, stepped, Allows, Enters}
use Rattle.atomic_table.proofs.Lists.{at_set, at_snoc}
use Rattle.relay_clients.specs.declared.room.Stake.{Stake}
use Rattle.relay_clients.specs.Room.{stake, total, unless, one_if, bytes_of, inside_of, beyond_of, IsKept, looked, grown, added, gone_beyond, emptied, come_back}

total-set : (f : Stake → ℕ) (l : List Stake) (i : ℕ) (v w : Stake) → get_elem? l i ≡ some v → total f (set l i w) + f v ≡ total f l + f w
total-set f [] i v w e = absurd (some-ne-none v (sym e))
total-set f (x ∷ xs) zero v w e = let is : f x ≡ f v = ap f (some-injective x v e) in omega arith
total-set f (x ∷ xs) (suc i) v w e = let r = total-set f xs i v w e in omega arith

total-snoc : (f : Stake → ℕ) (l : List Stake) (v : Stake) → f v ≡ 0 → total f (l ++ v ∷ []) ≡ total f l
total-snoc f [] v e = omega (arith, e)
total-snoc f (x ∷ xs) v e = ap (λ (n : ℕ). f x + n) (total-snoc f xs v e)

unless-snoc : (l : List Stake) (most : ℕ) → total inside_of (l ++ stake 0 false most ∷ []) ≡ total inside_of l
unless-snoc l most = total-snoc inside_of l (stake 0 false most) refl

module _ (largest most : ℕ) where
  abbrev M : Type 0
  M = Me (Unit {0}) Stake

  abbrev St : Type 0
  St = State (Unit {0}) Stake

  one_bounded : (x : Stake) (b : Bool) → x.is_beyond ≡ b → x.bytes ≤ largest → bytes_of x ≤ inside_of x + beyond_of x * largest
  one_bounded x true is h = rw is (omega (arith, h))
  one_bounded x false is h = rw is (omega (arith, h))

  bounded : (l : List Stake) → ((id : ℕ) (x : Stake) → get_elem? l id ≡ some x → x.bytes ≤ largest) → total bytes_of l ≤ total inside_of l + total beyond_of l * largest
  bounded [] each = omega arith
  bounded (x ∷ xs) each = let here = one_bounded x x.is_beyond refl (each 0 x refl) in let there = bounded xs (λ id y e. each (suc id) y e) in
      omega (arith, add-mul (beyond_of x) (total beyond_of xs) largest)

  -- what the first word is at most
  pub limit : (s : St) → IsKept largest most s → get_or s.words 0 0 ≤ most + largest
  limit s k = let all = bounded s.views k.each in let one : total beyond_of s.views * largest ≤ 1 * largest = mul-le-mul_right largest k.alone in let c = k.counted in let i = k.inside in omega (arith, c)

  each-set : (l : List Stake) (id : ℕ) (w : Stake) → w.bytes ≤ largest → ((j : ℕ) (x : Stake) → get_elem? l j ≡ some x → x.bytes ≤ largest)
      → (j : ℕ) (x : Stake) → get_elem? (set l id w) j ≡ some x → x.bytes ≤ largest
  each-set l id w small each j x e = ⊎_elim (λ t. subst (λ (y : Stake). y.bytes ≤ largest) t.1 small) (λ t. each j x t.1) (at_set l id j w x e)

  -- the first word becomes n, and a share w
  first : (s : St) → IsKept largest most s → (n id : ℕ) (me : M) (w : Stake) → get_elem? s.views id ≡ some me.0
      → n + me.0.bytes ≡ get_or s.words 0 0 + w.bytes → beyond_of w ≡ beyond_of me.0 → total inside_of s.views + inside_of w ≤ most + inside_of me.0 → w.bytes ≤ largest
      → IsKept largest most (stepped s 0 n id me.1 w keeps)
  first s k n id me w at is same fits small = let two = k.words in
      let b = total-set bytes_of s.views id me.0 w at in let o = total-set beyond_of s.views id me.0 w at in let i = total-set inside_of s.views id me.0 w at in let c = k.counted in let one = k.alone in
      record {
        words = length-set s.words 0 n ∙ two;
        counted = get_or-set_same s.words 0 n 0 (omega (arith, two)) ∙ omega (arith, b, c, is);
        beyond = get_or-set_other s.words 0 1 n 0 (omega arith) ∙ (k.beyond ∙ omega (arith, o, same));
        alone = omega (arith, o, same, one);
        inside = omega (arith, i, fits);
        each = each-set s.views id w small k.each;
      }

  -- the second word becomes n, and a share w
  second : (s : St) → IsKept largest most s → (n id : ℕ) (me : M) (w : Stake) → get_elem? s.views id ≡ some me.0
      → w.bytes ≡ me.0.bytes → n + beyond_of me.0 ≡ get_or s.words 1 0 + beyond_of w → n ≤ 1 → total inside_of s.views + inside_of w ≤ most + inside_of me.0
      → IsKept largest most (stepped s 1 n id me.1 w keeps)
  second s k n id me w at same is small fits = let two = k.words in
      let b = total-set bytes_of s.views id me.0 w at in let o = total-set beyond_of s.views id me.0 w at in let i = total-set inside_of s.views id me.0 w at in let c = k.counted in let d = k.beyond in
      record {
        words = length-set s.words 1 n ∙ two;
        counted = get_or-set_other s.words 1 0 n 0 (omega arith) ∙ (c ∙ omega (arith, b, same));
        beyond = get_or-set_same s.words 1 n 0 (omega (arith, two)) ∙ omega (arith, o, is, d);
        alone = omega (arith, o, is, d);
        inside = omega (arith, i, fits);
        each = each-set s.views id w (subst (λ (z : ℕ). z ≤ largest) (sym same) (k.each id me.0 at)) k.each;
      }

  inside-le : (x : Stake) (b : Bool) → x.is_beyond ≡ b → inside_of x ≤ bytes_of x
  inside-le x true is = rw is (omega arith)
  inside-le x false is = rw is (omega arith)

  inside-total : (l : List Stake) → total inside_of l ≤ total bytes_of l
  inside-total [] = omega arith
  inside-total (x ∷ xs) = let here = inside-le x x.is_beyond refl in let there = inside-total xs in omega arith

  unmoved : (s : St) → IsKept largest most s → (id : ℕ) (me : M) → get_elem? s.views id ≡ some me.0 → IsKept largest most (stepped s 0 (get_or s.words 0 0) id me.1 me.0 keeps)
  unmoved s k id me at = let i = k.inside in first s k (get_or s.words 0 0) id me me.0 at refl refl (omega (arith, i)) (k.each id me.0 at)

  unmoved_second : (s : St) → IsKept largest most s → (n id : ℕ) (me : M) → get_elem? s.views id ≡ some me.0 → get_or s.words 1 0 ≡ n → n ≤ 1 → IsKept largest most (stepped s 1 n id me.1 me.0 keeps)
  unmoved_second s k n id me at is small = let i = k.inside in second s k n id me me.0 at refl (omega (arith, is)) small (omega (arith, i))

  -- a new share may come at any time, and a look finds at most the room and one largest share
  pub looks : (slots : ℕ) → Enters (IsKept largest most) slots 0 (λ n w. looked largest (step slots 0 0 0 none) (stake 0 false most, []) n (w, []))
  looks slots s k _ _ = let w = stake 0 false most in (
    w,
    record {
      words = k.words;
      counted = k.counted ∙ sym (total-snoc bytes_of s.views w refl);
      beyond = k.beyond ∙ sym (total-snoc beyond_of s.views w refl);
      alone = rw (total-snoc beyond_of s.views w refl) k.alone;
      inside = rw (total-snoc inside_of s.views w refl) k.inside;
      each = λ j x e. ⊎_elim (λ t. k.each j x t) (λ t. subst (λ (y : Stake). y.bytes ≤ largest) t (omega arith)) (at_snoc s.views w x j e);
    },
    (refl, limit s k),
  )

  module _ (slots id : ℕ) (me : M) where
    -- so many bytes more that fit in the room
    pub grows : (old more : ℕ) → me.0.is_beyond ≡ false → old + more ≤ most → me.0.bytes + more ≤ largest
        → Allows (IsKept largest most) slots id me 0 (λ n. either (eqb n old) (old + more) n) (grown (step slots 0 old (old + more) none) me)
    grows old more in_room fits small s k _ at _ = let x : ℕ = get_or s.words 0 0 in dite (ℕ_discrete x old)
        (λ hit. let w = stake (me.0.bytes + (old + more - old)) me.0.is_beyond me.0.most in
        let mine : inside_of me.0 ≡ me.0.bytes = ap (λ b. unless b me.0.bytes) in_room in
        let then : inside_of w ≡ me.0.bytes + (old + more - old) = ap (λ b. unless b (me.0.bytes + (old + more - old))) in_room in
        let less = inside-total s.views in let c = k.counted in (
          w,
          keeps,
          tt,
          subst (λ b. IsKept largest most (stepped s 0 (either b (old + more) x) id me.1 w keeps)) (sym (eq-eqb x old hit))
              (first s k (old + more) id me w at (omega (arith, hit)) refl (omega (arith, mine, then, less, c, hit, fits)) (omega (arith, small))),
          ((λ _. refl), λ not. absurd (not hit)),
        ))
        (λ miss. (
          me.0,
          keeps,
          tt,
          subst (λ b. IsKept largest most (stepped s 0 (either b (old + more) x) id me.1 me.0 keeps)) (sym (ne_eqb x old miss)) (unmoved s k id me at),
          ((λ hit. absurd (miss hit)), λ _. refl),
        ))

    -- so many bytes more beyond the room
    pub adds : (more : ℕ) → me.0.is_beyond ≡ true → me.0.bytes + more ≤ largest → most + largest < 2 ^ 64
        → Allows (IsKept largest most) slots id me 0 (λ n. (n + more) % 2 ^ 64) (added (step slots 0 more 0 none) me)
    adds more out small wide s k _ at _ = let x : ℕ = get_or s.words 0 0 in let w = stake (me.0.bytes + more) me.0.is_beyond me.0.most in
        let mine : inside_of me.0 ≡ 0 = ap (λ b. unless b me.0.bytes) out in
        let then : inside_of w ≡ 0 = ap (λ b. unless b (me.0.bytes + more)) out in
        let i = k.inside in
        let after = first s k (x + more) id me w at (omega arith) refl (omega (arith, mine, then, i)) small in
        let found = limit (stepped s 0 (x + more) id me.1 w keeps) after in
        let is : get_or (set s.words 0 (x + more)) 0 0 ≡ x + more = get_or-set_same s.words 0 (x + more) 0 (let two = k.words in omega (arith, two)) in
        let same : x + more ≡ (x + more) % 18446744073709551616 = omega (arith, found, is, wide) in
        (w, keeps, tt, subst (λ (z : ℕ). IsKept largest most (stepped s 0 z id me.1 w keeps)) same after, refl)

    -- the share goes beyond the room, if none did
    pub goes_beyond : me.0.is_beyond ≡ false → Allows (IsKept largest most) slots id me 1 (λ _. 1) (gone_beyond (step slots 1 1 0 none) me)
    goes_beyond in_room s k _ at _ = let x : ℕ = get_or s.words 1 0 in let i = k.inside in
        let mine : beyond_of me.0 ≡ 0 = ap one_if in_room in dite (ℕ_discrete x 0)
        (λ none_yet. let w = stake me.0.bytes true me.0.most in (
          w,
          keeps,
          tt,
          second s k 1 id me w at refl (omega (arith, mine, none_yet)) (omega arith) (omega (arith, i)),
          ((λ _. refl), λ not. absurd (not none_yet)),
        ))
        (λ one. let a = k.alone in let b = k.beyond in (
          me.0,
          keeps,
          tt,
          unmoved_second s k 1 id me at (omega (arith, one, a, b)) (omega arith),
          ((λ e. absurd (one e)), λ _. refl),
        ))

    -- the share gives its bytes back
    pub empties : (bytes : ℕ) → me.0.bytes ≡ bytes → Allows (IsKept largest most) slots id me 0 (λ n. (n + (2 ^ 64 - bytes)) % 2 ^ 64) (emptied (step slots 0 bytes 0 none) me)
    empties bytes is s k _ at small = let x : ℕ = get_or s.words 0 0 in let w = stake 0 me.0.is_beyond me.0.most in
        let i = k.inside in let c = k.counted in let b = total-set bytes_of s.views id me.0 w at in
        let none_in : inside_of w ≤ 0 = inside-le w w.is_beyond refl in
        let left : x - bytes + bytes ≡ x = omega (arith, b, c, is) in
        let less : x - bytes ≡ (x + (18446744073709551616 - bytes)) % 18446744073709551616 = omega (arith, small, left) in (
          w,
          keeps,
          tt,
          subst (λ (z : ℕ). IsKept largest most (stepped s 0 z id me.1 w keeps)) less
              (first s k (x - bytes) id me w at (omega (arith, left, is)) refl (omega (arith, i, none_in)) (omega arith)),
          refl,
        )

    -- the share, which has no byte, goes beyond the room no more
    pub comes_back : me.0.is_beyond ≡ true → me.0.bytes ≡ 0 → Allows (IsKept largest most) slots id me 1 (λ _. 0) (λ _. come_back (step slots 1 0 0 none) me 0)
    comes_back out empty s k _ at _ = let x : ℕ = get_or s.words 1 0 in let w = stake me.0.bytes false me.0.most in
        let i = k.inside in let a = k.alone in let d = k.beyond in
        let mine : beyond_of me.0 ≡ 1 = ap one_if out in
        let o = total-set beyond_of s.views id me.0 w at in
        (w, keeps, tt, second s k 0 id me w at refl (omega (arith, mine, o, a, d)) (omega arith) (omega (arith, i, empty)), refl)
