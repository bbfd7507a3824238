-- A text is split at its first `/` in one way.
use Rattle.std.proofs.Common.{◌≡◌, ◌≢◌, ℕ, ◌<◌, ◌==◌, List, [], ◌∷◌, ◌++◌, length, take, get_or, refl, ap, sym, ◌∙◌, arith, subst, codes, length-append, ◌≤◌}
use Rattle.std.specs.List.{position_or_len, before_first, after_first}
use Rattle.std.proofs.lemmas.Bool.Decides.{nat_tests}
use Rattle.std.proofs.lemmas.List.Elements.{All-head, All-tail, All-from_get_or}
use Rattle.std.proofs.lemmas.List.Sums.{split_at_first, fails_before_first, passes_at_first}
use Rattle.std.proofs.lemmas.List.{get_or-take, length-take-le, take_at}
use Rattle.relay_target.specs.Targets.{HasNoSlash, IsName, HasParts}

not_first : (a x y : List ℕ) (c : ℕ) → HasNoSlash (c ∷ a) → (c ∷ a) ++ (47 ∷ x) ≡ 47 ∷ y → ⊥
not_first a x y c none e =
    let same : c ≡ 47 = cc in
    All-head (λ b. b ≢ 47) c a none same

slash_split : (a b x y : List ℕ) → HasNoSlash a → HasNoSlash b → a ++ (47 ∷ x) ≡ b ++ (47 ∷ y) → (a ≡ b) × (x ≡ y)
slash_split [] [] x y na nb e = (refl, cc)
slash_split [] (c ∷ b) x y na nb e = absurd (not_first b y x c nb (sym e))
slash_split (c ∷ a) [] x y na nb e = absurd (not_first a x y c na e)
slash_split (c ∷ a) (d ∷ b) x y na nb e =
    let first : c ≡ d = cc in
    let rest : a ++ (47 ∷ x) ≡ b ++ (47 ∷ y) = cc in
    let same = slash_split a b x y (All-tail (λ k. k ≢ 47) c a na) (All-tail (λ k. k ≢ 47) d b nb) rest in
    (ap (λ w. c ∷ w) same.0 ∙ ap (λ k. k ∷ b) first, same.1)

pub name_unique : (name a b x y : List ℕ) → IsName name a x → IsName name b y → (a ≡ b) × (x ≡ y)
name_unique name a b x y p q = slash_split a b x y p.index_is q.index_is (sym p.name_is ∙ q.name_is)

-- a text with no `/` is not split
pub no_name : (name a x : List ℕ) → HasNoSlash name → IsName name a x → ⊥
no_name name a x none p = within a x (subst HasNoSlash p.name_is none)
  where
    within : (b y : List ℕ) → HasNoSlash (b ++ (47 ∷ y)) → ⊥
    within [] y all = All-head (λ k. k ≢ 47) 47 y all refl
    within (c ∷ b) y all = within b y (All-tail (λ k. k ≢ 47) c (b ++ (47 ∷ y)) all)

-- what is before the first `/`, and after it
pub named_there : (name index id : List ℕ) → index ≡ before_first (λ b. b == 47) name → id ≡ after_first (λ b. b == 47) name → position_or_len (λ b. b == 47) name < length name → IsName name index id
named_there name index id i d there =
    let n = position_or_len (λ b. b == 47) name in
    let at : get_or name n 0 ≡ 47 = let e = passes_at_first (λ b. b == 47) name 0 there in grind (arith, nat_tests, e) in
    let long : length (take n name) ≡ n = length-take-le n name (omega (arith, there)) in
    record {
      index_is = subst HasNoSlash (sym i) (All-from_get_or (λ b. b ≢ 47) (take n name) 0 (λ k below. other k (omega (arith, below, long))));
      name_is = split_at_first (λ b. b == 47) name 0 there ∙ ap (λ c. before_first (λ b. b == 47) name ++ (c ∷ after_first (λ b. b == 47) name)) at
          ∙ ap (λ w. w ++ (47 ∷ after_first (λ b. b == 47) name)) (sym i) ∙ ap (λ w. index ++ (47 ∷ w)) (sym d);
    }
  where
    other : (k : ℕ) → k < position_or_len (λ b. b == 47) name → get_or (take (position_or_len (λ b. b == 47) name) name) k 0 ≢ 47
    other k below =
        let e = fails_before_first (λ b. b == 47) name k 0 below in
        let same = get_or-take (position_or_len (λ b. b == 47) name) name k 0 below in
        grind (arith, nat_tests, e, same)

pub no_slash : (name : List ℕ) → position_or_len (λ b. b == 47) name ≡ length name → HasNoSlash name
no_slash name is = All-from_get_or (λ b. b ≢ 47) name 0 (λ k below. let e = fails_before_first (λ b. b == 47) name k 0 (omega (arith, is, below)) in grind (arith, nat_tests, e))

-- a front that is there
pub front_there : (bytes front rest : List ℕ) → bytes ≡ front ++ rest → (length front ≤ length bytes) × (take (length front) bytes ≡ front)
front_there bytes front rest e = (omega (arith, ap length e, length-append front rest), ap (take (length front)) e ∙ take_at front rest (length front) refl)

-- the parts of a target are its only ones
pub parts_unique : (target a b x y : List ℕ) → HasParts target a x → HasParts target b y → (a ≡ b) × (x ≡ y)
parts_unique target a b x y p q =
    let e : a ++ (47 ∷ (codes "_doc/" ++ x)) ≡ b ++ (47 ∷ (codes "_doc/" ++ y)) = tail (sym p.target_is ∙ q.target_is) in
    let same = slash_split a b (codes "_doc/" ++ x) (codes "_doc/" ++ y) p.index_is q.index_is e in
    (same.0, cc (same.1))
  where
    tail : {u v : List ℕ} → codes "/" ++ u ≡ codes "/" ++ v → u ≡ v
    tail h = cc

-- the parts of a target as a name after its first byte
pub path_of : (target path index id : List ℕ) → target ≡ codes "/" ++ path → HasParts target index id → IsName path index (codes "_doc/" ++ id)
path_of target path index id e parts = record { index_is = parts.index_is; name_is = tail (sym e ∙ parts.target_is) }
  where
    tail : {u v : List ℕ} → codes "/" ++ u ≡ codes "/" ++ v → u ≡ v
    tail h = cc

pub rest_of : (x y : List ℕ) → codes "_doc/" ++ x ≡ codes "_doc/" ++ y → x ≡ y
rest_of x y h = cc
