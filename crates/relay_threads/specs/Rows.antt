-- Lists of lists whose last elements are taken.
use Rattle.std.specs.Prelude.{◌≡◌, ◌<◌, List, [], ◌∷◌, ◌++◌, length}

-- each list has an element
abbrev pub HaveSome : {A : Type 0} → List (List A) → Type 0
HaveSome [] = Unit {0}
HaveSome (r ∷ rs) = (0 < length r) × HaveSome rs

-- each old list is the new one followed by the element that was taken
abbrev pub LoseLast : {A : Type 0} → List (List A) → List (List A) → List A → Type 0
LoseLast [] [] [] = Unit {0}
LoseLast [] [] (x ∷ xs) = ⊥
LoseLast [] (n ∷ ns) xs = ⊥
LoseLast (o ∷ os) [] xs = ⊥
LoseLast (o ∷ os) (n ∷ ns) [] = ⊥
LoseLast (o ∷ os) (n ∷ ns) (x ∷ xs) = (o ≡ n ++ x ∷ []) × LoseLast os ns xs
