-- The last elements of lists are taken, list by list.
use Rattle.std.proofs.Common.{◌≡◌, ℕ, zero, suc, ◌+◌, ◌<◌, List, [], ◌∷◌, ◌++◌, length, map, set, get_or, sym, refl, ap, ◌∙◌, subst, arith, append-nil, length-append}
use Rattle.relay_threads.specs.Rows.{HaveSome, LoseLast}

-- this many lists have lost their last element, and the others are as before
pub record PopsOn {A : Type 0} (old now : List (List A)) (lasts : List A) (i : ℕ) : Type 0 where
  pub olds : List (List A)
  pub news : List (List A)
  pub rest : List (List A)
  pub was : old ≡ olds ++ rest
  pub is : now ≡ news ++ rest
  pub so_far : length news ≡ i
  pub lost : LoseLast olds news lasts
  pub some : HaveSome rest

pub pops_none : {A : Type 0} (old : List (List A)) (lasts : List A) → lasts ≡ [] → HaveSome old → PopsOn old old lasts 0
pops_none {A = A} old lasts e some = record { olds = []; news = []; rest = old; was = refl; is = refl; so_far = refl; lost = subst (LoseLast {A = A} [] []) (sym e) tt; some = some }

loses_more : {A : Type 0} (os ns : List (List A)) (xs : List A) (o n : List A) (x : A) → LoseLast os ns xs → o ≡ n ++ x ∷ [] → LoseLast (os ++ o ∷ []) (ns ++ n ∷ []) (xs ++ x ∷ [])
loses_more [] [] [] o n x h e = (e, tt)
loses_more [] [] (y ∷ ys) o n x h e = absurd h
loses_more [] (m ∷ ns) xs o n x h e = absurd h
loses_more (m ∷ os) [] xs o n x h e = absurd h
loses_more (m ∷ os) (k ∷ ns) [] o n x h e = absurd h
loses_more (m ∷ os) (k ∷ ns) (y ∷ ys) o n x h e = (h.0, loses_more os ns ys o n x h.1 e)

set_seam : {A : Type 0} (xs : List A) (y z : A) (ys : List A) → set (xs ++ y ∷ ys) (length xs) z ≡ (xs ++ z ∷ []) ++ ys
set_seam [] y z ys = refl
set_seam (x ∷ xs) y z ys = ap (λ l. x ∷ l) (set_seam xs y z ys)

get_seam : {A : Type 0} (xs : List A) (y d : A) (ys : List A) → get_or (xs ++ y ∷ ys) (length xs) d ≡ y
get_seam [] y d ys = refl
get_seam (x ∷ xs) y d ys = get_seam xs y d ys

snoc_first : {A : Type 0} (xs : List A) (y : A) (ys : List A) → xs ++ y ∷ ys ≡ (xs ++ y ∷ []) ++ ys
snoc_first [] y ys = refl
snoc_first (x ∷ xs) y ys = ap (λ l. x ∷ l) (snoc_first xs y ys)

length-snoc : {A : Type 0} (xs : List A) (x : A) → length (xs ++ x ∷ []) ≡ length xs + 1
length-snoc xs x = length-append xs (x ∷ [])

-- the list at this place is not empty
pub here_some : {A : Type 0} (old now : List (List A)) (lasts : List A) (i : ℕ) (d : List A) → PopsOn old now lasts i → i < length now → 0 < length (get_or now i d)
here_some {A = A} old now lasts i d p lt = go p.rest p.is p.some where
  go : (rest : List (List A)) → now ≡ p.news ++ rest → HaveSome rest → 0 < length (get_or now i d)
  go [] e some = absurd (let l = ap length e ∙ length-append p.news [] in let s = p.so_far in omega arith)
  go (r ∷ rs) e some = subst (λ (z : List (List A) × ℕ). 0 < length (get_or z.0 z.1 d)) (λ k. (sym e k, p.so_far k)) (subst (λ z. 0 < length z) (sym (get_seam p.news r d rs)) some.0)

-- one more
pub pops_on : {A : Type 0} (old now : List (List A)) (lasts : List A) (i : ℕ) (d front : List A) (x : A) → PopsOn old now lasts i → i < length now → get_or now i d ≡ front ++ x ∷ [] → PopsOn old (set now i front) (lasts ++ x ∷ []) (i + 1)
pops_on {A = A} old now lasts i d front x p lt is_last = go p.rest p.was p.is p.some where
  go : (rest : List (List A)) → old ≡ p.olds ++ rest → now ≡ p.news ++ rest → HaveSome rest → PopsOn old (set now i front) (lasts ++ x ∷ []) (i + 1)
  go [] was e some = absurd (let l = ap length e ∙ length-append p.news [] in let s = p.so_far in omega arith)
  go (r ∷ rs) was e some =
      let here : r ≡ front ++ x ∷ [] = sym (get_seam p.news r d rs) ∙ (λ k. get_or (sym e k) (p.so_far k) d) ∙ is_last in
      record {
        olds = p.olds ++ r ∷ [];
        news = p.news ++ front ∷ [];
        rest = rs;
        was = was ∙ snoc_first p.olds r rs;
        is = (λ k. set (e k) (sym p.so_far k) front) ∙ set_seam p.news r front rs;
        so_far = length-snoc p.news front ∙ ap (λ n. n + 1) p.so_far;
        lost = loses_more p.olds p.news lasts r front x p.lost here;
        some = some.1;
      }

-- all of them
pub pops_all : {A : Type 0} (old now : List (List A)) (lasts : List A) (i : ℕ) → PopsOn old now lasts i → length now ≡ i → LoseLast old now lasts
pops_all {A = A} old now lasts i p all = go p.rest p.was p.is where
  go : (rest : List (List A)) → old ≡ p.olds ++ rest → now ≡ p.news ++ rest → LoseLast old now lasts
  go [] was e = subst (λ (z : List (List A) × List (List A)). LoseLast z.0 z.1 lasts) (λ k. (sym (was ∙ append-nil p.olds) k, sym (e ∙ append-nil p.news) k)) p.lost
  go (r ∷ rs) was e = absurd (let l = ap length e ∙ length-append p.news (r ∷ rs) in let s = p.so_far in omega arith)

pub map_set : {A B : Type 0} (f : A → B) (xs : List A) (i : ℕ) (y : A) → map f (set xs i y) ≡ set (map f xs) i (f y)
map_set f [] i y = refl
map_set f (x ∷ xs) zero y = refl
map_set f (x ∷ xs) (suc i) y = ap (λ l. f x ∷ l) (map_set f xs i y)

pub get_map : {A B : Type 0} (f : A → B) (xs : List A) (i : ℕ) (d : A) → get_or (map f xs) i (f d) ≡ f (get_or xs i d)
get_map f [] i d = refl
get_map f (x ∷ xs) zero d = refl
get_map f (x ∷ xs) (suc i) d = get_map f xs i d

pub long_map : {A B : Type 0} (f : A → B) (xs : List A) → length (map f xs) ≡ length xs
long_map f [] = refl
long_map f (x ∷ xs) = ap suc (long_map f xs)

-- the same of lists of any kind, by what they hold
module _ {A V : Type 0} (items : V → List A) where
  pub some_here : (old : List (List A)) (now : List V) (lasts : List A) (i : ℕ) (v : V) → PopsOn old (map items now) lasts i → i < length now → v ≡ get_or now i v → 0 < length (items v)
  some_here old now lasts i v p lt value = subst (λ z. 0 < length z) (get_map items now i v ∙ ap items (sym value)) (here_some old (map items now) lasts i (items v) p (let l = long_map items now in omega arith))

  pub pops_here : (old : List (List A)) (now : List V) (lasts lasts' : List A) (i : ℕ) (v w : V) (x : A) → PopsOn old (map items now) lasts i → i < length now → v ≡ get_or now i v → items v ≡ items w ++ x ∷ [] → lasts' ≡ lasts ++ x ∷ [] → PopsOn old (map items (set now i w)) lasts' (i + 1)
  pops_here old now lasts lasts' i v w x p lt value is_last pushed =
      subst (λ (z : List (List A) × List A). PopsOn old z.0 z.1 (i + 1)) (λ k. (sym (map_set items now i w) k, sym pushed k))
      (pops_on old (map items now) lasts i (items v) (items w) x p (let l = long_map items now in omega arith) (get_map items now i v ∙ ap items (sym value) ∙ is_last))

  pub pops_whole : (old : List (List A)) (now : List V) (lasts : List A) (i : ℕ) → PopsOn old (map items now) lasts i → length now ≡ i → LoseLast old (map items now) lasts
  pops_whole old now lasts i p all = pops_all old (map items now) lasts i p (long_map items now ∙ all)
