-- What a producer put is one list: the ends show each operation under its number.
use Rattle.std.proofs.Common.{◌≡◌, ◌≢◌, ℕ, zero, suc, ◌+◌, ◌<◌, ◌≤◌, true, false, eqb, eq-eqb, ne_eqb, List, [], ◌∷◌, length, sym, refl, ap, ◌∙◌, ⊎_elim, arith}
use Rattle.std.specs.Prelude.{Some}
use Rattle.std.specs.List.{slice_get}
use Rattle.std.proofs.Math.Nat.{mod-lt}
use Rattle.std.proofs.lemmas.Bool.Decides.{eqb_tells}
use Rattle.relay_action.specs.declared.operation.Op.{Op}
use Rattle.relay_action.specs.Lanes.{lane_of_document, fnv1a, document_bytes}
use Rattle.relay_queue.specs.Ends.{SenderEnd}
use Rattle.relay_producer.specs.Puts.{ops_for, AreNumberedBy, HasPut}

lane_below : (op : Op) (lanes : ℕ) → 0 < lanes → lane_of_document op.key lanes < lanes
lane_below op lanes some = mod-lt (fnv1a (document_bytes op.key)) some

-- the first operation of a list, and what is left of it, at a lane
own : (lanes lane : ℕ) (op : Op) (ops : List Op) → lane_of_document op.key lanes ≡ lane → ops_for lanes lane (op ∷ ops) ≡ op ∷ ops_for lanes lane ops
own lanes lane op ops e = rw (eq-eqb (lane_of_document op.key lanes) lane e)

other : (lanes lane : ℕ) (op : Op) (ops : List Op) → lane_of_document op.key lanes ≢ lane → ops_for lanes lane (op ∷ ops) ≡ ops_for lanes lane ops
other lanes lane op ops n = rw (ne_eqb (lane_of_document op.key lanes) lane n)

-- a number in a list is not below its first one
not_below : (producer n lanes lane : ℕ) (ops rest : List Op) (op : Op) → AreNumberedBy producer n ops → ops_for lanes lane ops ≡ op ∷ rest → n ≤ op.number
not_below producer n lanes lane [] rest op h e = absurd (cc)
not_below producer n lanes lane (x ∷ xs) rest op h e =
    ⊎_elim (λ (t : (eqb (lane_of_document x.key lanes) lane ≡ true) × (lane_of_document x.key lanes ≡ lane)).
    let same : x ∷ ops_for lanes lane xs ≡ op ∷ rest = sym (own lanes lane x xs t.1) ∙ e in
    let is : x ≡ op = cc in
    let number : op.number ≡ n = ap (λ (o : Op). o.number) (sym is) ∙ h.1 in
    omega arith)
    (λ (t : (eqb (lane_of_document x.key lanes) lane ≡ false) × (lane_of_document x.key lanes ≢ lane)).
    let later = not_below producer (n + 1) lanes lane xs rest op h.2 (sym (other lanes lane x xs t.1) ∙ e) in
    omega arith) (eqb_tells (lane_of_document x.key lanes) lane)

-- the lanes show the same
abbrev SameLanes : ℕ → List Op → List Op → Type 0
SameLanes lanes a b = (lane : ℕ) → lane < lanes → ops_for lanes lane a ≡ ops_for lanes lane b

first_same : (producer n lanes : ℕ) (x y : Op) (xs ys : List Op) → 0 < lanes → x.number ≡ n → AreNumberedBy producer (n + 1) ys → SameLanes lanes (x ∷ xs) (y ∷ ys) → x ≡ y
first_same producer n lanes x y xs ys some number later h =
    let lane = lane_of_document x.key lanes in
    let here : x ∷ ops_for lanes lane xs ≡ ops_for lanes lane (y ∷ ys) = sym (own lanes lane x xs refl) ∙ h lane (lane_below x lanes some) in
    ⊎_elim (λ (t : (eqb (lane_of_document y.key lanes) lane ≡ true) × (lane_of_document y.key lanes ≡ lane)).
    let both : x ∷ ops_for lanes lane xs ≡ y ∷ ops_for lanes lane ys = here ∙ own lanes lane y ys t.1 in cc)
    (λ (t : (eqb (lane_of_document y.key lanes) lane ≡ false) × (lane_of_document y.key lanes ≢ lane)).
    let above = not_below producer (n + 1) lanes lane ys (ops_for lanes lane xs) x later (sym (here ∙ other lanes lane y ys t.1)) in
    absurd (omega arith)) (eqb_tells (lane_of_document y.key lanes) lane)

rest_same : (lanes : ℕ) (x y : Op) (xs ys : List Op) → x ≡ y → SameLanes lanes (x ∷ xs) (y ∷ ys) → SameLanes lanes xs ys
rest_same lanes x y xs ys e h lane lt =
    let key : lane_of_document y.key lanes ≡ lane_of_document x.key lanes = ap (λ (o : Op). lane_of_document o.key lanes) (sym e) in
    ⊎_elim (λ (t : (eqb (lane_of_document x.key lanes) lane ≡ true) × (lane_of_document x.key lanes ≡ lane)).
    let both : x ∷ ops_for lanes lane xs ≡ y ∷ ops_for lanes lane ys = sym (own lanes lane x xs t.1) ∙ h lane lt ∙ own lanes lane y ys (key ∙ t.1) in cc)
    (λ (t : (eqb (lane_of_document x.key lanes) lane ≡ false) × (lane_of_document x.key lanes ≢ lane)).
    let n = t.1 in
    sym (other lanes lane x xs n) ∙ h lane lt ∙ other lanes lane y ys (λ is. n (sym key ∙ is))) (eqb_tells (lane_of_document x.key lanes) lane)

same_ops : (producer n lanes : ℕ) (a b : List Op) → 0 < lanes → AreNumberedBy producer n a → AreNumberedBy producer n b → SameLanes lanes a b → a ≡ b
same_ops producer n lanes [] [] some f g h = refl
same_ops producer n lanes [] (y ∷ ys) some f g h =
    let none : [] ≡ y ∷ ops_for lanes (lane_of_document y.key lanes) ys = h (lane_of_document y.key lanes) (lane_below y lanes some) ∙ own lanes (lane_of_document y.key lanes) y ys refl in absurd (cc)
same_ops producer n lanes (x ∷ xs) [] some f g h =
    let none : x ∷ ops_for lanes (lane_of_document x.key lanes) xs ≡ [] = sym (own lanes (lane_of_document x.key lanes) x xs refl) ∙ h (lane_of_document x.key lanes) (lane_below x lanes some) in absurd (cc)
same_ops producer n lanes (x ∷ xs) (y ∷ ys) some f g h =
    let is = first_same producer n lanes x y xs ys some f.1 g.2 h in
    let left = same_ops producer (n + 1) lanes xs ys some f.2 g.2 (rest_same lanes x y xs ys is h) in
    (λ i. is i ∷ left i)

some_at : (puts : List SenderEnd) (lane : ℕ) → lane < length puts → (put : SenderEnd) × (slice_get puts lane ≡ Some put)
some_at [] lane lt = absurd (omega arith)
some_at (p ∷ ps) zero lt = (p, refl)
some_at (p ∷ ps) (suc lane) lt = some_at ps lane (omega arith)

pub put_is_one : (producer count : ℕ) (puts : List SenderEnd) (first second : List Op) → 0 < length puts → HasPut producer count puts first → HasPut producer count puts second → first ≡ second
put_is_one producer count puts first second some f g =
    same_ops producer 1 (length puts) first second some f.numbered g.numbered
    (λ lane lt. let p = some_at puts lane lt in sym (f.sent lane p.0 p.1) ∙ g.sent lane p.0 p.1)
