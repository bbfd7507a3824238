-- The assignment of versions, by places.
use Rattle.std.proofs.Common.{◌≡◌, ℕ, zero, suc, ◌+◌, ◌<◌, ◌≤◌, List, [], ◌∷◌, Option, Some, None, Bool, true, false, refl, sym, ap, ◌∙◌, subst, ⊎_elim, arith}
use Rattle.std.specs.Prelude.{slice_get, nat_lt, if◌then◌else◌, map}
use borrow.Author.Tests.{ltb-true, ltb-false}
use Rattle.relay_action.specs.declared.operation.Op.{Op}
use Rattle.relay_results.specs.Words.{Mem, AllDistinct}
use Rattle.relay_results.specs.Documents.{name_of, same_op}
use Rattle.relay_delivery.specs.Causes.{IsAssignment}
use Rattle.relay_results.proofs.Same.{same_op-true, same_op-self, same_op-joined}
use Rattle.relay_results.proofs.Lists.{true_or_false, at-Mem, at-map, map-Mem, distinct_places, some_same}

-- the version that an operation of the list is assigned, of this many from this one on
abbrev pub version_in : ℕ → ℕ → List Op → Op → Option ℕ
version_in v left [] o = None
version_in v zero (x ∷ xs) o = None
version_in v (suc n) (x ∷ xs) o = if same_op o x then Some v else version_in (v + 1) n xs o

pub version_of : (xs : List Op) (v left i : ℕ) (o : Op) → AllDistinct (map name_of xs) → slice_get xs i ≡ Some o → i < left → version_in v left xs o ≡ Some (v + i)
version_of [] v left i o d s lt = absurd (cc)
version_of (x ∷ xs) v zero i o d s lt = absurd (omega (arith, lt))
version_of (x ∷ xs) v (suc n) zero o d s lt =
    let e : x ≡ o = some_same x o s in
    let t = ap (same_op o) e ∙ same_op-self o in
    ap (λ b. if b then Some v else version_in (v + 1) n xs o) t ∙ ap Some (let z : v ≡ v + 0 = omega arith in z)
version_of (x ∷ xs) v (suc n) (suc i) o d s lt = ⊎_elim
    (λ t. absurd (d.0 (subst (λ k. Mem k (map name_of xs)) (same_op-true o x t).name (map-Mem name_of o xs (at-Mem xs i o s)))))
    (λ t.
    let r = version_of xs (v + 1) n i o d.1 s (omega (arith, lt)) in
    ap (λ b. if b then Some v else version_in (v + 1) n xs o) t ∙ r ∙ ap Some (let z : v + 1 + i ≡ v + suc i = omega arith in z))
    (true_or_false (same_op o x))

-- where a version comes from
pub record IsPlaceOf (v left : ℕ) (xs : List Op) (o : Op) (u : ℕ) : Type 0 where
  pub place : ℕ
  pub op : Op
  pub stands : slice_get xs place ≡ Some op
  pub same : same_op o op ≡ true
  pub within : place < left
  pub version : u ≡ v + place

place_if : (b : Bool) (v n : ℕ) (x : Op) (xs : List Op) (o : Op) (u : ℕ) → same_op o x ≡ b → (if b then Some v else version_in (v + 1) n xs o) ≡ Some u → (version_in (v + 1) n xs o ≡ Some u → IsPlaceOf (v + 1) n xs o u) → IsPlaceOf v (suc n) (x ∷ xs) o u
place_if true v n x xs o u t e rest = record { place = zero; op = x; stands = refl; same = t; within = omega arith; version = let z : v ≡ u = some_same v u e in omega (arith, z) }
place_if false v n x xs o u t e rest = let p = rest e in record { place = suc p.place; op = p.op; stands = p.stands; same = p.same; within = (let w = p.within in omega (arith, w)); version = (let w = p.version in omega (arith, w)) }

pub place_from : (xs : List Op) (v left : ℕ) (o : Op) (u : ℕ) → version_in v left xs o ≡ Some u → IsPlaceOf v left xs o u
place_from [] v left o u e = absurd (cc)
place_from (x ∷ xs) v zero o u e = absurd (cc)
place_from (x ∷ xs) v (suc n) o u e = place_if (same_op o x) v n x xs o u refl e (place_from xs (v + 1) n o u)

pub is_assignment : (first left : ℕ) (taken : List Op) → IsAssignment (version_in first left taken)
is_assignment first left taken a b v ea eb doc =
    let pa = place_from taken first left a v ea in
    let pb = place_from taken first left b v eb in
    let at : pa.place ≡ pb.place = (let x = pa.version in let y = pb.version in omega (arith, x, y)) in
    let same : pa.op ≡ pb.op = some_same pa.op pb.op (sym pa.stands ∙ ap (slice_get taken) at ∙ pb.stands) in
    same_op-joined a b pb.op (ap (same_op a) (sym same) ∙ pa.same) pb.same

-- an operation past the limit has none
pub none_over : (first left : ℕ) (taken : List Op) (o : Op) (i u : ℕ) → AllDistinct (map name_of taken) → slice_get taken i ≡ Some o → left ≤ i → version_in first left taken o ≡ Some u → ⊥
none_over first left taken o i u d s past e =
    let p = place_from taken first left o u e in
    let names = (same_op-true o p.op p.same).name in
    let at = distinct_places (map name_of taken) i p.place (name_of o) d (at-map name_of taken i o s) (at-map name_of taken p.place p.op p.stands ∙ ap Some (sym names)) in
    let w = p.within in omega (arith, at, w, past)

-- each has that of its place, if there is one
pub version_there : (first left : ℕ) (taken : List Op) (place : ℕ) (o : Op) → AllDistinct (map name_of taken) → slice_get taken place ≡ Some o → version_in first left taken o ≡ (if nat_lt place left then Some (first + place) else None)
version_there first left taken place o distinct at = by (nat_lt place left) refl
  where
    none : (v : Option ℕ) → left ≤ place → version_in first left taken o ≡ v → v ≡ None
    none None past e = refl
    none (Some u) past e = absurd (none_over first left taken o place u distinct at past e)

    by : (b : Bool) → nat_lt place left ≡ b → version_in first left taken o ≡ (if b then Some (first + place) else None)
    by true e = version_of taken first left place o distinct at (ltb-true _ _ e)
    by false e = none (version_in first left taken o) (ltb-false _ _ e) refl
