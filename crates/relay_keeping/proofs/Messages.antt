-- What messages tell, one after another.
use Rattle.std.proofs.Common.{◌≡◌, ◌≢◌, ℕ, eqb, eq-eqb, List, [], ◌∷◌, ◌++◌, Option, Some, None, Bool, true, false, refl, sym, ap, ◌∙◌, subst, ⊎_elim, inl, inr, append_assoc, append-nil}
use Rattle.std.specs.Prelude.{◌⊎◌, if◌then◌else◌, map, IfErr, OnOk, Result, Ok, Err}
use Rattle.std.proofs.lemmas.Bool.Decides.{eqb_tells}
use Rattle.std.proofs.lemmas.List.{map-append}
use Rattle.relay_action.specs.declared.operation.OpName.{OpName}
use Rattle.relay_results.specs.Words.{Mem}
use Rattle.relay_results.proofs.Lists.{Mem-left, Mem-right, Mem-cases}
use Rattle.relay_resume.specs.declared.mark.Place.{Place}
use Rattle.relay_receipts.specs.declared.notice.Notice.{Notice}
use Rattle.relay_receipts.specs.Ends.{TellEnd}
use Rattle.relay_receipts.specs.Notices.{said_by, says}
use Rattle.relay_keeping.specs.declared.told.Told.{Told}
use Rattle.relay_keeping.specs.declared.told.Told.TheVariants.{Put, Settled}
use Rattle.relay_keeping.specs.Histories.{names_in, numbers_of, places_in, said_in}
use Rattle.relay_keeping.specs.Tellers.{MaySay}

pub places_in-append : (a b : List (Option Told)) → places_in (a ++ b) ≡ places_in a ++ places_in b
places_in-append [] b = refl
places_in-append (None ∷ a) b = places_in-append a b
places_in-append (Some (Put ends) ∷ a) b = ap (λ l. ends.items ++ l) (places_in-append a b) ∙ sym (append_assoc ends.items (places_in a) (places_in b))
places_in-append (Some (Settled names) ∷ a) b = places_in-append a b

pub names_in-append : (a b : List (Option Told)) → names_in (a ++ b) ≡ names_in a ++ names_in b
names_in-append [] b = refl
names_in-append (None ∷ a) b = names_in-append a b
names_in-append (Some (Put ends) ∷ a) b = names_in-append a b
names_in-append (Some (Settled names) ∷ a) b = ap (λ l. names.items ++ l) (names_in-append a b) ∙ sym (append_assoc names.items (names_in a) (names_in b))

number_more : (t : Bool) (n : ℕ) (xs ys : List ℕ) → (if t then n ∷ xs else xs) ++ ys ≡ (if t then n ∷ (xs ++ ys) else xs ++ ys)
number_more true n xs ys = refl
number_more false n xs ys = refl

pub numbers_of-append : (p : ℕ) (a b : List OpName) → numbers_of p (a ++ b) ≡ numbers_of p a ++ numbers_of p b
numbers_of-append p [] b = refl
numbers_of-append p (n ∷ a) b =
    ap (λ l. if eqb n.producer p then n.number ∷ l else l) (numbers_of-append p a b) ∙ sym (number_more (eqb n.producer p) n.number (numbers_of p a) (numbers_of p b))

-- ---- one more message of an end

said-push : (told told' : List Told) (x : Told) → told' ≡ told ++ x ∷ [] → map Some told' ≡ map Some told ++ Some x ∷ []
said-push told told' x e = ap (map Some) e ∙ map-append Some told (x ∷ [])

pub told_places : (told told' : List Told) (x : Told) → told' ≡ told ++ x ∷ [] → places_in (map Some told') ≡ places_in (map Some told) ++ places_in (Some x ∷ [])
told_places told told' x e = ap places_in (said-push told told' x e) ∙ places_in-append (map Some told) (Some x ∷ [])

pub told_names : (told told' : List Told) (x : Told) → told' ≡ told ++ x ∷ [] → names_in (map Some told') ≡ names_in (map Some told) ++ names_in (Some x ∷ [])
told_names told told' x e = ap names_in (said-push told told' x e) ∙ names_in-append (map Some told) (Some x ∷ [])

-- places that were sent are told, and no longer wait to be
pub sent_places : (told told' : List Told) (x : Told) (left batch : List Place) → told' ≡ told ++ x ∷ [] → left ≡ [] → places_in (Some x ∷ []) ≡ batch ++ [] → places_in (map Some told') ++ left ≡ places_in (map Some told) ++ batch
sent_places told told' x left batch e none is =
    ap (λ l. places_in (map Some told') ++ l) none ∙ append-nil (places_in (map Some told')) ∙ told_places told told' x e ∙ ap (λ l. places_in (map Some told) ++ l) (is ∙ append-nil batch)

-- a message that tells no names
pub sent_names : (told told' : List Told) (x : Told) → told' ≡ told ++ x ∷ [] → names_in (Some x ∷ []) ≡ [] → names_in (map Some told') ≡ names_in (map Some told)
sent_names told told' x e none = told_names told told' x e ∙ ap (λ l. names_in (map Some told) ++ l) none ∙ append-nil (names_in (map Some told))

-- ---- what an end says

pub says_places : (told : List Told) (closed : Bool) → places_in (says told closed) ≡ places_in (map Some told)
says_places told false = refl
says_places told true = places_in-append (map Some told) (None ∷ []) ∙ append-nil (places_in (map Some told))

pub says_names : (told : List Told) (closed : Bool) → names_in (says told closed) ≡ names_in (map Some told)
says_names told false = refl
says_names told true = names_in-append (map Some told) (None ∷ []) ∙ append-nil (names_in (map Some told))

-- ---- names among notices

name_of_one : (name : OpName) (x : Option Told) (rest : List (Option Told)) → Mem name (names_in (x ∷ rest)) → Mem name (names_in (x ∷ [])) ⊎ Mem name (names_in rest)
name_of_one name x rest m = Mem-cases name (names_in (x ∷ [])) (names_in rest) (subst (Mem name) (names_in-append (x ∷ []) rest) m)

name_first : (name : OpName) (x : Option Told) (rest : List (Option Told)) → Mem name (names_in (x ∷ [])) → Mem name (names_in (x ∷ rest))
name_first name x rest m = subst (Mem name) (sym (names_in-append (x ∷ []) rest)) (Mem-left name (names_in (x ∷ [])) (names_in rest) m)

name_later : (name : OpName) (x : Option Told) (rest : List (Option Told)) → Mem name (names_in rest) → Mem name (names_in (x ∷ rest))
name_later name x rest m = subst (Mem name) (sym (names_in-append (x ∷ []) rest)) (Mem-right name (names_in (x ∷ [])) (names_in rest) m)

name_of_lane : (name : OpName) (t : Bool) (x : Option Told) (rest : List (Option Told)) → Mem name (names_in rest) → Mem name (names_in (if t then x ∷ rest else rest))
name_of_lane name true x rest m = name_later name x rest m
name_of_lane name false x rest m = m

-- a name that notices tell was told by one of the tellers
pub name_of_teller : (name : OpName) (taken : List (Notice Told)) → Mem name (names_in (said_in taken)) → (l : ℕ) × Mem name (names_in (said_by l taken))
name_of_teller name [] m = absurd m
name_of_teller name (n ∷ ns) m =
    ⊎_elim (λ here. (n.lane, subst (λ t. Mem name (names_in (if t then n.told ∷ said_by n.lane ns else said_by n.lane ns))) (sym (eq-eqb n.lane n.lane refl)) (name_first name n.told (said_by n.lane ns) here)))
    (λ there. let r = name_of_teller name ns there in (r.0, name_of_lane name (eqb n.lane r.0) n.told (said_by r.0 ns) r.1))
    (name_of_one name n.told (said_in ns) m)

-- a number is that of a name
pub number_of_name : (p n : ℕ) (names : List OpName) → Mem n (numbers_of p names) → (name : OpName) × Mem name names × (name.producer ≡ p) × (name.number ≡ n)
number_of_name p n [] m = absurd m
number_of_name p n (x ∷ names) m =
    ⊎_elim (λ (e : (eqb x.producer p ≡ true) × (x.producer ≡ p)).
    ⊎_elim (λ is. (x, inl refl, e.1, sym is)) (λ later. let r = number_of_name p n names later in (r.0, inr r.1, r.2, r.3)) (subst (λ t. Mem n (if t then x.number ∷ numbers_of p names else numbers_of p names)) e.0 m))
    (λ (e : (eqb x.producer p ≡ false) × (x.producer ≢ p)).
    let r = number_of_name p n names (subst (λ t. Mem n (if t then x.number ∷ numbers_of p names else numbers_of p names)) e.0 m) in (r.0, inr r.1, r.2, r.3)) (eqb_tells x.producer p)

-- ---- what holds of a result

pub on_ok : {T E : Type 0} (r : Result T E) {P Q : Type 0} → (P → Q) → OnOk r P → OnOk r Q
on_ok (Ok x) f p = f p
on_ok (Err e) f p = tt

-- an end that was to tell names told them, or nothing
pub may_say : (r : Result Unit Told) (old new : TellEnd Told) (x : Told) (names : List OpName) → OnOk r (new.told ≡ old.told ++ x ∷ []) → IfErr r (λ back. (back ≡ x) × (new ≡ old)) → names_in (Some x ∷ []) ≡ names ++ [] → MaySay names (Some old) (Some new)
may_say (Ok u) old new x names told gone is = inr (told_names old.told new.told x told ∙ ap (λ l. names_in (map Some old.told) ++ l) (is ∙ append-nil names))
may_say (Err back) old new x names told gone is = inl (ap (λ (e : TellEnd Told). names_in (map Some e.told)) gone.1)
