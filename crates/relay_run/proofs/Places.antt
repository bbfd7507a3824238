-- The places that a producer told are the first that it was given.
use Rattle.std.proofs.Common.{◌≡◌, Bool, true, false, List, [], ◌∷◌, ◌++◌, Option, refl, sym, ap, subst, ◌∙◌, ⊎_elim, append_assoc, append-nil}
use Rattle.std.specs.Prelude.{map}
use Rattle.std.proofs.lemmas.Bool.{false≢true}
use Rattle.std.proofs.lemmas.List.{map-append}
use Rattle.relay_resume.specs.declared.mark.Place.{Place}
use Rattle.relay_receipts.specs.Ends.{TellEnd}
use Rattle.relay_keeping.specs.declared.told.Told.{Told}
use Rattle.relay_keeping.specs.Histories.{places_in}
use Rattle.relay_keeping.specs.Tellers.{AddsPlace, InputState, PutsPlace, places_of, said_at}
use Rattle.relay_run.specs.Places.{AllUntold, AreFirst, IsTold}
use Rattle.relay_run.specs.Settling.{Tellings}

-- the first of the first
pub first_front : (done rest all : List Place) → AreFirst (done ++ rest) all → AreFirst done all
first_front done rest all h = (rest ++ h.0, h.1 ∙ append_assoc done rest h.0)

first_more : (first all : List Place) (place : Place) → AreFirst first all → AreFirst first (all ++ place ∷ [])
first_more first all place h = (h.0 ++ place ∷ [], ap (λ (ps : List Place). ps ++ place ∷ []) h.1 ∙ append_assoc first h.0 (place ∷ []))

first_all : (first all : List Place) → all ≡ first → AreFirst first all
first_all first all e = ([], e ∙ sym (append-nil first))

-- an end that has none, or that told nothing
pub no_places : (end : Option (TellEnd Told)) (batch : List Place) (other : Option (TellEnd Told)) → end ≡ other → said_at other ≡ [] → batch ≡ [] → places_in (said_at end) ++ batch ≡ []
no_places end batch other e none b =
    ap (λ (o : Option (TellEnd Told)). places_in (said_at o) ++ batch) e ∙ (ap (λ s. places_in s ++ batch) none ∙ b)

module _ (old new : InputState) (places : List Place) (place : Place) (h : IsTold old places) (puts : PutsPlace place old new) where
  -- it was not whole before
  not_before : old.is_whole ≡ false → IsTold new (places ++ place ∷ [])
  not_before e = record {
    first = subst (λ (ps : List Place). AreFirst ps (places ++ place ∷ [])) (sym (puts.stays e).0) (first_more (places_of old) places place h.first);
    all = λ w. absurd (false≢true (sym (puts.stays e).1 ∙ w));
  }

  pushed : old.is_whole ≡ true → places_of new ≡ places_of old ++ place ∷ [] → places ++ place ∷ [] ≡ places_of new
  pushed e is = ap (λ (ps : List Place). ps ++ place ∷ []) (h.all e) ∙ sym is

  -- it was whole, and is no more
  not_after : old.is_whole ≡ true → new.is_whole ≡ false → AddsPlace false place (places_of old) (places_of new) → IsTold new (places ++ place ∷ [])
  not_after e now adds = record {
    first = ⊎_elim (λ (is : places_of new ≡ places_of old). subst (λ (ps : List Place). AreFirst ps (places ++ place ∷ [])) (sym is) (first_more (places_of old) places place h.first))
        (λ is. first_all (places_of new) (places ++ place ∷ []) (pushed e is)) adds;
    all = λ w. absurd (false≢true (sym now ∙ w));
  }

  by_after : (b : Bool) → new.is_whole ≡ b → old.is_whole ≡ true → IsTold new (places ++ place ∷ [])
  by_after true now e =
      let adds : places_of new ≡ places_of old ++ place ∷ [] = subst (λ (b : Bool). AddsPlace b place (places_of old) (places_of new)) now (puts.adds e) in
      record { first = first_all (places_of new) (places ++ place ∷ []) (pushed e adds); all = λ w. pushed e adds }
  by_after false now e = not_after e now (subst (λ (b : Bool). AddsPlace b place (places_of old) (places_of new)) now (puts.adds e))

  by_before : (b : Bool) → old.is_whole ≡ b → IsTold new (places ++ place ∷ [])
  by_before true e = by_after new.is_whole refl e
  by_before false e = not_before e

-- one more place
pub told_put : (old new : InputState) (places : List Place) (place : Place) → IsTold old places → PutsPlace place old new → IsTold new (places ++ place ∷ [])
told_put old new places place h puts = by_before old new places place h puts old.is_whole refl

-- one more place was noted
pub noted_place : (old new : List (Place × Unit {0})) (place : Place) → new ≡ old ++ (place, tt) ∷ [] → map (λ (x : Place × Unit {0}). x.0) new ≡ map (λ (x : Place × Unit {0}). x.0) old ++ place ∷ []
noted_place old new place is = ap (map (λ (x : Place × Unit {0}). x.0)) is ∙ map-append (λ (x : Place × Unit {0}). x.0) old ((place, tt) ∷ [])

-- one more that told nothing
pub untold_one : (ts new : List Tellings) (t : Tellings) → AllUntold ts → t.places ≡ [] → new ≡ ts ++ t ∷ [] → AllUntold new
untold_one ts new t all one is = subst AllUntold (sym is) (push ts all)
  where
    push : (ts : List Tellings) → AllUntold ts → AllUntold (ts ++ t ∷ [])
    push [] all = (one, tt)
    push (x ∷ ts) all = (all.0, push ts all.1)
