-- What a producer's thread and a lane tell, step by step.
use Rattle.std.proofs.Common.{◌≡◌, List, [], ◌++◌, Some, sym, ap, subst, ⊎_elim, inl, inr}
use Rattle.std.specs.Prelude.{map}
use Rattle.relay_action.specs.declared.operation.OpName.{OpName}
use Rattle.relay_results.specs.Words.{Mem}
use Rattle.relay_results.proofs.Lists.{Mem-left, Mem-right, Mem-cases}
use Rattle.relay_keeping.specs.declared.told.Told.{Told}
use Rattle.relay_keeping.specs.Histories.{names_in}
use Rattle.relay_keeping.specs.Tellers.{LaneState, MaySay, TellsOnly, names_of}

-- an end by which nothing was told told no names
pub no_names : (told : List Told) → told ≡ [] → names_in (map Some told) ≡ []
no_names told e = ap (λ l. names_in (map Some l)) e

-- ---- a lane tells only what it was given

-- names that it may tell are added to those that it was given as applied
pub only_applied : (names : List OpName) (old new : LaneState) → MaySay names old.end new.end → new.applied ≡ old.applied ++ names → new.saved ≡ old.saved → TellsOnly old → TellsOnly new
only_applied names old new may more same only name m =
    ⊎_elim (λ e. ⊎_elim (λ a. inl (left name a)) (λ s. inr (subst (Mem name) (sym same) s)) (only name (subst (Mem name) e m)))
    (λ e. ⊎_elim (λ before. ⊎_elim (λ a. inl (left name a)) (λ s. inr (subst (Mem name) (sym same) s)) (only name before)) (λ now. inl (subst (Mem name) (sym more) (Mem-right name old.applied names now))) (Mem-cases name (names_of old) names (subst (Mem name) e m)))
    may where
      left : (name : OpName) → Mem name old.applied → Mem name new.applied
      left name a = subst (Mem name) (sym more) (Mem-left name old.applied names a)

-- or to those whose reports were saved
pub only_saved : (names : List OpName) (old new : LaneState) → MaySay names old.end new.end → new.applied ≡ old.applied → new.saved ≡ old.saved ++ names → TellsOnly old → TellsOnly new
only_saved names old new may same more only name m =
    ⊎_elim (λ e. ⊎_elim (λ a. inl (subst (Mem name) (sym same) a)) (λ s. inr (left name s)) (only name (subst (Mem name) e m)))
    (λ e. ⊎_elim (λ before. ⊎_elim (λ a. inl (subst (Mem name) (sym same) a)) (λ s. inr (left name s)) (only name before)) (λ now. inr (subst (Mem name) (sym more) (Mem-right name old.saved names now))) (Mem-cases name (names_of old) names (subst (Mem name) e m)))
    may where
      left : (name : OpName) → Mem name old.saved → Mem name new.saved
      left name s = subst (Mem name) (sym more) (Mem-left name old.saved names s)
