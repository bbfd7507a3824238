-- The numbers of operations in a run that goes on with its inputs.
use Rattle.std.proofs.Common.{◌≡◌, ℕ, List, [], ◌∷◌, ◌++◌, map, sym, ap, ◌∙◌, append_assoc}
use Rattle.std.specs.Prelude.{slice_get}
use Rattle.relay_core.specs.declared.report.Report.{Report}
use Rattle.relay_resume.specs.declared.mark.Mark.{Mark}
use Rattle.relay_run.specs.Numbering.{settled_before, count_before}

-- one more report was renamed
pub renamed_on : (f : Report → Report) (so_far new all left others : List Report) (r named : Report) → left ≡ r ∷ others → named ≡ f r → new ≡ so_far ++ named ∷ []
    → so_far ++ map f left ≡ map f all → new ++ map f others ≡ map f all
renamed_on f so_far new all left others r named is same more h =
    ap (λ (l : List Report). l ++ map f others) more ∙ (append_assoc so_far (named ∷ []) (map f others)
    ∙ (ap (λ (x : Report). so_far ++ x ∷ map f others) same ∙ (ap (λ (l : List Report). so_far ++ map f l) (sym is) ∙ h)))

-- ---- the counts of marks

-- the counts are those of these marks, and 0 after them
abbrev pub HasCounts : List ℕ → List Mark → Type 0
HasCounts before starts = (p : ℕ) → settled_before before p ≡ count_before (slice_get starts p)
