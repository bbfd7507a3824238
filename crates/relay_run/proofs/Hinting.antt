-- The greatest version that conflicts state.
use Rattle.std.proofs.Common.{◌≡◌, ◌≤◌, ◌<◌, ◌+◌, ℕ, length, take, get_or, List, [], ◌∷◌, ◌++◌, Option, Some, None, Bool, true, false, refl, sym, ap, subst, ◌∙◌, ⊎_elim, max, ltb, arith}
use Rattle.std.proofs.lemmas.Bool.{ltb-true, ltb-false}
use Rattle.std.proofs.lemmas.List.{take_more}
use Rattle.relay_core.specs.declared.report.Report.{Report}
use Rattle.relay_results.specs.Words.{Mem}
use Rattle.relay_results.proofs.Lists.{Mem-left, Mem-last, Mem-push_cases}
use Rattle.relay_run.specs.Hints.{stored_by, higher, IsGreatestStored}

none_some : (v : ℕ) → None ≡ Some v → ⊥
none_some v e = cc

some_is : (u v : ℕ) → Some u ≡ Some v → u ≡ v
some_is u v e = cc

push_by : (reports : List Report) (r : Report) (greatest stored : Option ℕ) → stored_by r ≡ stored → IsGreatestStored reports greatest → IsGreatestStored (reports ++ r ∷ []) (higher greatest stored)
push_by reports r None None e g = λ x m. ⊎_elim (λ l. g x l) (λ q. ap stored_by q ∙ e) (Mem-push_cases x reports r m)
push_by reports r None (Some v) e g = (
  (r, Mem-last reports r, e),
  λ x u m is.
      ⊎_elim (λ l. absurd (none_some u (sym (g x l) ∙ is))) (λ q. let same : u ≡ v = some_is u v (sym is ∙ ap stored_by q ∙ e) in omega (arith, same)) (Mem-push_cases x reports r m),
)
push_by reports r (Some n) None e g = (
  (g.0.0, Mem-left g.0.0 reports (r ∷ []) g.0.1, g.0.2),
  λ x u m is. ⊎_elim (λ l. g.1 x u l is) (λ q. absurd (none_some u (sym (ap stored_by q ∙ e) ∙ is))) (Mem-push_cases x reports r m),
)
push_by reports r (Some n) (Some v) e g = by (ltb n v) refl
  where
    all : (top : ℕ) → n ≤ top → v ≤ top → (x : Report) (u : ℕ) → Mem x (reports ++ r ∷ []) → stored_by x ≡ Some u → u ≤ top
    all top over own x u m is =
        ⊎_elim (λ l. let least : u ≤ n = g.1 x u l is in omega (arith, least, over)) (λ q. let same : u ≡ v = some_is u v (sym is ∙ ap stored_by q ∙ e) in omega (arith, same, own)) (Mem-push_cases x reports r m)

    by : (b : Bool) → ltb n v ≡ b → IsGreatestStored (reports ++ r ∷ []) (Some (max n v))
    by true h =
        let above : n < v = ltb-true n v h in
        let is : max n v ≡ v = omega arith in (
          (r, Mem-last reports r, rw is e),
          all (max n v) (omega arith) (omega arith),
        )
    by false h =
        let below : v ≤ n = ltb-false n v h in
        let is : max n v ≡ n = omega arith in (
          (g.0.0, Mem-left g.0.0 reports (r ∷ []) g.0.1, rw is g.0.2),
          all (max n v) (omega arith) (omega arith),
        )

pub greatest_push : (reports : List Report) (r : Report) (greatest : Option ℕ) → IsGreatestStored reports greatest → IsGreatestStored (reports ++ r ∷ []) (higher greatest (stored_by r))
greatest_push reports r greatest g = push_by reports r greatest (stored_by r) refl g

pub greatest_none : IsGreatestStored [] None
greatest_none r m = absurd m

-- with one more report
pub greatest_next : (reports : List Report) (i : ℕ) (r : Report) (greatest stored next : Option ℕ) → i < length reports → r ≡ get_or reports i r → stored ≡ stored_by r → next ≡ higher greatest stored
    → IsGreatestStored (take i reports) greatest → IsGreatestStored (take (i + 1) reports) next
greatest_next reports i r greatest stored next inside is e h g =
    subst (λ xs. IsGreatestStored xs next) (sym (take_more reports i r inside ∙ ap (λ x. take i reports ++ x ∷ []) (sym is)))
    (subst (λ o. IsGreatestStored (take i reports ++ r ∷ []) o) (sym (h ∙ ap (higher greatest) e)) (greatest_push (take i reports) r greatest g))
