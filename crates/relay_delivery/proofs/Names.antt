-- Names that are counted at most once.
use Rattle.std.proofs.Common.{◌≡◌, ◌≤◌, List, [], ◌∷◌, sym, ap, ◌∙◌, subst, ⊎_elim, arith}
use Rattle.std.specs.Prelude.{map}
use Rattle.relay_action.specs.declared.operation.Op.{Op}
use Rattle.relay_action.specs.declared.operation.OpName.{OpName}
use Rattle.relay_results.specs.Words.{Mem, AllDistinct, count, one_if}
use Rattle.relay_results.specs.Documents.{name_of, same_name}
use Rattle.relay_delivery.specs.Machine.{Report}
use Rattle.relay_results.proofs.Same.{same_name-true, same_name-self}
use Rattle.relay_results.proofs.Lists.{true_or_false, map-Mem, Mem-map, count_zero, count_some}
use Rattle.relay_delivery.proofs.Facts.{is_report_as, is_taken_as}

pub taken_once : (xs : List Op) → AllDistinct (map name_of xs) → (n : OpName) → count (is_taken_as n) xs ≤ 1
taken_once [] d n = omega arith
taken_once (x ∷ xs) d n = ⊎_elim
    (λ t.
    let none = count_zero (is_taken_as n) xs (λ y m. ⊎_elim
    (λ u.
    let e : name_of y ≡ name_of x = sym (same_name-true n (name_of y) u) ∙ same_name-true n (name_of x) t in
    absurd (d.0 (subst (λ k. Mem k (map name_of xs)) e (map-Mem name_of y xs m))))
    (λ e. e)
    (true_or_false (same_name n (name_of y)))) in
    let o = ap one_if t in omega (arith, none, o))
    (λ t. let r = taken_once xs d.1 n in let o = ap one_if t in omega (arith, r, o))
    (true_or_false (same_name n (name_of x)))

pub reported_once : (rs : List Report) → ((n : OpName) → count (is_report_as n) rs ≤ 1) → AllDistinct (map (λ (r : Report). r.name) rs)
reported_once [] h = tt
reported_once (r ∷ rs) h = (
  (λ m.
      let y = Mem-map (λ (x : Report). x.name) r.name rs m in
      let some = count_some (is_report_as r.name) y.0 rs y.1 (ap (same_name r.name) (sym y.2) ∙ same_name-self r.name) in
      let one = ap one_if (same_name-self r.name) in
      let le = h r.name in absurd (omega (arith, some, one, le))),
  reported_once rs (λ n. let le = h n in omega (arith, le)),
)
