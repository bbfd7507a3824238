-- A report gets a reason.
use Rattle.std.proofs.Common.{◌≡◌, ℕ, zero, suc, ◌≤◌, List, [], ◌∷◌, Option, refl, sym, ap, ◌∙◌, arith}
use Rattle.std.specs.Prelude.{length, map, slice_set, slice_index_or}
use Rattle.relay_results.specs.declared.cause.Cause.{Cause}
use Rattle.relay_results.specs.declared.cause.Cause.TheVariants as cause
use Rattle.relay_delivery.specs.Machine as machine
use Rattle.relay_core.specs.declared.report.Report.{Report}
use Rattle.relay_core.specs.Walk.{report_of, with_reason, explained}

-- there is no report at the place
pub none_there : (given : Option (List ℕ)) (n : ℕ) (rs : List machine.Report) → length rs ≤ n → explained n given rs ≡ rs
none_there given n [] le = refl
none_there given zero (r ∷ rs) le = absurd (omega (arith, le))
none_there given (suc n) (r ∷ rs) le = ap (λ xs. r ∷ xs) (none_there given n rs (omega (arith, le)))

-- the report at the place is not on the status of a whole request
other_cause : (given : Option (List ℕ)) (c : Cause) → ((status : ℕ) (reason : Option (List ℕ)) → c ≡ cause.Request status reason → ⊥) → with_reason given c ≡ c
other_cause given (cause.Refused status kind reason) other = refl
other_cause given (cause.Request status reason) other = absurd (other status reason refl)
other_cause given (cause.Conflict stored reason) other = refl
other_cause given (cause.GaveUp sends tried) other = refl
other_cause given cause.Spent other = refl

pub other_there : (given : Option (List ℕ)) (n : ℕ) (xs : List Report) (r : Report) → r ≡ slice_index_or xs n r
    → ((status : ℕ) (reason : Option (List ℕ)) → r.cause ≡ cause.Request status reason → ⊥) → map report_of xs ≡ explained n given (map report_of xs)
other_there given n [] r at other = refl
other_there given zero (x ∷ xs) r at other =
    let c : with_reason given x.cause ≡ x.cause = ap (λ (y : Report). with_reason given y.cause) (sym at) ∙ other_cause given r.cause other ∙ ap (λ (y : Report). y.cause) at in
    sym (ap (λ (k : Cause). record (report_of x) { cause = k } ∷ map report_of xs) c)
other_there given (suc n) (x ∷ xs) r at other = ap (λ ys. report_of x ∷ ys) (other_there given n xs r at other)

-- it is, and gets the reason
pub set_there : (given : Option (List ℕ)) (n : ℕ) (xs : List Report) (r y : Report) (status : ℕ) (reason : Option (List ℕ))
    → r ≡ slice_index_or xs n r → y ≡ slice_index_or xs n y → r.cause ≡ cause.Request status reason
    → map report_of (slice_set xs n (record { name = y.name; key = y.key; cause = cause.Request status given })) ≡ explained n given (map report_of xs)
set_there given n [] r y status reason at same is = refl
set_there given zero (x ∷ xs) r y status reason at same is =
    let c : with_reason given x.cause ≡ cause.Request status given = ap (λ (z : Report). with_reason given z.cause) (sym at) ∙ ap (with_reason given) is in
    ap (λ (z : Report). report_of (record { name = z.name; key = z.key; cause = cause.Request status given }) ∷ map report_of xs) same
    ∙ sym (ap (λ (k : Cause). record (report_of x) { cause = k } ∷ map report_of xs) c)
set_there given (suc n) (x ∷ xs) r y status reason at same is = ap (λ ys. report_of x ∷ ys) (set_there given n xs r y status reason at same is)
