use Rattle.std.proofs.Common.{◌≡◌, Result, Ok, Err, MatchOption, MatchResult, IfOk, refl, subst, sym}
use Rattle.relay_json.specs.Sole.{IsSoleObject}
use Rattle.relay_results.specs.Parts.{HoldsFields}
use Rattle.relay_results.specs.Replies.{IsEntry, IsNoEntry}
use Rattle.relay_results.proofs.OneMore.{entry_is}
use Rattle.relay_results.proofs.reading.read_entry.Goals as goal

-- what was said of a value stays if only its error was mapped
ok_stays : {A D E : Type 0} (r : Result A E) (mapped : Result A D) (x : A) (P : A → Type 0) (Q : E → Type 0) → mapped ≡ Ok x → ((e : E) → Q e → ⊥)
    → MatchResult r (λ y. mapped ≡ Ok y) Q → IfOk r P → P x
ok_stays (Ok y) mapped x P Q is never same p = let e : y ≡ x = cc in subst P e p
ok_stays (Err e) mapped x P Q is never h p = absurd (never e h)

pub returns-clause-ok : goal.returns-clause-ok
returns-clause-ok c =
    let read = c.in_ok-name.ensures.ok in
    let one = subst (IsSoleObject HoldsFields read.0) c.in-Some.is read.2 in
    (read.0, read.1, subst (λ d. MatchOption c.in_ok-map_err.field-0 (IsNoEntry d) (IsEntry d)) (sym (entry_is read.0 c.in-Some.name.now one.0 one.1)) (ok_stays _ _ c.in_ok-map_err.field-0 _ _ refl (λ e h. h) c.in_ok-map_err.ensures.cases c.outcome_of.ensures one.0 one.2))
