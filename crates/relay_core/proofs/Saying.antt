-- What an answer says of each operation.
use Rattle.std.proofs.Common.{◌≡◌, ℕ, zero, suc, List, [], Option, Bool, true, false, refl, sym, ap, ◌∙◌, subst}
use Rattle.std.specs.Prelude.{slice_get, if◌then◌else◌, length, ◌/◌, None, option_map}
use Rattle.relay_action.specs.declared.action.ActionKind.{ActionKind}
use Rattle.relay_action.specs.declared.write.Write.{Write}
use Rattle.relay_results.specs.declared.cause.Cause.TheVariants as cause
use Rattle.relay_results.specs.declared.cause.LastTry.TheVariants as last
use Rattle.relay_results.specs.declared.cause.Loss.{Loss}
use Rattle.relay_results.specs.Matching.{matches}
use Rattle.relay_results.specs.Outside.{Whole, Items, Lost}
use Rattle.relay_results.specs.Verdicts.{is_retried_whole, is_too_large, is_halved}
use Rattle.relay_results.specs.Fates.{Reported, Halved, Tries, tried_again, no_entry, reason_at, fate_of_entry}
use Rattle.relay_results.specs.declared.outcome.Outcome.{Outcome}
use Rattle.relay_core.specs.Walk.{fate_or, status_in}
use Rattle.relay_core.specs.Memory.{SaysAs, TellsAs, IsHalf}
use Rattle.relay_core.specs.declared.fates.Way.TheVariants as way
use Rattle.std.proofs.lemmas.Bool.{leb-true}
use Rattle.relay_results.proofs.Lists.{and_right}
use Rattle.relay_core.specs.declared.fates.Way.{Way}

-- no reason is none at each place
no_reason : (p : ℕ) → reason_at p None ≡ None
no_reason zero = refl
no_reason (suc p) = refl

by_status : (half again : Bool) (cap status : ℕ) (given : Option (List ℕ)) (t : Tries) (p : ℕ) (kind : ActionKind) (os : List Outcome) → os ≡ []
    → (half ≡ false → again ≡ false → given ≡ None)
    → (if half then Halved cap else if again then tried_again t (last.Whole status) else Reported (cause.Request status (reason_at p given)))
    ≡ fate_or (if half then way.Halved cap else if again then way.ByEntry (last.Whole status) else way.Reported status) (fate_of_entry t kind (slice_get os p))
by_status true again cap status given t p kind os e none = refl
by_status false true cap status given t p kind os e none = ap (λ xs. fate_of_entry t kind (slice_get xs p) (last.Whole status)) (sym e)
by_status false false cap status given t p kind os e none =
    ap (λ r. Reported (cause.Request status (reason_at p r))) (none refl refl) ∙ ap (λ r. Reported (cause.Request status r)) (no_reason p)

-- what the status of a whole request with this many items says of each
abbrev pub way_by : ℕ → ℕ → Way
way_by items status = if is_halved items status then way.Halved (items / 2) else if is_retried_whole status then way.ByEntry (last.Whole status) else way.Reported status

pub whole_says : (ws : List Write) (status : ℕ) (given : Option (List ℕ)) (whole : Way) (os : List Outcome) → whole ≡ way_by (length ws) status → os ≡ []
    → (is_halved (length ws) status ≡ false → is_retried_whole status ≡ false → given ≡ None)
    → SaysAs (Whole status given) ws whole os
whole_says ws status given whole os e n none t p kind =
    by_status (is_halved (length ws) status) (is_retried_whole status) (length ws / 2) status given t p kind os n none
    ∙ ap (λ x. fate_or x (fate_of_entry t kind (slice_get os p))) (sym e)

-- it is reported exactly where it is neither halved nor retried
is_final : (half again : Bool) (items status s : ℕ)
    → (if half then way.Halved (items / 2) else if again then way.ByEntry (last.Whole status) else way.Reported status) ≡ way.Reported s
    → (half ≡ false) × (again ≡ false)
is_final true again items status s e = absurd (cc)
is_final false true items status s e = absurd (cc)
is_final false false items status s e = (refl, refl)

pub reports_final : (items status s : ℕ) (whole : Way) → whole ≡ way_by items status → whole ≡ way.Reported s → (is_halved items status ≡ false) × (is_retried_whole status ≡ false)
reports_final items status s whole e r = is_final (is_halved items status) (is_retried_whole status) items status s (sym e ∙ r)

pub final_reports : (items status : ℕ) (whole : Way) → whole ≡ way_by items status → is_halved items status ≡ false → is_retried_whole status ≡ false → whole ≡ way.Reported status
final_reports items status whole e half again =
    e ∙ ap (λ b. if b then way.Halved (items / 2) else if is_retried_whole status then way.ByEntry (last.Whole status) else way.Reported status) half
    ∙ ap (λ b. if b then way.ByEntry (last.Whole status) else way.Reported status) again

half_by : (half again : Bool) (items status : ℕ) → is_halved items status ≡ half → IsHalf (if half then way.Halved (items / 2) else if again then way.ByEntry (last.Whole status) else way.Reported status) items
half_by true again items status e = (leb-true _ _ (and_right (is_too_large status) _ e), refl)
half_by false true items status e = tt
half_by false false items status e = tt

pub whole_halves : (items status : ℕ) (whole : Way) → whole ≡ way_by items status → IsHalf whole items
whole_halves items status whole e = subst (λ w. IsHalf w items) (sym e) (half_by (is_halved items status) (is_retried_whole status) items status refl)

-- ---- a request that is lost, and a reply with entries

pub lost_says : (ws : List Write) (why : Loss) (os : List Outcome) → os ≡ [] → SaysAs (Lost why) ws (way.ByEntry (last.Lost why)) os
lost_says ws why os n t p kind = ap (λ xs. fate_of_entry t kind (slice_get xs p) (last.Lost why)) (sym n)

pub items_say : (ws : List Write) (os given : List Outcome) (b : Bool) → matches os ws ≡ b → given ≡ (if b then os else []) → SaysAs (Items os) ws (way.ByEntry no_entry) given
items_say ws os given true m e t p kind = ap (λ b. if b then fate_of_entry t kind (slice_get os p) no_entry else tried_again t no_entry) m ∙ ap (λ xs. fate_of_entry t kind (slice_get xs p) no_entry) (sym e)
items_say ws os given false m e t p kind = ap (λ b. if b then fate_of_entry t kind (slice_get os p) no_entry else tried_again t no_entry) m ∙ ap (λ xs. fate_of_entry t kind (slice_get xs p) no_entry) (sym e)

-- ---- the status of each entry

pub whole_tells : (ws : List Write) (status : ℕ) (given : Option (List ℕ)) (os : List Outcome) → os ≡ [] → TellsAs (Whole status given) ws os
whole_tells ws status given os n p = ap (λ xs. status_in (slice_get xs p)) (sym n)

pub lost_tells : (ws : List Write) (why : Loss) (os : List Outcome) → os ≡ [] → TellsAs (Lost why) ws os
lost_tells ws why os n p = ap (λ xs. status_in (slice_get xs p)) (sym n)

pub items_tell : (ws : List Write) (os given : List Outcome) (b : Bool) → matches os ws ≡ b → given ≡ (if b then os else []) → TellsAs (Items os) ws given
items_tell ws os given true m e p = ap (λ b. if b then option_map (λ (o : Outcome). o.status) (slice_get os p) else None) m ∙ ap (λ xs. status_in (slice_get xs p)) (sym e)
items_tell ws os given false m e p = ap (λ b. if b then option_map (λ (o : Outcome). o.status) (slice_get os p) else None) m ∙ ap (λ xs. status_in (slice_get xs p)) (sym e)
