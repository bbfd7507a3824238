-- What a fate says of the answer that it comes from.
use Rattle.std.proofs.Common.{◌≡◌, ◌⊎◌, inl, inr, ℕ, zero, suc, ◌+◌, ◌<◌, ◌≤◌, List, [], ◌∷◌, Option, Some, None, Bool, true, false, refl, sym, ap, ◌∙◌, subst, ⊎_elim, arith}
use Rattle.std.specs.Prelude.{nat_lt, nat_le, if◌then◌else◌, ◌&&◌, ◌||◌, ◌/◌, is_some, slice_get, length, not}
use borrow.Author.Tests.{ltb-true, ltb-false, leb-true, leb-false}
use Rattle.std.proofs.lemmas.Bool.{le-leb}
use Rattle.relay_action.specs.declared.action.ActionKind.{ActionKind}
use Rattle.relay_action.specs.declared.write.Write.{Write}
use Rattle.relay_results.specs.declared.cause.Cause.TheVariants as cause
use Rattle.relay_results.specs.declared.cause.LastTry.{LastTry}
use Rattle.relay_results.specs.declared.cause.LastTry.TheVariants as last
use Rattle.relay_results.specs.declared.outcome.Outcome.{Outcome}
use Rattle.relay_results.specs.declared.decide.ItemVerdict.{ItemVerdict}
use Rattle.relay_results.specs.declared.decide.ItemVerdict.TheVariants as verdict
use Rattle.relay_results.specs.Verdicts.{may_be_own, is_2xx, is_absent, is_success, is_conflict, is_retried_item, is_retried_whole, is_too_large, is_halved}
use Rattle.relay_results.specs.Matching.{matches}
use Rattle.relay_results.specs.Outside.{Answer, Unanswered, Items, Whole, Lost, Ran, stored_in, WasRun, EachWasRun, IsHonest}
use Rattle.relay_results.specs.Fates.{Fate, Flies, Retried, Halved, Reported, Tries, tried_again, no_entry, reason_at, fate, fate_of_entry, fate_of_verdict, HasEntry, IsRetried, is_retried_entry}
use Rattle.relay_results.specs.Laws.{IsWithOther, Says, FateSays, AnswersEndFlight, RetriedHasTries, HonestEntryWasRun}
use Rattle.relay_results.proofs.Lists.{some_same, equal, true_or_false, and_left, and_right}
use Rattle.relay_results.proofs.Excluded.{by_lines, refused_whatever}

if_case : (P : Fate → Type 0) (b : Bool) (x y : Fate) → (b ≡ true → P x) → (b ≡ false → P y) → P (if b then x else y)
if_case P true x y f g = f refl
if_case P false x y f g = g refl

-- ---- the table, by its tests

by_verdict : (P : ItemVerdict → Type 0) (success absent conflict busy repeated left : Bool)
    → (success ≡ true → P verdict.Applied)
    → (absent ≡ true → P verdict.Applied)
    → (conflict ≡ true → repeated ≡ true → P verdict.Already)
    → (conflict ≡ true → repeated ≡ false → P verdict.Conflict)
    → (busy ≡ true → left ≡ true → P verdict.Retry)
    → (busy ≡ true → left ≡ false → P verdict.GaveUp)
    → (by_lines success absent conflict busy repeated left ≡ verdict.Refused → P verdict.Refused)
    → P (by_lines success absent conflict busy repeated left)
by_verdict P true a c b r l p1 p2 p3 p4 p5 p6 p7 = p1 refl
by_verdict P false true c b r l p1 p2 p3 p4 p5 p6 p7 = p2 refl
by_verdict P false false true b true l p1 p2 p3 p4 p5 p6 p7 = p3 refl refl
by_verdict P false false true b false l p1 p2 p3 p4 p5 p6 p7 = p4 refl refl
by_verdict P false false false true r true p1 p2 p3 p4 p5 p6 p7 = p5 refl refl
by_verdict P false false false true r false p1 p2 p3 p4 p5 p6 p7 = p6 refl refl
by_verdict P false false false false r l p1 p2 p3 p4 p5 p6 p7 = p7 refl

by_tried : (P : Fate → Type 0) (t : Tries) (tried : LastTry) → (t.attempts < t.max → P Retried) → (t.max ≤ t.attempts → P (Reported (cause.GaveUp t.sends tried))) → P (tried_again t tried)
by_tried P t tried w e = if_case P (nat_lt t.attempts t.max) _ _ (λ x. w (ltb-true _ _ x)) (λ x. e (ltb-false _ _ x))

-- ---- by the kind of the answer

success_2xx : (kind : ActionKind) (status : ℕ) (e : Bool) → (not e && is_2xx status) ≡ true → is_success kind status e ≡ true
success_2xx kind status true h = absurd (cc)
success_2xx kind status false h = rw h refl

success_absent : (kind : ActionKind) (status : ℕ) (e b : Bool) → b ≡ is_2xx status → (not e && is_absent kind status) ≡ true → is_success kind status e ≡ true
success_absent kind status true b eb h = absurd (cc)
success_absent kind status false true eb h = rw (sym eb) refl
success_absent kind status false false eb h = rw (sym eb) h

either_false : (a b : Bool) → (a && b) ≡ false → (a ≡ false) ⊎ (b ≡ false)
either_false true b h = inr h
either_false false b h = inl refl

with_other : (t : Tries) (o : Outcome) → (nat_le 2 t.sends && may_be_own (stored_in o.error) t.version) ≡ false → IsWithOther t o
with_other t o h =
    elim (either_false (nat_le 2 t.sends) (may_be_own (stored_in o.error) t.version) h) [
      | inl few ↦ inl (leb-false _ _ few)
      | inr other ↦ inr other
    ]

entry_says : (t : Tries) (ws : List Write) (place : ℕ) (kind : ActionKind) (os : List Outcome) (found : Option Outcome) → slice_get os place ≡ found → matches os ws ≡ true → Says t ws place kind (Items os) (fate_of_entry t kind found no_entry)
entry_says t ws place kind os None e m = by_tried (Says t ws place kind (Items os)) t no_entry (λ lt. (lt, (λ _. ap is_retried_entry e), refl)) (λ le. (refl, le, (λ _. ap is_retried_entry e), refl))
entry_says t ws place kind os (Some o) e m =
    let entry : HasEntry ws place (Items os) o = record { entries = os; answer = refl; matching = m; entry = e } in
    let own : Bool = may_be_own (stored_in o.error) t.version in
    by_verdict (λ v. Says t ws place kind (Items os) (fate_of_verdict t o v))
    (not (is_some o.error) && is_2xx o.status) (not (is_some o.error) && is_absent kind o.status) (is_conflict o.status) (is_retried_item o.status) (nat_le 2 t.sends && own) (nat_lt t.attempts t.max)
    (λ s. (o, entry, success_2xx kind o.status (is_some o.error) s))
    (λ s. (o, entry, success_absent kind o.status (is_some o.error) (is_2xx o.status) refl s))
    (λ s again. (leb-true _ _ (and_left (nat_le 2 t.sends) own again), (o, entry, s, and_right (nat_le 2 t.sends) own again)))
    (λ s other. (o, entry, s, with_other t o other, refl, refl))
    (λ s some. (ltb-true _ _ some, (λ _. ap is_retried_entry e ∙ s), refl))
    (λ s none. (refl, ltb-false _ _ none, (λ _. ap is_retried_entry e ∙ s), refl))
    (λ s. (o, entry, refused_whatever kind o.status (is_some o.error) own t.sends t.attempts t.max s, refl, refl, refl))

items_say : (t : Tries) (ws : List Write) (place : ℕ) (kind : ActionKind) (os : List Outcome) (b : Bool) → matches os ws ≡ b → Says t ws place kind (Items os) (if b then fate_of_entry t kind (slice_get os place) no_entry else tried_again t no_entry)
items_say t ws place kind os true m = entry_says t ws place kind os (slice_get os place) refl m
items_say t ws place kind os false m = by_tried (Says t ws place kind (Items os)) t no_entry (λ lt. (lt, (λ y. absurd (cc (y, m))), refl)) (λ le. (refl, le, (λ y. absurd (cc (y, m))), refl))

-- what is retried unchanged was not too large
small_retried : (status : ℕ) → is_retried_whole status ≡ true → is_too_large status ≡ false
small_retried status y = ⊎_elim {C = is_too_large status ≡ false}
    (λ t. let e = ap is_retried_whole (equal status 413 t) in absurd (cc (y, e)))
    (λ f. f)
    (true_or_false (is_too_large status))

whole_says : (t : Tries) (ws : List Write) (place : ℕ) (kind : ActionKind) (s : ℕ) (given : Option (List ℕ)) → Says t ws place kind (Whole s given) (if is_halved (length ws) s then Halved (length ws / 2) else if is_retried_whole s then tried_again t (last.Whole s) else Reported (cause.Request s (reason_at place given)))
whole_says t ws place kind s given =
    if_case (Says t ws place kind (Whole s given)) (is_halved (length ws) s) _ _
    (λ y. ((given, ap (λ n. Whole n given) (equal s 413 (and_left _ _ y))), leb-true _ _ (and_right (is_too_large s) _ y), refl))
    (λ n. if_case (Says t ws place kind (Whole s given)) (is_retried_whole s) _ _
    (λ y.
    let again = ap (λ b. b || is_retried_whole s) n ∙ y in
    let small = small_retried s y in
    by_tried (Says t ws place kind (Whole s given)) t (last.Whole s) (λ lt. (lt, again, small)) (λ le. (refl, le, again, small)))
    (λ y. ((given, refl, refl), ap (λ b. b || is_retried_whole s) n ∙ y)))

pub fate_says : FateSays
fate_says t ws place kind Unanswered = refl
fate_says t ws place kind (Items os) = items_say t ws place kind os (matches os ws) refl
fate_says t ws place kind (Whole s given) = whole_says t ws place kind s given
fate_says t ws place kind (Lost why) = by_tried (Says t ws place kind (Lost why)) t (last.Lost why) (λ lt. (lt, tt, refl)) (λ le. (refl, le, tt, refl))

-- what it says if it is this fate
pub says_as : (t : Tries) (ws : List Write) (place : ℕ) (kind : ActionKind) (a : Answer) (f : Fate) → fate t ws place kind a ≡ f → Says t ws place kind a f
says_as t ws place kind a f e = subst (λ x. Says t ws place kind a x) e (fate_says t ws place kind a)

-- a request that is halved is sent again
pub halved_retried : (ws : List Write) (place : ℕ) (a : Answer) (reason : Option (List ℕ)) → a ≡ Whole 413 reason → 2 ≤ length ws → IsRetried ws place a
halved_retried ws place a reason e some = subst (λ b. IsRetried ws place b) (sym e) (ap (λ b. b || is_retried_whole 413) (le-leb 2 (length ws) some))

pub answers_end : AnswersEndFlight
answers_end t ws place kind a answered e = answered (says_as t ws place kind a Flies e)

pub retried_tries : RetriedHasTries
retried_tries t ws place kind a e = (says_as t ws place kind a Retried e).0

-- ---- an honest entry is that of a run

each_run : (runs : List Ran) (n start : ℕ) (os : List Outcome) (place : ℕ) (o : Outcome) → EachWasRun runs n start os → slice_get os place ≡ Some o → WasRun runs n (start + place) o
each_run runs n start [] place o h e = absurd (cc)
each_run runs n start (x ∷ os) zero o h e =
    let p : start ≡ start + 0 = omega arith in
    subst (λ m. WasRun runs n m o) p (subst (λ y. WasRun runs n start y) (some_same x o e) h.0)
each_run runs n start (x ∷ os) (suc place) o h e =
    let r = each_run runs n (suc start) os place o h.1 e in
    let p : suc start + place ≡ start + suc place = omega arith in
    subst (λ m. WasRun runs n m o) p r

pub honest_entry : HonestEntryWasRun
honest_entry runs number place ws a o honest e =
    subst (λ n. WasRun runs number n o) (let z : 0 + place ≡ place = omega arith in z)
    (each_run runs number 0 e.entries place o (subst (λ b. IsHonest runs number ws b) e.answer honest e.matching) e.entry)
