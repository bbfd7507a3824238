-- What the definitions rule out.
use Rattle.std.proofs.Common.{◌≡◌, ◌≢◌, ◌∙◌, ℕ, zero, suc, ◌+◌, ◌≤◌, inl, inr, arith, lit<, List, [], ◌∷◌, Option, Some, None, Bool, true, false, refl, ap, sym, subst, ⊎_elim}
use Rattle.std.specs.Prelude.{◌⊎◌, unwrap_or, is_some, not, length, ◌||◌, ◌&&◌, nat_le, nat_lt, if◌then◌else◌}
use Rattle.relay_action.specs.declared.write.Write.{Write}
use Rattle.relay_action.specs.declared.operation.OpName.{OpName}
use Rattle.relay_results.specs.declared.cause.Cause.{Cause}
use Rattle.relay_results.specs.declared.cause.Cause.TheVariants as cause
use Rattle.relay_results.specs.Documents.{write_for, same_op}
use Rattle.relay_results.specs.Outside.{Answer, Items, Whole, Lost, Request, stored_in, Outside}
use Rattle.relay_action.specs.Actions.{kind_of}
use Rattle.relay_results.specs.declared.decide.ItemVerdict.TheVariants as verdict
use Rattle.relay_results.specs.Verdicts.{may_be_own, is_2xx, is_absent, is_conflict, is_retried_item, is_retried_whole, is_halved}
use Rattle.relay_results.specs.Fates.{kind_in, reason_in, reason_at, says_too_large}
use Rattle.relay_results.proofs.Excluded.{by_lines}
use Rattle.relay_results.proofs.Lists.{apart_tests, equal, none_some, some_same, count_some, at-Mem}
use Rattle.relay_results.proofs.Same.{same_write-self, same_op-true, same_op-self, same_op-joined}
use Rattle.relay_delivery.specs.Causes.{carries, is_try, CarriedAt, IsTrueOf, IsTrueDealt, IsTrueCause, Terms}
use Rattle.relay_action.specs.declared.operation.Op.{Op}
use Rattle.relay_delivery.specs.Schedules.{entry, terms}
use Rattle.relay_results.proofs.Fates.{halved_retried}
use Rattle.relay_delivery.specs.Laws.{request, NoneOfOtherDocument, NoneUnaccepted, NotGivenUpWhenSettled, NotRefusedWithoutStatus, NotRefusedWithoutError, NotRefusedWithoutReason, NotRefusedWhenBusy, NotReportedUnsent, NotRejectedWithoutAnswer, NotRejectedWithoutReason, NotRejectedWhenRetried, NotGivenUpForHalves, NotRejectedWhenHalved, NoConflictAfterTwo, NoConflictWithoutRun, NoConflictWithUnstated, NoneReportedTwice, NoneReportedUntaken, AssignsTwo, NotAssignedTwice}
use Rattle.relay_results.specs.Words.{count, one_if}
use Rattle.relay_delivery.proofs.Dealt.{carries_at}
use Rattle.relay_delivery.proofs.Played.{apart, matches-one, entry-self, carries_self}

pub other_document : NoneOfOtherDocument
other_document accepted k w o other a = other (a.of_document o (inl refl))

pub unaccepted : NoneUnaccepted
unaccepted accepted k w o none a = let m = a.accepted_each o (inl refl) in none m.0 m.1

-- a cause other than Spent is true of the write with the version that was assigned
not_spent : (t : Terms) (s : Outside) (o : Op) (dealt : Option ℕ) (c : Cause) → (c ≡ cause.Spent → ⊥) → IsTrueCause t s o dealt c → IsTrueDealt t.max s o dealt c
not_spent t s o dealt c other h = ⊎_elim (λ d. d) (λ p. absurd (other p.cause_is)) h

of_version : (t : Terms) (s : Outside) (o : Op) (v : ℕ) (c : Cause) → (c ≡ cause.Spent → ⊥) → IsTrueCause t s o (Some v) c → IsTrueOf t.max s (write_for o v) c
of_version t s o v c other h =
    let d = not_spent t s o (Some v) c other h in
    subst (λ u. IsTrueOf t.max s (write_for o u) c) (sym (some_same v d.version d.is_dealt)) d.of_write

pub settled : NotGivenUpWhenSettled
settled o v sends t why tried runs h =
    let w : Write = write_for o v in
    let third : Request = request (w ∷ []) (Items (entry w 200 ∷ [])) in
    let g = of_version t _ o v (cause.GaveUp sends tried) (λ e. cc) h in
    apart_tests (g.each 2 0 third (record { write = w; sent = refl; stands = refl; same = same_write-self w }) (matches-one (entry w 200) w (entry-self w 200)))

pub without_status : NotRefusedWithoutStatus
without_status o dealt t s status kind reason none h =
    let d = (not_spent t s o dealt (cause.Refused status kind reason) (λ e. cc) h).of_write in
    none d.answered.ran.run d.answered.ran.among (d.answered.ran.status ∙ d.status_is)

pub without_error : NotRefusedWithoutError
without_error o dealt t s status kind reason none h =
    let d = (not_spent t s o dealt (cause.Refused status kind reason) (λ e. cc) h).of_write in
    none d.answered.ran.run d.answered.ran.among (ap kind_in d.answered.ran.error ∙ d.kind_is)

pub without_reason : NotRefusedWithoutReason
without_reason o dealt t s status kind reason none h =
    let d = (not_spent t s o dealt (cause.Refused status kind reason) (λ e. cc) h).of_write in
    none d.answered.ran.run d.answered.ran.among (ap reason_in d.answered.ran.error ∙ d.reason_is)

-- by the table, neither a conflict nor a busy index is Refused
no_refusal : (success absent conflict busy r l : Bool) → (conflict ≡ true) ⊎ (busy ≡ true) → by_lines success absent conflict busy r l ≡ verdict.Refused → ⊥
no_refusal true absent conflict busy r l h e = cc
no_refusal false true conflict busy r l h e = cc
no_refusal false false true busy true l h e = cc
no_refusal false false true busy false l h e = cc
no_refusal false false false true r true h e = cc
no_refusal false false false true r false h e = cc
no_refusal false false false false r l h e = ⊎_elim (λ x. apart_tests x) (λ x. apart_tests x) h

pub not_busy : NotRefusedWhenBusy
not_busy o dealt t s status kind reason busy h =
    let d = not_spent t s o dealt (cause.Refused status kind reason) (λ e. cc) h in
    let r = d.of_write in
    let k = kind_of o.action in
    let u = r.outcome.status in
    let e = is_some r.outcome.error in
    no_refusal (not e && is_2xx u) (not e && is_absent k u) (is_conflict u) (is_retried_item u) (nat_le 2 0 && true) (nat_lt 0 0)
    (⊎_elim (λ x. inl (ap is_conflict r.status_is ∙ x)) (λ x. inr (ap is_retried_item r.status_is ∙ x)) busy)
    (r.refused true 0 0 0)

-- what carries it is counted
some_carried : (requests : List Request) (w : Write) (number place : ℕ) (q : Request) → CarriedAt requests w number place q → 1 ≤ count (carries w) requests
some_carried requests w number place q c = count_some (carries w) q requests (at-Mem requests number q c.sent) (carries_at requests number place q w c)

-- what counts as a try carried it
one_try : (b c : Bool) → one_if (b && c) ≤ one_if b
one_try true true = omega arith
one_try true false = omega arith
one_try false c = omega arith

fewer_tries : (w : Write) (qs : List Request) → count (is_try w) qs ≤ count (carries w) qs
fewer_tries w [] = omega arith
fewer_tries w (q ∷ qs) = let r = fewer_tries w qs in let o = one_try (carries w q) (not (says_too_large q.answer)) in omega arith

or_right : (b c : Bool) → c ≡ true → (b || c) ≡ true
or_right true c t = refl
or_right false c t = t

unsent_of : (max : ℕ) (s : Outside) (w : Write) (c : Cause) → 1 ≤ max → count (carries w) s.requests ≡ 0 → IsTrueOf max s w c → ⊥
unsent_of max s w (cause.Refused status kind reason) some none h = let a = h.answered in let n = some_carried s.requests w a.number a.place a.request a.carried in omega (arith, n, none)
unsent_of max s w (cause.Request status reason) some none h = let a = h in let n = some_carried s.requests w a.number a.place a.request a.carried in omega (arith, n, none)
unsent_of max s w (cause.Conflict stored reason) some none h = let a = h.answered in let n = some_carried s.requests w a.number a.place a.request a.carried in omega (arith, n, none)
unsent_of max s w (cause.GaveUp sends tried) some none h = let e = h.enough in let l = fewer_tries w s.requests in omega (arith, e, l, none, some)
unsent_of max s w cause.Spent some none h = h

pub not_unsent : NotReportedUnsent
not_unsent o v t s c some none h = ⊎_elim
    (λ d. absurd (unsent_of t.max s (write_for o v) c some none (subst (λ u. IsTrueOf t.max s (write_for o u) c) (sym (some_same v d.version d.is_dealt)) d.of_write)))
    (λ p. p.cause_is)
    h

pub not_unanswered : NotRejectedWithoutAnswer
not_unanswered o dealt t s status reason none h =
    let a = (not_spent t s o dealt (cause.Request status reason) (λ e. cc) h).of_write in
    none a.number a.request a.given a.carried.sent a.answer

-- a reason that is reported is the one that was given
given_at : (place : ℕ) (reason : List ℕ) (given : Option (List ℕ)) → Some reason ≡ reason_at place given → given ≡ Some reason
given_at zero reason given e = sym e
given_at (suc place) reason given e = absurd (cc)

pub not_without_reason : NotRejectedWithoutReason
not_without_reason o dealt t s status reason none h =
    let a = (not_spent t s o dealt (cause.Request status (Some reason)) (λ e. cc) h).of_write in
    none a.number a.request a.carried.sent (a.answer ∙ ap (Whole status) (given_at a.place reason a.given a.reason_is))

pub not_retried : NotRejectedWhenRetried
not_retried o dealt t s status reason again h =
    let a = (not_spent t s o dealt (cause.Request status reason) (λ e. cc) h).of_write in
    apart_tests (sym a.final ∙ or_right (is_halved (length a.request.writes) status) (is_retried_whole status) again)

-- two of the three do not count
counted_once : (a b c : Bool) → one_if (a && false) + (one_if (b && false) + (one_if (c && true) + 0)) ≤ 1
counted_once true true true = omega arith
counted_once true true false = omega arith
counted_once true false true = omega arith
counted_once true false false = omega arith
counted_once false true true = omega arith
counted_once false true false = omega arith
counted_once false false true = omega arith
counted_once false false false = omega arith

pub not_for_halves : NotGivenUpForHalves
not_for_halves o v deals taken sends x y said why tried runs h =
    let w : Write = write_for o v in
    let g = of_version (terms 2 deals taken) _ o v (cause.GaveUp sends tried) (λ e. cc) h in
    let n = g.enough in
    let l = counted_once (carries w (request (w ∷ x ∷ y ∷ []) (Whole 413 said))) (carries w (request (w ∷ x ∷ []) (Whole 413 said))) (carries w (request (w ∷ []) (Lost why))) in
    omega (arith, n, l)

pub not_when_halved : NotRejectedWhenHalved
not_when_halved o dealt t s reason two h =
    let a = (not_spent t s o dealt (cause.Request 413 reason) (λ e. cc) h).of_write in
    let some = two a.number a.request a.carried.sent in
    apart_tests (sym a.final ∙ halved_retried a.request.writes 0 (Whole 413 a.given) a.given refl some)

pub no_conflict : NoConflictWithoutRun
no_conflict o dealt t s stored reason none h =
    let d = (not_spent t s o dealt (cause.Conflict stored reason) (λ e. cc) h).of_write in
    none d.answered.ran.run d.answered.ran.among (d.answered.ran.status ∙ equal d.outcome.status 409 d.conflict)

pub no_unstated : NoConflictWithUnstated
no_unstated o dealt t s stored reason none h =
    let d = (not_spent t s o dealt (cause.Conflict stored reason) (λ e. cc) h).of_write in
    none d.answered.ran.run d.answered.ran.among (ap stored_in d.answered.ran.error ∙ d.stored_is)

-- both requests carried it
both_carried : (o : Op) (v : ℕ) (first second : Answer) → count (carries (write_for o v)) (request (write_for o v ∷ []) first ∷ request (write_for o v ∷ []) second ∷ []) ≡ 2
both_carried o v first second =
    let a = carries_self (write_for o v) first in
    let b = carries_self (write_for o v) second in
    ap (λ x. one_if x + (one_if (carries (write_for o v) (request (write_for o v ∷ []) second)) + 0)) a ∙ ap (λ x. 1 + (one_if x + 0)) b

pub not_after_two : NoConflictAfterTwo
not_after_two o v t first second runs stored reason own h =
    let d = of_version t _ o v (cause.Conflict stored reason) (λ e. cc) h in
    ⊎_elim
    (λ one. let two = both_carried o v first second in omega (arith, one, two))
    (λ other. apart_tests (sym (sym (ap (λ x. may_be_own x v) d.stored_is) ∙ other) ∙ own))
    d.other

pub none_twice : NoneReportedTwice
none_twice g taken r s ops h = h.once.0 (inl refl)

pub none_untaken : NoneReportedUntaken
none_untaken g taken reports r s ops m none h = let t = h.true_reports r m in none t.op t.was_taken (sym t.name)

-- if the two results are one version, both operations are the same as one of the two
by_places : (R : Type 0) (v : ℕ) (p q r s : Bool) → (p ≡ true → r ≡ true → R) → (q ≡ true → s ≡ true → R)
    → (if p then Some 1 else if q then Some 2 else None) ≡ Some v → (if r then Some 1 else if s then Some 2 else None) ≡ Some v → R
by_places R v true q true s f g a b = f refl refl
by_places R v true q false true f g a b = absurd (apart 1 2 (some_same 1 2 (a ∙ sym b)) (lit< tt))
by_places R v true q false false f g a b = absurd (none_some v b)
by_places R v false true true s f g a b = absurd (apart 1 2 (some_same 1 2 (b ∙ sym a)) (lit< tt))
by_places R v false true false true f g a b = g refl refl
by_places R v false true false false f g a b = absurd (none_some v b)
by_places R v false false r s f g a b = absurd (none_some v a)

pub assigns_two : AssignsTwo
assigns_two a b other = (
  λ x y v p q same. by_places (same_op x y ≡ true) v (same_op x a) (same_op x b) (same_op y a) (same_op y b) (same_op-joined x y a) (same_op-joined x y b) p q,
  (let s = same_op-self a in rw s refl),
  (let s = same_op-self b in rw (other, s) refl),
)

-- one version for two operations of a document
pub not_twice : NotAssignedTwice
not_twice versions a b v same other p q h =
    let t = same_op-true a b (h a b v p q same) in
    other (ap (λ (n : OpName). n.number) t.name)
