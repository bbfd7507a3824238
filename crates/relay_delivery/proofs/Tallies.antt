-- The counts over the places of requests, and what a fate adds to them.
use Rattle.std.proofs.Common.{◌≡◌, ℕ, zero, suc, ◌+◌, ◌≤◌, List, [], ◌∷◌, ◌++◌, Some, Bool, true, false, refl, ap, ◌∙◌, arith, length}
use Rattle.std.specs.Prelude.{◌&&◌, ◌||◌, not, nat_le, nat_lt, slice_get, is_some, if◌then◌else◌}
use Rattle.relay_action.specs.Actions.{kind_of}
use Rattle.relay_action.specs.declared.action.ActionKind.{ActionKind}
use Rattle.relay_action.specs.declared.action.ActionKind.TheVariants as kind
use Rattle.relay_action.specs.declared.write.Write.{Write}
use Rattle.relay_results.specs.declared.cause.Cause.{Cause}
use Rattle.relay_results.specs.declared.cause.Cause.TheVariants as cause
use Rattle.relay_results.specs.declared.outcome.Outcome.{Outcome}
use Rattle.relay_results.specs.Words.{update, count, one_if}
use Rattle.relay_results.specs.Verdicts.{may_be_own, is_2xx, is_absent, is_conflict, is_retried_item}
use Rattle.relay_results.specs.Matching.{matches}
use Rattle.relay_results.specs.Outside.{Answer, Unanswered, Items, Whole, Lost, Request, stored_in}
use Rattle.relay_results.specs.declared.cause.LastTry.{LastTry}
use Rattle.relay_results.specs.Fates.{Fate, Flies, Retried, Halved, Reported, Tries, tried_again, fate_of_item, fate_of_verdict}
use Rattle.relay_results.proofs.Excluded.{by_lines}
use Rattle.relay_results.proofs.Lists.{equal, count-append}
use Rattle.relay_delivery.specs.Causes.{carries}
use Rattle.relay_delivery.specs.Machine.{is_applied_fate, is_already_fate}
use Rattle.relay_delivery.specs.Counts.{PlaceTest, says_applied, says_already, entries_that, places_that, places_from}
use Rattle.relay_delivery.proofs.Dealt.{with_answer}

-- ---- the first of a list

abbrev pub first : {A : Type 0} → ℕ → List A → List A
first zero xs = []
first (suc n) [] = []
first (suc n) (x ∷ xs) = x ∷ first n xs

pub first_left : {A : Type 0} (n : ℕ) (xs ys : List A) → n ≤ length xs → first n (xs ++ ys) ≡ first n xs
first_left zero xs ys le = refl
first_left (suc n) [] ys le = absurd (omega arith)
first_left (suc n) (x ∷ xs) ys le = ap (λ zs. x ∷ zs) (first_left n xs ys (omega arith))

pub first_whole : {A : Type 0} (xs : List A) (y : A) → first (suc (length xs)) (xs ++ y ∷ []) ≡ xs ++ y ∷ []
first_whole [] y = refl
first_whole (x ∷ xs) y = ap (λ zs. x ∷ zs) (first_whole xs y)

pub first_carries : (w : Write) (n m : ℕ) (a : Answer) (qs : List Request) → count (carries w) (first n (update m (with_answer a) qs)) ≡ count (carries w) (first n qs)
first_carries w zero m a qs = refl
first_carries w (suc n) m a [] = refl
first_carries w (suc n) zero a (q ∷ qs) = refl
first_carries w (suc n) (suc m) a (q ∷ qs) = ap (λ k. one_if (carries w q) + k) (first_carries w n m a qs)

append_again : {A : Type 0} (xs : List A) (y : A) (zs : List A) → (xs ++ y ∷ []) ++ zs ≡ xs ++ y ∷ zs
append_again [] y zs = refl
append_again (x ∷ xs) y zs = ap (λ ws. x ∷ ws) (append_again xs y zs)

-- ---- what a count over requests reads of those before: how many carried a write

abbrev pub AsMany : List Request → List Request → Type 0
AsMany xs ys = (w : Write) → count (carries w) xs ≡ count (carries w) ys

entries_same : (test : PlaceTest) (xs ys : List Request) → AsMany xs ys → (ws : List Write) (os : List Outcome) → entries_that test xs ws os ≡ entries_that test ys ws os
entries_same test xs ys same [] os = refl
entries_same test xs ys same (w ∷ ws) [] = refl
entries_same test xs ys same (w ∷ ws) (o ∷ os) = λ i. one_if (test (same w i) w o) + entries_same test xs ys same ws os i

pub places_same : (test : PlaceTest) (xs ys : List Request) → AsMany xs ys → (ws : List Write) (a : Answer) → places_that test xs ws a ≡ places_that test ys ws a
places_same test xs ys same ws Unanswered = refl
places_same test xs ys same ws (Items os) = ap (λ n. if matches os ws then n else 0) (entries_same test xs ys same ws os)
places_same test xs ys same ws (Whole status reason) = refl
places_same test xs ys same ws (Lost why) = refl

as_many-push : (xs ys : List Request) (q r : Request) → AsMany xs ys → q.writes ≡ r.writes → AsMany (xs ++ q ∷ []) (ys ++ r ∷ [])
as_many-push xs ys q r same e w =
    let a = count-append (carries w) xs (q ∷ []) in
    let b = count-append (carries w) ys (r ∷ []) in
    let s = same w in
    let o : one_if (carries w q) ≡ one_if (carries w r) = ap (λ ws. one_if (carries w (record { writes = ws; answer = Unanswered }))) e in
    omega arith

from_same : (test : PlaceTest) (qs xs ys : List Request) → AsMany xs ys → places_from test xs qs ≡ places_from test ys qs
from_same test [] xs ys same = refl
from_same test (q ∷ qs) xs ys same =
    let more = as_many-push xs ys q q same refl in
    λ i. places_same test (xs ++ q ∷ []) (ys ++ q ∷ []) more q.writes q.answer i + from_same test qs (xs ++ q ∷ []) (ys ++ q ∷ []) more i

-- a request that is not answered adds nothing
pub from-push : (test : PlaceTest) (qs before : List Request) (ws : List Write) → places_from test before (qs ++ record { writes = ws; answer = Unanswered } ∷ []) ≡ places_from test before qs
from-push test [] before ws = refl
from-push test (q ∷ qs) before ws = ap (λ n. places_that test (before ++ q ∷ []) q.writes q.answer + n) (from-push test qs (before ++ q ∷ []) ws)

-- an answer adds its places
pub from-answered : (test : PlaceTest) (number : ℕ) (qs before : List Request) (q : Request) (a : Answer) → slice_get qs number ≡ Some q → q.answer ≡ Unanswered
    → places_from test before (update number (with_answer a) qs) ≡ places_from test before qs + places_that test (before ++ first (suc number) qs) q.writes a
from-answered test number [] before q a s e = absurd (cc)
from-answered test zero (x ∷ qs) before q a s e =
    let same : x ≡ q = cc in
    let none : places_that test (before ++ x ∷ []) x.writes x.answer ≡ 0 = ap (places_that test (before ++ x ∷ []) x.writes) (ap (λ (z : Request). z.answer) same ∙ e) in
    let here = places_same test (before ++ with_answer a x ∷ []) (before ++ x ∷ []) (as_many-push before before (with_answer a x) x (λ w. refl) refl) x.writes a in
    let rest = from_same test qs (before ++ with_answer a x ∷ []) (before ++ x ∷ []) (as_many-push before before (with_answer a x) x (λ w. refl) refl) in
    let its = ap (λ (z : Request). places_that test (before ++ x ∷ []) z.writes a) same in
    omega (arith, none, here, rest, its)
from-answered test (suc number) (x ∷ qs) before q a s e =
    let r = from-answered test number qs (before ++ x ∷ []) q a s e in
    let f = ap (λ zs. places_that test zs q.writes a) (append_again before x (first (suc number) qs)) in
    omega (arith, r, f)

-- ---- the fates that a test is about

pub record IsFateOf (test : PlaceTest) (says : Fate → Bool) : Type 0 where
  pub flies : says Flies ≡ false
  pub retried : says Retried ≡ false
  pub halved : (cap : ℕ) → says (Halved cap) ≡ false
  pub reported : (e : Cause) → says (Reported e) ≡ false
  pub item : (t : Tries) (w : Write) (o : Outcome) → t.version ≡ w.version → says (fate_of_item t (kind_of w.action) o) ≡ test t.sends w o

applied_lines : (t : Tries) (o : Outcome) (e x y c b r l : Bool) → is_applied_fate (fate_of_verdict t o (by_lines (not e && x) (not e && y) c b r l)) ≡ (not e && (x || y))
applied_lines t o true x y true b true l = refl
applied_lines t o true x y true b false l = refl
applied_lines t o true x y false true r true = refl
applied_lines t o true x y false true r false = refl
applied_lines t o true x y false false r l = refl
applied_lines t o false true y c b r l = refl
applied_lines t o false false true c b r l = refl
applied_lines t o false false false true b true l = refl
applied_lines t o false false false true b false l = refl
applied_lines t o false false false false true r true = refl
applied_lines t o false false false false true r false = refl
applied_lines t o false false false false false r l = refl

already_lines : (t : Tries) (o : Outcome) (s y c b r l : Bool) → (c ≡ true → s ≡ false) → (c ≡ true → y ≡ false) → is_already_fate (fate_of_verdict t o (by_lines s y c b r l)) ≡ (c && r)
already_lines t o true y true b r l p q = absurd (cc (p refl))
already_lines t o true y false b r l p q = refl
already_lines t o false true true b r l p q = absurd (cc (q refl))
already_lines t o false true false b r l p q = refl
already_lines t o false false true b true l p q = refl
already_lines t o false false true b false l p q = refl
already_lines t o false false false true r true p q = refl
already_lines t o false false false true r false p q = refl
already_lines t o false false false false r l p q = refl

no_success : (e : Bool) → (not e && is_2xx 409) ≡ false
no_success true = refl
no_success false = refl

no_absent : (k : ActionKind) (e : Bool) → (not e && is_absent k 409) ≡ false
no_absent k true = refl
no_absent kind.Index false = refl
no_absent kind.Delete false = refl

pub of_applied : IsFateOf says_applied is_applied_fate
of_applied = record {
  flies = refl;
  retried = refl;
  halved = λ cap. refl;
  reported = λ e. refl;
  item = λ t w o same. applied_lines t o (is_some o.error) (is_2xx o.status) (is_absent (kind_of w.action) o.status) (is_conflict o.status) (is_retried_item o.status)
      (nat_le 2 t.sends && may_be_own (stored_in o.error) t.version) (nat_lt t.attempts t.max);
}

pub of_already : IsFateOf says_already is_already_fate
of_already = record {
  flies = refl;
  retried = refl;
  halved = λ cap. refl;
  reported = λ e. refl;
  item = λ t w o same. already_lines t o (not (is_some o.error) && is_2xx o.status) (not (is_some o.error) && is_absent (kind_of w.action) o.status) (is_conflict o.status) (is_retried_item o.status)
      (nat_le 2 t.sends && may_be_own (stored_in o.error) t.version) (nat_lt t.attempts t.max)
      (λ c. ap (λ n. not (is_some o.error) && is_2xx n) (equal o.status 409 c) ∙ no_success (is_some o.error))
      (λ c. ap (λ n. not (is_some o.error) && is_absent (kind_of w.action) n) (equal o.status 409 c) ∙ no_absent (kind_of w.action) (is_some o.error))
      ∙ ap (λ v. is_conflict o.status && (nat_le 2 t.sends && may_be_own (stored_in o.error) v)) same;
}

pub again_none : (test : PlaceTest) (says : Fate → Bool) → IsFateOf test says → (t : Tries) (tried : LastTry) → says (tried_again t tried) ≡ false
again_none test says is t tried = by (nat_lt t.attempts t.max)
  where
    by : (b : Bool) → says (if b then Retried else Reported (cause.GaveUp t.sends tried)) ≡ false
    by true = is.retried
    by false = is.reported (cause.GaveUp t.sends tried)
