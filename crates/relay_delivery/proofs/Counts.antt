-- What is counted as applied, and as already applied, is what the answers say.
use Rattle.std.proofs.Common.{◌≡◌, ℕ, suc, ◌+◌, ◌-◌, ◌≤◌, List, [], ◌∷◌, ◌++◌, Option, Some, None, Bool, true, false, ◌==◌, refl, sym, ap, ◌∙◌, subst, ⊎_elim, inl, inr, arith, length}
use Rattle.std.specs.Prelude.{◌&&◌, nat_le, nat_lt, slice_get, map, if◌then◌else◌, ◌/◌}
use borrow.Author.Tests.{leb-true, leb-false}
use Rattle.std.proofs.lemmas.Bool.{le-leb}
use Rattle.relay_action.specs.Actions.{kind_of}
use Rattle.relay_action.specs.declared.write.Write.{Write}
use Rattle.relay_action.specs.declared.operation.Op.{Op}
use Rattle.relay_results.specs.declared.cause.Cause.TheVariants as cause
use Rattle.relay_results.specs.declared.outcome.Outcome.{Outcome}
use Rattle.relay_results.specs.Words.{Mem, update, count, one_if}
use Rattle.relay_results.specs.Verdicts.{is_halved, is_retried_whole}
use Rattle.relay_results.specs.Matching.{matches}
use Rattle.relay_results.specs.Outside.{Answer, Unanswered, Items, Whole, Lost, Request, Ran, Outside, MayRun, MayAnswer, after}
use Rattle.relay_results.specs.Outside as outside
use Rattle.relay_results.specs.declared.cause.LastTry.TheVariants as last
use Rattle.relay_results.specs.Fates.{Fate, Flies, Applied, Already, Retried, Halved, Reported, Tries, tried_again, no_entry, reason_at, fate, fate_of_entry}
use Rattle.relay_results.proofs.Steps.{step_runs_item}
use Rattle.relay_results.proofs.Lists.{none_some, true_or_false, equal, equal_test, some_same, at-Mem, at-cases, at-within, at-map, map-at, at-update-cases, Mem-left, Mem-right, Mem-cases, Mem-map, map-Mem, count-push, distinct_places, none_at, none_in}
use Rattle.relay_delivery.specs.Causes.{carries}
use Rattle.relay_delivery.specs.Machine.{Config, tries_for, Core, Held, Place, Step, Takes, Sends, Runs, Answers, write_of, held_if, place_of, launched_at, after_launch, kept_one, still_held, writes_or, how_many, is_applied_fate, is_already_fate, settle, step, steps_of, MaySend, MayStep, AllMayStep, IsFresh}
use Rattle.relay_delivery.specs.Counts.{PlaceTest, says_applied, says_already, entries_that, places_that, places_from, applied_answers, settled_already, CountsAlways, CountsWhereItFits}
use Rattle.relay_delivery.proofs.Facts.{AreRising, CoreFacts}
use Rattle.relay_delivery.proofs.Dealt.{with_answer, carries_its}
use Rattle.relay_delivery.proofs.Take.{is_new_held}
use Rattle.relay_delivery.proofs.Send.{no_place, launched_here}
use Rattle.relay_delivery.proofs.Answer.{no_unanswered}
use Rattle.relay_delivery.proofs.Fates.{turn, kept-from, IsHere, away_or_here}
use Rattle.relay_delivery.proofs.Keeps.{fresh_none, none_past, fresh_facts, step_keeps}
use Rattle.relay_delivery.proofs.Tallies.{first, first_left, first_whole, first_carries, from-push, from-answered, IsFateOf, again_none, of_applied, of_already}

-- ---- counts of a list

count_split : {A : Type 0} (p q r : A → Bool) (xs : List A) → ((x : A) → one_if (p x) ≡ one_if (q x) + one_if (r x)) → count p xs ≡ count q xs + count r xs
count_split p q r [] e = refl
count_split p q r (x ∷ xs) e = let h = e x in let t = count_split p q r xs e in omega (arith, h, t)

count_alike : {A : Type 0} (p q : A → Bool) (xs : List A) → ((x : A) → Mem x xs → p x ≡ q x) → count p xs ≡ count q xs
count_alike p q [] e = refl
count_alike p q (x ∷ xs) e = let h = ap one_if (e x (inl refl)) in let t = count_alike p q xs (λ y m. e y (inr m)) in omega (arith, h, t)

count_none : {A : Type 0} (p : A → Bool) (xs : List A) → ((x : A) → Mem x xs → p x ≡ false) → count p xs ≡ 0
count_none p [] none = refl
count_none p (x ∷ xs) none = let h = ap one_if (none x (inl refl)) in let t = count_none p xs (λ y m. none y (inr m)) in omega (arith, h, t)

-- of held operations in ascending order of version, at most one passes
count_only : (p : Held → Bool) (hs : List Held) (h : Held) → AreRising hs → Mem h hs → ((j : Held) → Mem j hs → p j ≡ true → j.version ≡ h.version) → count p hs ≡ one_if (p h)
count_only p [] h r m only = elim m [ ]
count_only p (x ∷ xs) h r m only = ⊎_elim {C = count p (x ∷ xs) ≡ one_if (p h)}
    (λ e.
    let v = ap (λ (z : Held). z.version) e in
    let rest = count_none p xs (λ j mj. ⊎_elim {C = p j ≡ false} (λ t. let lt = r.0 j mj in let w = only j (inr mj) t in absurd (omega (arith, lt, w, v))) (λ f. f) (true_or_false (p j))) in
    let here = ap (λ z. one_if (p z)) e in
    omega (arith, rest, here))
    (λ l.
    let no : p x ≡ false = ⊎_elim {C = p x ≡ false} (λ t. let lt = r.0 h l in let w = only x (inl refl) t in absurd (omega (arith, lt, w))) (λ f. f) (true_or_false (p x)) in
    let head = ap one_if no in
    let rest = count_only p xs h r.1 l (λ j mj t. only j (inr mj) t) in
    omega (arith, rest, head))
    m

-- ---- an answer, place by place

-- it flies in the request, at this place or a later one; or at this one
flies_from : ℕ → ℕ → Option Place → Bool
flies_from number k None = false
flies_from number k (Some f) = (f.request == number) && nat_le k f.place

flies_at : ℕ → ℕ → Option Place → Bool
flies_at number k None = false
flies_at number k (Some f) = (f.request == number) && (f.place == k)

abbrev IsAt : ℕ → ℕ → Place → Type 0
IsAt number k f = (f.request ≡ number) × (f.place ≡ k)

at_true : (number k : ℕ) (f : Option Place) → flies_at number k f ≡ true → f ≡ Some (record { request = number; place = k })
unfolding flies_at
at_true number k None t = absurd (cc)
at_true number k (Some f) t =
    let a = equal f.request number (and-l (f.request == number) (f.place == k) t) in
    let b = equal f.place k (and-r (f.request == number) (f.place == k) t) in
    λ i. Some (record { request = a i; place = b i })
  where
    and-l : (x y : Bool) → (x && y) ≡ true → x ≡ true
    and-l true y e = refl
    and-l false y e = cc

    and-r : (x y : Bool) → (x && y) ≡ true → y ≡ true
    and-r true y e = e
    and-r false y e = cc

at_itself : (number k : ℕ) → flies_at number k (Some (record { request = number; place = k })) ≡ true
unfolding flies_at
at_itself number k = let a = equal_test number number refl in let b = equal_test k k refl in ap (λ x. x && (k == k)) a ∙ b

split_bools : (r le eq lt s : Bool) → one_if le ≡ one_if eq + one_if lt → one_if ((r && le) && s) ≡ one_if ((r && eq) && s) + one_if ((r && lt) && s)
split_bools true le eq lt true e = le_and le eq lt e
  where
    le_and : (a b c : Bool) → one_if a ≡ one_if b + one_if c → one_if (a && true) ≡ one_if (b && true) + one_if (c && true)
    le_and true true true e = absurd (omega (arith, e))
    le_and true true false e = refl
    le_and true false true e = refl
    le_and true false false e = absurd (omega (arith, e))
    le_and false true true e = absurd (omega (arith, e))
    le_and false true false e = absurd (omega (arith, e))
    le_and false false true e = absurd (omega (arith, e))
    le_and false false false e = refl
split_bools true le eq lt false e = le_none le eq lt
  where
    le_none : (a b c : Bool) → one_if (a && false) ≡ one_if (b && false) + one_if (c && false)
    le_none true true true = refl
    le_none true true false = refl
    le_none true false true = refl
    le_none true false false = refl
    le_none false true true = refl
    le_none false true false = refl
    le_none false false true = refl
    le_none false false false = refl
split_bools false le eq lt s e = refl

le_bools : (a b c : Bool) (k p : ℕ) → nat_le k p ≡ a → (p == k) ≡ b → nat_le (suc k) p ≡ c → one_if a ≡ one_if b + one_if c
le_bools true true true k p x y z = let e = equal p k y in let l = leb-true _ _ z in absurd (omega (arith, e, l))
le_bools true true false k p x y z = refl
le_bools true false true k p x y z = refl
le_bools true false false k p x y z =
    let l = leb-true _ _ x in let m = leb-false _ _ z in
    let e = equal_test p k (omega (arith, l, m)) in absurd (cc (e, y))
le_bools false true true k p x y z = let m = leb-false _ _ x in let l = leb-true _ _ z in absurd (omega (arith, m, l))
le_bools false true false k p x y z = let m = leb-false _ _ x in let e = equal p k y in absurd (omega (arith, m, e))
le_bools false false true k p x y z = let m = leb-false _ _ x in let l = leb-true _ _ z in absurd (omega (arith, m, l))
le_bools false false false k p x y z = refl

split_at : (number k : ℕ) (f : Option Place) (s : Bool) → one_if (flies_from number k f && s) ≡ one_if (flies_at number k f && s) + one_if (flies_from number (suc k) f && s)
unfolding flies_at flies_from
split_at number k None s = refl
split_at number k (Some f) s = split_bools (f.request == number) (nat_le k f.place) (f.place == k) (nat_le (suc k) f.place) s (le_bools (nat_le k f.place) (f.place == k) (nat_le (suc k) f.place) k f.place refl refl refl)

-- what holds of the counts in addition to CoreFacts: each is that of the answers, what flies was
-- carried by no later request, and at each place of a request in flight a held operation flies
pub record IsAtPlace (held : List Held) (w : Write) (f : Place) : Type 0 where
  pub held_op : Held
  pub is_in : Mem held_op held
  pub flies : held_op.flies ≡ Some f
  pub write : write_of held_op ≡ w

pub record Counted (requests : List Request) (held : List Held) (applied already : ℕ) : Type 0 where
  pub applied_is : applied ≡ applied_answers requests
  pub already_is : already ≡ settled_already requests
  pub last_sent : (h : Held) (f : Place) → Mem h held → h.flies ≡ Some f → count (carries (write_of h)) (first (suc f.request) requests) ≡ h.sends
  pub each_flies : (number place : ℕ) (q : Request) (w : Write) → slice_get requests number ≡ Some q → q.answer ≡ Unanswered → slice_get q.writes place ≡ Some w
      → IsAtPlace held w (record { request = number; place = place })

-- ---- take

take_counted : (g : Config) (c : Core) (o : Op) → Counted c.outside.requests c.held c.applied c.already → Counted c.outside.requests (step g (Takes o) c).held c.applied c.already
take_counted g c o k =
    let b = nat_lt (length c.taken) g.deals in
    let more = held_if b g (length c.taken) o in
    record {
      applied_is = k.applied_is;
      already_is = k.already_is;
      last_sent = λ h f m e. ⊎_elim {C = count (carries (write_of h)) (first (suc f.request) c.outside.requests) ≡ h.sends}
          (λ old. k.last_sent h f old e)
          (λ new. let n = is_new_held b g (length c.taken) o h new in let x = ap (λ (z : Held). z.flies) n.1 in absurd (cc (x, e)))
          (Mem-cases h c.held more m);
      each_flies = λ number place q w s u at. let y = k.each_flies number place q w s u at in record { held_op = y.held_op; is_in = Mem-left y.held_op c.held more y.is_in; flies = y.flies; write = y.write };
    }

-- ---- send

module _ (g : Config) (c : Core) (facts : CoreFacts g (none_past g) c) (k : Counted c.outside.requests c.held c.applied c.already) (chosen : List Held) (may : MaySend c chosen) where
  abbrev rs : List Request
  rs = c.outside.requests

  abbrev new : Request
  new = record { writes = map write_of chosen; answer = Unanswered }

  launched_last : (h : Held) (f : Place) (p : Option ℕ) → place_of h.version chosen ≡ p → Mem h c.held → (launched_at (length rs) h p).flies ≡ Some f
      → count (carries (write_of h)) (first (suc f.request) (rs ++ new ∷ [])) ≡ (launched_at (length rs) h p).sends
  launched_last h f None e m fl =
      let y = (facts.held h m).flying f fl in
      let lt = at-within rs f.request y.request y.sent in
      ap (count (carries (write_of h))) (first_left (suc f.request) rs (new ∷ []) (omega (arith, lt))) ∙ k.last_sent h f m fl
  launched_last h f (Some place) e m fl =
      let l = launched_here g (none_past g) c facts chosen may h m place e in
      let n : length rs ≡ f.request = ap (λ (z : Place). z.request) (some_same (record { request = length rs; place = place }) f fl) in
      let carried = carries_its (write_of h) new (map-Mem write_of h chosen (at-Mem chosen place h l.stands)) in
      let x = count-push (carries (write_of h)) rs new in
      let o = ap one_if carried in
      let s = (facts.held h m).sends in
      let whole = ap (λ i. count (carries (write_of h)) (first (suc i) (rs ++ new ∷ []))) (sym n) ∙ ap (count (carries (write_of h))) (first_whole rs new) in
      omega (arith, x, o, s, whole)

  launched_write : (n : ℕ) (h : Held) (p : Option ℕ) → write_of (launched_at n h p) ≡ write_of h
  launched_write n h None = refl
  launched_write n h (Some p) = refl

  -- what flies was not chosen
  stays_flying : (h : Held) (f : Place) (p : Option ℕ) → place_of h.version chosen ≡ p → Mem h c.held → h.flies ≡ Some f → (launched_at (length rs) h p).flies ≡ Some f
  stays_flying h f None e m fl = fl
  stays_flying h f (Some place) e m fl = let l = launched_here g (none_past g) c facts chosen may h m place e in let w = l.waits in absurd (cc (w, fl))

  new_flies : (h : Held) (place : ℕ) (p : Option ℕ) → place_of h.version chosen ≡ p → Mem h c.held → slice_get chosen place ≡ Some h → (launched_at (length rs) h p).flies ≡ Some (record { request = length rs; place = place })
  new_flies h place None e m s = absurd (no_place chosen h.version e h (at-Mem chosen place h s) refl)
  new_flies h place (Some at) e m s =
      let l = launched_here g (none_past g) c facts chosen may h m at e in
      let same = distinct_places (map (λ (j : Held). j.version) chosen) at place h.version may.distinct (at-map (λ (j : Held). j.version) chosen at h l.stands) (at-map (λ (j : Held). j.version) chosen place h s) in
      λ i. Some (record { request = length rs; place = same i })

  send_counted : Counted (rs ++ new ∷ []) (map (after_launch (length rs) chosen) c.held) c.applied c.already
  send_counted = record {
    applied_is = k.applied_is ∙ sym (from-push says_applied rs [] (map write_of chosen));
    already_is = k.already_is ∙ sym (from-push says_already rs [] (map write_of chosen));
    last_sent = λ h f m e.
        let x = Mem-map (after_launch (length rs) chosen) h c.held m in
        let y = launched_last x.0 f (place_of x.0.version chosen) refl x.1 (sym (ap (λ (z : Held). z.flies) x.2) ∙ e) in
        ap (λ w. count (carries w) (first (suc f.request) (rs ++ new ∷ []))) (ap write_of x.2 ∙ launched_write (length rs) x.0 (place_of x.0.version chosen)) ∙ y ∙ sym (ap (λ (z : Held). z.sends) x.2);
    each_flies = λ number place q w s u at. ⊎_elim {C = IsAtPlace (map (after_launch (length rs) chosen) c.held) w (record { request = number; place = place })}
        (λ old.
        let y = k.each_flies number place q w old u at in
        record {
          held_op = after_launch (length rs) chosen y.held_op;
          is_in = map-Mem (after_launch (length rs) chosen) y.held_op c.held y.is_in;
          flies = stays_flying y.held_op (record { request = number; place = place }) (place_of y.held_op.version chosen) refl y.is_in y.flies;
          write = launched_write (length rs) y.held_op (place_of y.held_op.version chosen) ∙ y.write;
        })
        (λ r.
        let at' : slice_get (map write_of chosen) place ≡ Some w = subst (λ (z : Request). slice_get z.writes place ≡ Some w) r.1 at in
        let h = map-at write_of chosen place w at' in
        let m = (may.eligible h.0 (at-Mem chosen place h.0 h.1)).is_held in
        record {
          held_op = after_launch (length rs) chosen h.0;
          is_in = map-Mem (after_launch (length rs) chosen) h.0 c.held m;
          flies = new_flies h.0 place (place_of h.0.version chosen) refl m h.1 ∙ (λ i. Some (record { request = sym r.0 i; place = place }));
          write = launched_write (length rs) h.0 (place_of h.0.version chosen) ∙ h.2;
        })
        (at-cases rs new number q s);
  }

-- ---- run

run_counted : (g : Config) (c : Core) (r : Ran) → MayRun c.outside r → Counted c.outside.requests c.held c.applied c.already → Counted (step g (Runs r) c).outside.requests c.held c.applied c.already
run_counted g c r may k = subst (λ qs. Counted qs c.held c.applied c.already) (sym (step_runs_item c.outside (after (outside.Runs r) c.outside) (record { run = r; may = may; reached = refl })).requests) k

-- ---- what an answer adds

and_false : (x y : Bool) → y ≡ false → (x && y) ≡ false
and_false true y e = e
and_false false y e = refl

and_first : (x y : Bool) → (x && y) ≡ true → x ≡ true
and_first true y e = refl
and_first false y e = cc

from_place : (number k p : ℕ) (f : Option Place) → flies_from number k f ≡ true → f ≡ Some (record { request = number; place = p }) → k ≤ p
unfolding flies_from
from_place number k p None t e = absurd (cc)
from_place number k p (Some f) t e =
    let s = ap (λ (z : Place). z.place) (some_same f (record { request = number; place = p }) e) in
    let l = leb-true _ _ (second (f.request == number) (nat_le k f.place) t) in omega (arith, s, l)
  where
    second : (x y : Bool) → (x && y) ≡ true → y ≡ true
    second true y e = e
    second false y e = cc

from_start : (number p : ℕ) → flies_from number 0 (Some (record { request = number; place = p })) ≡ true
unfolding flies_from
from_start number p = let a = equal_test number number refl in ap (λ x. x && nat_le 0 p) a ∙ le-leb 0 p (omega arith)

module _ (allowed : ℕ → ℕ) (number : ℕ) (ws : List Write) (a : Answer) (hs : List Held) (test : PlaceTest) (says : Fate → Bool) (is : IsFateOf test says) (sent : List Request) (rising : AreRising hs)
    (its : (h : Held) → Mem h hs → (w : IsHere allowed number ws a h) → slice_get ws w.place ≡ Some (write_of h)) (sends : (h : Held) → Mem h hs → IsHere allowed number ws a h → count (carries (write_of h)) sent ≡ h.sends)
    (each : (place : ℕ) (w : Write) → slice_get ws place ≡ Some w → IsAtPlace hs w (record { request = number; place = place })) where
  abbrev tries : Held → Tries
  tries h = record { version = h.version; sends = h.sends; attempts = h.attempts; max = allowed h.version }

  quiet : ((h : Held) → Mem h hs → IsHere allowed number ws a h → says (turn allowed number ws a h) ≡ false) → count (λ (h : Held). says (turn allowed number ws a h)) hs ≡ 0
  quiet none = count_none (λ (h : Held). says (turn allowed number ws a h)) hs (λ h m. ⊎_elim {C = says (turn allowed number ws a h) ≡ false} (λ w. ap says w.stays ∙ is.flies) (λ w. none h m w) (away_or_here allowed number ws a h))

  module _ (os : List Outcome) (ea : a ≡ Items os) (matching : matches os ws ≡ true) where
    here_says : (h : Held) (w : IsHere allowed number ws a h) (found : Option Outcome) → slice_get os w.place ≡ found → says (turn allowed number ws a h) ≡ says (fate_of_entry (tries h) (kind_of h.op.action) found no_entry)
    here_says h w found e = ap says (w.fate_is ∙ ap (fate (tries h) ws w.place (kind_of h.op.action)) ea ∙ ap (λ b. if b then fate_of_entry (tries h) (kind_of h.op.action) (slice_get os w.place) no_entry else tried_again (tries h) no_entry) matching ∙ ap (λ f. fate_of_entry (tries h) (kind_of h.op.action) f no_entry) e)

    abbrev later : ℕ → Held → Bool
    later k h = flies_from number k h.flies && says (turn allowed number ws a h)

    abbrev here : ℕ → Held → Bool
    here k h = flies_at number k h.flies && says (turn allowed number ws a h)

    past : (k : ℕ) → ((h : Held) → Mem h hs → (w : IsHere allowed number ws a h) → k ≤ w.place → says (turn allowed number ws a h) ≡ false) → count (later k) hs ≡ 0
    past k none = count_none (later k) hs (λ h m. ⊎_elim {C = later k h ≡ false}
        (λ w. and_false (flies_from number k h.flies) _ (ap says w.stays ∙ is.flies))
        (λ w. ⊎_elim {C = later k h ≡ false}
        (λ t. and_false (flies_from number k h.flies) _ (none h m w (from_place number k w.place h.flies (and_first (flies_from number k h.flies) _ t) w.flies)))
        (λ f. f)
        (true_or_false (later k h)))
        (away_or_here allowed number ws a h))

    -- the operation that flies at the place
    one_here : (k : ℕ) (v : Write) (o : Outcome) → slice_get ws k ≡ Some v → slice_get os k ≡ Some o → count (here k) hs ≡ one_if (test (count (carries v) sent) v o)
    one_here k v o sv so =
        let y = each k v sv in
        let only = count_only (here k) hs y.held_op rising y.is_in (λ j mj t.
        let fl = at_true number k j.flies (and_first (flies_at number k j.flies) _ t) in
        ⊎_elim {C = j.version ≡ y.held_op.version}
        (λ w. absurd (w.elsewhere k fl))
        (λ w.
        let p : w.place ≡ k = ap (λ (z : Place). z.place) (some_same (record { request = number; place = w.place }) (record { request = number; place = k }) (sym w.flies ∙ fl)) in
        let e : write_of j ≡ v = some_same (write_of j) v (sym (its j mj w) ∙ ap (slice_get ws) p ∙ sv) in
        ap (λ (z : Write). z.version) (e ∙ sym y.write))
        (away_or_here allowed number ws a j)) in
        let at : flies_at number k y.held_op.flies ≡ true = ap (flies_at number k) y.flies ∙ at_itself number k in
        let value : here k y.held_op ≡ test (count (carries v) sent) v o = ap (λ b. b && says (turn allowed number ws a y.held_op)) at
        ∙ ⊎_elim {C = says (turn allowed number ws a y.held_op) ≡ test (count (carries v) sent) v o}
        (λ w. absurd (w.elsewhere k y.flies))
        (λ w.
        let p : w.place ≡ k = ap (λ (z : Place). z.place) (some_same (record { request = number; place = w.place }) (record { request = number; place = k }) (sym w.flies ∙ y.flies)) in
        here_says y.held_op w (Some o) (ap (slice_get os) p ∙ so) ∙ is.item (tries y.held_op) (write_of y.held_op) o refl
        ∙ ap (λ n. test n (write_of y.held_op) o) (sym (sends y.held_op y.is_in w))
        ∙ ap (λ z. test (count (carries z) sent) z o) y.write)
        (away_or_here allowed number ws a y.held_op) in
        only ∙ ap one_if value

    tail : (k : ℕ) (vs : List Write) (ps : List Outcome) → ((i : ℕ) → slice_get ws (k + i) ≡ slice_get vs i) → ((i : ℕ) → slice_get os (k + i) ≡ slice_get ps i) → count (later k) hs ≡ entries_that test sent vs ps
    tail k [] ps ev ep = past k (λ h m w le.
        let e : k + (w.place - k) ≡ w.place = omega (arith, le) in
        absurd (none_some (write_of h) (sym (ev (w.place - k)) ∙ ap (slice_get ws) e ∙ its h m w)))
    tail k (v ∷ vs) [] ev ep = past k (λ h m w le.
        let e : k + (w.place - k) ≡ w.place = omega (arith, le) in
        here_says h w None (ap (slice_get os) (sym e) ∙ ep (w.place - k)) ∙ again_none test says is (tries h) no_entry)
    tail k (v ∷ vs) (o ∷ ps) ev ep =
        let z : k ≡ k + 0 = omega arith in
        let head = one_here k v o (ap (slice_get ws) z ∙ ev 0) (ap (slice_get os) z ∙ ep 0) in
        let rest = tail (suc k) vs ps (λ i. let e : suc k + i ≡ k + suc i = omega arith in ap (slice_get ws) e ∙ ev (suc i)) (λ i. let e : suc k + i ≡ k + suc i = omega arith in ap (slice_get os) e ∙ ep (suc i)) in
        let split = count_split (later k) (here k) (later (suc k)) hs (λ h. split_at number k h.flies (says (turn allowed number ws a h))) in
        omega (arith, head, rest, split)

    whole : count (λ (h : Held). says (turn allowed number ws a h)) hs ≡ entries_that test sent ws os
    whole = count_alike (λ (h : Held). says (turn allowed number ws a h)) (later 0) hs (λ h m. ⊎_elim {C = says (turn allowed number ws a h) ≡ later 0 h}
        (λ w. let n = ap says w.stays ∙ is.flies in n ∙ sym (and_false (flies_from number 0 h.flies) _ n))
        (λ w. sym (ap (λ b. b && says (turn allowed number ws a h)) (ap (flies_from number 0) w.flies ∙ from_start number w.place)))
        (away_or_here allowed number ws a h)) ∙ tail 0 ws os (λ i. let e : 0 + i ≡ i = omega arith in ap (slice_get ws) e) (λ i. let e : 0 + i ≡ i = omega arith in ap (slice_get os) e)

  items_by : (os : List Outcome) (b : Bool) → a ≡ Items os → matches os ws ≡ b → count (λ (h : Held). says (turn allowed number ws a h)) hs ≡ (if b then entries_that test sent ws os else 0)
  items_by os true ea m = whole os ea m
  items_by os false ea m = quiet (λ h mh w. ap says (w.fate_is ∙ ap (fate (tries h) ws w.place (kind_of h.op.action)) ea ∙ ap (λ b. if b then fate_of_entry (tries h) (kind_of h.op.action) (slice_get os w.place) no_entry else tried_again (tries h) no_entry) m) ∙ again_none test says is (tries h) no_entry)

  whole_none : (t : Tries) (s n : ℕ) (reason : Option (List ℕ)) (x y : Bool) → says (if x then Halved n else if y then tried_again t (last.Whole s) else Reported (cause.Request s reason)) ≡ false
  whole_none t s n reason true y = is.halved n
  whole_none t s n reason false true = again_none test says is t (last.Whole s)
  whole_none t s n reason false false = is.reported (cause.Request s reason)

  tally_of : (b : Answer) → a ≡ b → count (λ (h : Held). says (turn allowed number ws a h)) hs ≡ places_that test sent ws b
  tally_of Unanswered e = quiet (λ h m w. ap says (w.fate_is ∙ ap (fate (tries h) ws w.place (kind_of h.op.action)) e) ∙ is.flies)
  tally_of (Items os) e = items_by os (matches os ws) e refl
  tally_of (Whole s given) e = quiet (λ h m w. ap says (w.fate_is ∙ ap (fate (tries h) ws w.place (kind_of h.op.action)) e) ∙ whole_none (tries h) s (length ws / 2) (reason_at w.place given) (is_halved (length ws) s) (is_retried_whole s))
  tally_of (Lost why) e = quiet (λ h m w. ap says (w.fate_is ∙ ap (fate (tries h) ws w.place (kind_of h.op.action)) e) ∙ again_none test says is (tries h) (last.Lost why))

  pub tally : how_many says allowed number ws a hs ≡ places_that test sent ws a
  tally = tally_of a refl

-- ---- answer

stays_head : (t : Fate) (h : Held) → t ≡ Flies → Mem h (kept_one t h)
stays_head Flies h e = inl refl
stays_head Applied h e = absurd (cc)
stays_head Already h e = absurd (cc)
stays_head Retried h e = absurd (cc)
stays_head (Halved cap) h e = absurd (cc)
stays_head (Reported cause) h e = absurd (cc)

pub stays_in : (allowed : ℕ → ℕ) (number : ℕ) (ws : List Write) (a : Answer) (hs : List Held) (h : Held) → Mem h hs → turn allowed number ws a h ≡ Flies → Mem h (still_held allowed number ws a hs)
stays_in allowed number ws a [] h m e = elim m [ ]
stays_in allowed number ws a (x ∷ hs) h m e = ⊎_elim {C = Mem h (still_held allowed number ws a (x ∷ hs))}
    (λ s. Mem-left h (kept_one (turn allowed number ws a x) x) (still_held allowed number ws a hs) (subst (λ z. Mem z (kept_one (turn allowed number ws a x) x)) (sym s) (stays_head (turn allowed number ws a x) x (ap (turn allowed number ws a) (sym s) ∙ e))))
    (λ l. Mem-right h (kept_one (turn allowed number ws a x) x) (still_held allowed number ws a hs) (stays_in allowed number ws a hs h l e))
    m

module _ (g : Config) (c : Core) (facts : CoreFacts g (none_past g) c) (k : Counted c.outside.requests c.held c.applied c.already) (number : ℕ) (q : Request) (stands : slice_get c.outside.requests number ≡ Some q) (unanswered : q.answer ≡ Unanswered) (a : Answer) (answered : a ≡ Unanswered → ⊥) (old : ℕ → Bool) where
  abbrev allowed : ℕ → ℕ
  allowed = tries_for g old

  abbrev requests : List Request
  requests = c.outside.requests

  its_write : (h : Held) → Mem h c.held → (w : IsHere allowed number q.writes a h) → slice_get q.writes w.place ≡ Some (write_of h)
  its_write h m w =
      let v = (facts.held h m).flying (record { request = number; place = w.place }) w.flies in
      let e : v.request ≡ q = some_same v.request q (sym v.sent ∙ stands) in
      subst (λ (z : Request). slice_get z.writes w.place ≡ Some (write_of h)) e v.stands

  added : (test : PlaceTest) (says : Fate → Bool) → IsFateOf test says → places_from test [] (update number (with_answer a) requests) ≡ places_from test [] requests + how_many says allowed number q.writes a c.held
  added test says is =
      let t = tally allowed number q.writes a c.held test says is (first (suc number) requests) facts.in_rise its_write (λ h m w. k.last_sent h (record { request = number; place = w.place }) m w.flies) (λ place w s. k.each_flies number place q w stands unanswered s) in
      let f = from-answered test number requests [] q a stands unanswered in
      f ∙ ap (λ n. places_from test [] requests + n) (sym t)

  settled_counted : Counted (update number (with_answer a) requests) (still_held allowed number q.writes a c.held) (c.applied + how_many is_applied_fate allowed number q.writes a c.held) (c.already + how_many is_already_fate allowed number q.writes a c.held)
  settled_counted = record {
    applied_is = ap (λ n. n + how_many is_applied_fate allowed number q.writes a c.held) k.applied_is ∙ sym (added says_applied is_applied_fate of_applied);
    already_is = ap (λ n. n + how_many is_already_fate allowed number q.writes a c.held) k.already_is ∙ sym (added says_already is_already_fate of_already);
    last_sent = λ h f m e.
        let x = kept-from allowed number q.writes a c.held h m in
        ⊎_elim {C = count (carries (write_of h)) (first (suc f.request) (update number (with_answer a) requests)) ≡ h.sends}
        (λ y. first_carries (write_of h) (suc f.request) number a requests ∙ subst (λ z. count (carries (write_of z)) (first (suc f.request) requests) ≡ z.sends) (sym y.1) (k.last_sent x.0 f x.1 (ap (λ (z : Held). z.flies) (sym y.1) ∙ e)))
        (λ s. ⊎_elim {C = count (carries (write_of h)) (first (suc f.request) (update number (with_answer a) requests)) ≡ h.sends}
        (λ y. let n = ap (λ (z : Held). z.flies) y.1 in absurd (cc (n, e)))
        (λ y. let n = ap (λ (z : Held). z.flies) y.2 in absurd (cc (n, e)))
        s)
        x.2;
    each_flies = λ m place p w s u at. ⊎_elim {C = IsAtPlace (still_held allowed number q.writes a c.held) w (record { request = m; place = place })}
        (λ l.
        let y = k.each_flies m place p w l.1 u at in
        ⊎_elim {C = IsAtPlace (still_held allowed number q.writes a c.held) w (record { request = m; place = place })}
        (λ z. record { held_op = y.held_op; is_in = stays_in allowed number q.writes a c.held y.held_op y.is_in z.stays; flies = y.flies; write = y.write })
        (λ z. absurd (l.0 (ap (λ (f : Place). f.request) (some_same (record { request = m; place = place }) (record { request = number; place = z.place }) (sym y.flies ∙ z.flies)))))
        (away_or_here allowed number q.writes a y.held_op))
        (λ r. absurd (answered (sym (ap (λ (z : Request). z.answer) r.1.2) ∙ u)))
        (at-update-cases number (with_answer a) requests m p s);
  }

-- ---- steps

abbrev CountedCore : Core → Type 0
CountedCore c = Counted c.outside.requests c.held c.applied c.already

answer_counted : (g : Config) (c : Core) (facts : CoreFacts g (none_past g) c) → CountedCore c → (number : ℕ) (a : Answer) (old : ℕ → Bool) → MayAnswer c.outside number a → CountedCore (settle g number a old c)
answer_counted g c facts k number a old may =
    subst (λ p. Counted (update number (with_answer a) c.outside.requests) (still_held (tries_for g old) number (writes_or p) a c.held) (c.applied + how_many is_applied_fate (tries_for g old) number (writes_or p) a c.held) (c.already + how_many is_already_fate (tries_for g old) number (writes_or p) a c.held)) (sym may.sent)
    (settled_counted g c facts k number may.request may.sent may.open_yet a (no_unanswered c.outside.runs number may.request.writes a may.honest) old)

step_counted : (g : Config) (c : Core) (s : Step) → CoreFacts g (none_past g) c → CountedCore c → MayStep s c → CountedCore (step g s c)
step_counted g c (Takes o) facts k may = take_counted g c o k
step_counted g c (Sends chosen) facts k may = send_counted g c facts k chosen may
step_counted g c (Runs r) facts k may = run_counted g c r may k
step_counted g c (Answers number a old) facts k may = answer_counted g c facts k number a old may

steps_counted : (g : Config) (ss : List Step) (c : Core) → CoreFacts g (none_past g) c → CountedCore c → AllMayStep g ss c → CountedCore (steps_of g ss c)
steps_counted g [] c facts k may = k
steps_counted g (s ∷ ss) c facts k may = steps_counted g ss (step g s c) (step_keeps g (none_past g) c facts s may.0) (step_counted g c s facts k may.0) may.1

fresh_counted : (g : Config) (c : Core) → IsFresh g c → CountedCore c
fresh_counted g c s = record {
  applied_is = s.new.applied ∙ sym (ap applied_answers s.new.opening.requests);
  already_is = s.new.already ∙ sym (ap settled_already s.new.opening.requests);
  last_sent = λ h f m e. absurd (none_in c.held h s.new.held m);
  each_flies = λ number place q w at u p. absurd (none_at c.outside.requests number q s.new.opening.requests at);
}

pub counts_always : CountsAlways
counts_always g c r =
    let k = subst (λ d. CountedCore d) r.reached (steps_counted g r.steps r.start (fresh_none g r.start r.fresh) (fresh_counted g r.start r.fresh) r.may) in
    (k.applied_is, k.already_is)

pub counts_where : CountsWhereItFits
counts_where s taken out f =
    let k = counts_always s.config f.core f.came_about in (
      f.is_of.applied ∙ k.0 ∙ ap (λ (o : Outside). applied_answers o.requests) f.outside,
      f.is_of.already ∙ k.1 ∙ ap (λ (o : Outside). settled_already o.requests) f.outside,
    )
