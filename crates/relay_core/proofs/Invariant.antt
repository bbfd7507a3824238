-- The invariant after an answer.
use Rattle.std.proofs.Common.{◌≡◌, ℕ, ◌+◌, ◌-◌, ◌<◌, ◌≤◌, List, [], ◌∷◌, ◌++◌, Option, Some, None, Bool, true, false, ◌==◌, ◌&&◌, ◌||◌, refl, sym, ap, ◌∙◌, subst, ⊎_elim, arith, drop, length}
use Rattle.std.specs.Prelude.{if◌then◌else◌, not, nat_lt, nat_le, slice_get, is_some}
use borrow.Author.Tests.{ltb-true}
use Rattle.relay_action.specs.declared.write.Write.{Write}
use Rattle.relay_action.specs.declared.action.ActionKind.{ActionKind}
use Rattle.relay_results.specs.declared.outcome.Outcome.{Outcome}
use Rattle.relay_results.specs.declared.decide.ItemVerdict.{ItemVerdict}
use Rattle.relay_results.specs.declared.decide.ItemVerdict.TheVariants as verdict
use Rattle.relay_results.specs.declared.cause.LastTry.{LastTry}
use Rattle.relay_results.specs.Fates.{Fate, Flies, Applied, Already, Retried, Halved, Reported, Tries, fate_of_entry, fate_of_verdict}
use Rattle.relay_results.specs.Documents.{is_delete}
use Rattle.relay_results.specs.Outside.{stored_in}
use Rattle.relay_results.specs.Verdicts.{may_be_own, verdict_of}
use Rattle.relay_delivery.specs.Lane.{backoff}
use Rattle.relay_results.proofs.Lists.{true_or_false, equal, and_right}
use Rattle.relay_held.specs.declared.kept.Kept.{Kept}
use Rattle.relay_core.specs.declared.fates.Way.{Way}
use Rattle.relay_flight.specs.declared.request.Request.{Request}
use Rattle.relay_flight.specs.InFlight.{others}
use Rattle.relay_held.specs.declared.kept.Spot.{Spot}
use Rattle.relay_core.specs.declared.fates.Way.TheVariants as way
use Rattle.relay_delivery.specs.Bound.{halvings}
use Rattle.relay_delivery.proofs.Halving.{halvings-half}
use Rattle.relay_core.specs.Walk.{flies_here, fate_or, fate_met, met_maybe, kept_walk}
use Rattle.relay_core.specs.Memory.{is_in, writes_in, Given, further, rest_if, IsMet, IsWriteOf, IsHome, IsKept, AllKept, IsReadable, Carries, HasRoom, AreFew, IsHalf, tries_left, AllAbove, AllUnder, Rises}
use Rattle.relay_core.proofs.Settling.{rest_drop, met_ends, settles}
use Rattle.relay_core.proofs.Keeping.{without_other, elsewhere, given_any, carries_past}

-- ---- versions

above_met : (clock v : ℕ) (x : Fate) (h : Kept) (w : Option Write) (rest : List Kept) → v < h.version → AllAbove v rest → AllAbove v (met_maybe clock x w (h ∷ []) ++ rest)
above_met clock v x h None rest lt a = a
above_met clock v Flies h (Some w) rest lt a = (lt, a)
above_met clock v Applied h (Some w) rest lt a = a
above_met clock v Already h (Some w) rest lt a = a
above_met clock v Retried h (Some w) rest lt a = (lt, a)
above_met clock v (Halved cap) h (Some w) rest lt a = (lt, a)
above_met clock v (Reported c) h (Some w) rest lt a = a

under_met : (clock v : ℕ) (x : Fate) (h : Kept) (w : Option Write) (rest : List Kept) → h.version < v → AllUnder v rest → AllUnder v (met_maybe clock x w (h ∷ []) ++ rest)
under_met clock v x h None rest lt a = a
under_met clock v Flies h (Some w) rest lt a = (lt, a)
under_met clock v Applied h (Some w) rest lt a = a
under_met clock v Already h (Some w) rest lt a = a
under_met clock v Retried h (Some w) rest lt a = (lt, a)
under_met clock v (Halved cap) h (Some w) rest lt a = (lt, a)
under_met clock v (Reported c) h (Some w) rest lt a = a

rises_met : (clock : ℕ) (x : Fate) (h : Kept) (w : Option Write) (rest : List Kept) → AllAbove h.version rest → Rises rest → Rises (met_maybe clock x w (h ∷ []) ++ rest)
rises_met clock x h None rest a r = r
rises_met clock Flies h (Some w) rest a r = (a, r)
rises_met clock Applied h (Some w) rest a r = r
rises_met clock Already h (Some w) rest a r = r
rises_met clock Retried h (Some w) rest a r = (a, r)
rises_met clock (Halved cap) h (Some w) rest a r = (a, r)
rises_met clock (Reported c) h (Some w) rest a r = r

module _ (allowed : Kept → ℕ) (clock n : ℕ) (whole : Way) where
  step : Kept → List Kept → List Write → List Outcome → Bool → List Kept
  step h hs ws os b = if b then met_maybe clock (fate_met allowed whole h os) (slice_get ws 0) (h ∷ []) ++ kept_walk hs allowed clock n whole (drop 1 ws) (drop 1 os) else h ∷ kept_walk hs allowed clock n whole ws os

  pub above_walk : (v : ℕ) (hs : List Kept) (ws : List Write) (os : List Outcome) → AllAbove v hs → AllAbove v (kept_walk hs allowed clock n whole ws os)
  unfolding step
  above_walk v [] ws os a = tt
  above_walk v (h ∷ hs) ws os a = ⊎_elim {C = AllAbove v (kept_walk (h ∷ hs) allowed clock n whole ws os)}
      (λ t. subst (λ b. AllAbove v (step h hs ws os b)) (sym t) (above_met clock v (fate_met allowed whole h os) h (slice_get ws 0) _ a.0 (above_walk v hs (drop 1 ws) (drop 1 os) a.1)))
      (λ t. subst (λ b. AllAbove v (step h hs ws os b)) (sym t) (a.0, above_walk v hs ws os a.1))
      (true_or_false (flies_here n h.flies))

  pub under_walk : (v : ℕ) (hs : List Kept) (ws : List Write) (os : List Outcome) → AllUnder v hs → AllUnder v (kept_walk hs allowed clock n whole ws os)
  unfolding step
  under_walk v [] ws os a = tt
  under_walk v (h ∷ hs) ws os a = ⊎_elim {C = AllUnder v (kept_walk (h ∷ hs) allowed clock n whole ws os)}
      (λ t. subst (λ b. AllUnder v (step h hs ws os b)) (sym t) (under_met clock v (fate_met allowed whole h os) h (slice_get ws 0) _ a.0 (under_walk v hs (drop 1 ws) (drop 1 os) a.1)))
      (λ t. subst (λ b. AllUnder v (step h hs ws os b)) (sym t) (a.0, under_walk v hs ws os a.1))
      (true_or_false (flies_here n h.flies))

  pub rises_walk : (hs : List Kept) (ws : List Write) (os : List Outcome) → Rises hs → Rises (kept_walk hs allowed clock n whole ws os)
  unfolding step
  rises_walk [] ws os r = tt
  rises_walk (h ∷ hs) ws os r = ⊎_elim {C = Rises (kept_walk (h ∷ hs) allowed clock n whole ws os)}
      (λ t. subst (λ b. Rises (step h hs ws os b)) (sym t) (rises_met clock (fate_met allowed whole h os) h (slice_get ws 0) _ (above_walk h.version hs (drop 1 ws) (drop 1 os) r.0) (rises_walk hs (drop 1 ws) (drop 1 os) r.1)))
      (λ t. subst (λ b. Rises (step h hs ws os b)) (sym t) (above_walk h.version hs ws os r.0, rises_walk hs ws os r.1))
      (true_or_false (flies_here n h.flies))

-- ---- tries

-- if it is halved, a cap decreases
abbrev Falls : Fate → Kept → Type 0
Falls x h = (cap : ℕ) → x ≡ Halved cap → halvings cap + 1 ≤ halvings h.cap

left_met : (clock max : ℕ) (x : Fate) (h : Kept) (w : Option Write) (rest : List Kept) → Falls x h → tries_left max (met_maybe clock x w (h ∷ []) ++ rest) ≤ (max - h.attempts) + halvings h.cap + tries_left max rest
left_met clock max x h None rest f = omega arith
left_met clock max Flies h (Some w) rest f = omega arith
left_met clock max Applied h (Some w) rest f = omega arith
left_met clock max Already h (Some w) rest f = omega arith
left_met clock max Retried h (Some w) rest f = omega arith
left_met clock max (Halved cap) h (Some w) rest f = let l = f cap refl in omega (arith, l)
left_met clock max (Reported c) h (Some w) rest f = omega arith

again_halves : (t : Tries) (tried : LastTry) (b : Bool) (cap : ℕ) → (if b then Retried else Reported (Rattle.relay_results.specs.declared.cause.Cause.TheVariants.GaveUp t.sends tried)) ≡ Halved cap → ⊥
again_halves t tried true cap e = cc
again_halves t tried false cap e = cc

verdict_halves : (t : Tries) (o : Outcome) (v : ItemVerdict) (cap : ℕ) → fate_of_verdict t o v ≡ Halved cap → ⊥
verdict_halves t o verdict.Applied cap e = cc
verdict_halves t o verdict.Already cap e = cc
verdict_halves t o verdict.Conflict cap e = cc
verdict_halves t o verdict.Retry cap e = cc
verdict_halves t o verdict.GaveUp cap e = cc
verdict_halves t o verdict.Refused cap e = cc

-- an entry halves nothing
entry_halves : (t : Tries) (kind : ActionKind) (o : Option Outcome) (tried : LastTry) (cap : ℕ) → fate_of_entry t kind o tried ≡ Halved cap → ⊥
entry_halves t kind None tried cap e = again_halves t tried (nat_lt t.attempts t.max) cap e
entry_halves t kind (Some o) tried cap e = verdict_halves t o (verdict_of kind o.status (is_some o.error) (may_be_own (stored_in o.error) t.version) t.sends t.attempts t.max) cap e

way_halves : (whole : Way) (len : ℕ) (f : LastTry → Fate) (h : Kept) → ((tried : LastTry) (cap : ℕ) → f tried ≡ Halved cap → ⊥) → IsHalf whole len → (1 < len → len ≤ h.cap) → Falls (fate_or whole f) h
way_halves (way.ByEntry tried) len f h none half room cap e = absurd (none tried cap e)
way_halves (way.Reported status) len f h none half room cap e = absurd (cc)
way_halves (way.Halved n) len f h none half room cap e =
    let some = half.0 in
    let le = room (omega (arith, some)) in
    let l = halvings-half len h.cap some le in
    let same : n ≡ cap = cc in
    subst (λ x. halvings x + 1 ≤ halvings h.cap) same (subst (λ x. halvings x + 1 ≤ halvings h.cap) (sym half.1) l)

falls_here : (allowed : Kept → ℕ) (len : ℕ) (whole : Way) (h : Kept) (os : List Outcome) → IsHalf whole len → (1 < len → len ≤ h.cap) → Falls (fate_met allowed whole h os) h
falls_here allowed len whole h os half room =
    way_halves whole len (fate_of_entry (record { version = h.version; sends = h.sends; attempts = h.attempts; max = allowed h }) h.kind (slice_get os 0)) h (entry_halves (record { version = h.version; sends = h.sends; attempts = h.attempts; max = allowed h }) h.kind (slice_get os 0)) half room

-- an answer leaves no more tries
pub left_walk : (allowed : Kept → ℕ) (max clock n len : ℕ) (whole : Way) (hs : List Kept) (ws : List Write) (os : List Outcome) → IsHalf whole len → HasRoom n len hs → tries_left max (kept_walk hs allowed clock n whole ws os) ≤ tries_left max hs
left_walk allowed max clock n len whole [] ws os half r = omega arith
left_walk allowed max clock n len whole (h ∷ hs) ws os half r = ⊎_elim {C = tries_left max (kept_walk (h ∷ hs) allowed clock n whole ws os) ≤ tries_left max (h ∷ hs)}
    (λ t. let e = ap (λ b. tries_left max (if b then met_maybe clock (fate_met allowed whole h os) (slice_get ws 0) (h ∷ []) ++ kept_walk hs allowed clock n whole (drop 1 ws) (drop 1 os) else h ∷ kept_walk hs allowed clock n whole ws os)) t in
    let m = left_met clock max (fate_met allowed whole h os) h (slice_get ws 0) (kept_walk hs allowed clock n whole (drop 1 ws) (drop 1 os)) (falls_here allowed len whole h os half (subst (λ b. Given b (1 < len → len ≤ h.cap)) t r.0)) in
    let ih = left_walk allowed max clock n len whole hs (drop 1 ws) (drop 1 os) half r.1 in omega (arith, e, m, ih))
    (λ t. let e = ap (λ b. tries_left max (if b then met_maybe clock (fate_met allowed whole h os) (slice_get ws 0) (h ∷ []) ++ kept_walk hs allowed clock n whole (drop 1 ws) (drop 1 os) else h ∷ kept_walk hs allowed clock n whole ws os)) t in
    let ih = left_walk allowed max clock n len whole hs ws os half r.1 in omega (arith, e, ih))
    (true_or_false (flies_here n h.flies))

verdict_retry : (a b c d e f : Bool) → (if a then verdict.Applied else if b then verdict.Applied else if c then verdict.Already else if d then verdict.Conflict else if e then verdict.Retry else if f then verdict.GaveUp else verdict.Refused) ≡ verdict.Retry → e ≡ true
verdict_retry true b c d e f h = absurd (cc)
verdict_retry false true c d e f h = absurd (cc)
verdict_retry false false true d e f h = absurd (cc)
verdict_retry false false false true e f h = absurd (cc)
verdict_retry false false false false true f h = refl
verdict_retry false false false false false true h = absurd (cc)
verdict_retry false false false false false false h = absurd (cc)

of_retry : (t : Tries) (o : Outcome) (v : ItemVerdict) → fate_of_verdict t o v ≡ Retried → v ≡ verdict.Retry
of_retry t o verdict.Applied e = absurd (cc)
of_retry t o verdict.Already e = absurd (cc)
of_retry t o verdict.Conflict e = absurd (cc)
of_retry t o verdict.Retry e = refl
of_retry t o verdict.GaveUp e = absurd (cc)
of_retry t o verdict.Refused e = absurd (cc)

again_tries : (t : Tries) (tried : LastTry) (b : Bool) → (if b then Retried else Reported (Rattle.relay_results.specs.declared.cause.Cause.TheVariants.GaveUp t.sends tried)) ≡ Retried → b ≡ true
again_tries t tried true e = refl
again_tries t tried false e = absurd (cc)

pub retried_tries : (t : Tries) (kind : ActionKind) (whole : Way) (o : Option Outcome) → fate_or whole (fate_of_entry t kind o) ≡ Retried → t.attempts < t.max
retried_tries t kind (way.Reported status) o e = absurd (cc)
retried_tries t kind (way.Halved cap) o e = absurd (cc)
retried_tries t kind (way.ByEntry tried) None e = ltb-true _ _ (again_tries t tried (nat_lt t.attempts t.max) e)
retried_tries t kind (way.ByEntry tried) (Some o) e = ltb-true _ _ (and_right (o.status == 429 || o.status == 503) (nat_lt t.attempts t.max) (verdict_retry
    (not (is_some o.error) && (nat_le 200 o.status && nat_lt o.status 300))
    (not (is_some o.error) && (is_delete kind && o.status == 404))
    (o.status == 409 && (nat_le 2 t.sends && may_be_own (stored_in o.error) t.version))
    (o.status == 409)
    ((o.status == 429 || o.status == 503) && nat_lt t.attempts t.max)
    (o.status == 429 || o.status == 503)
    (of_retry t o (verdict_of kind o.status (is_some o.error) (may_be_own (stored_in o.error) t.version) t.sends t.attempts t.max) e)))

-- ---- requests in flight

pub writes_absent : (xs : List Request) (r : ℕ) → is_in r xs ≡ false → writes_in xs r ≡ []
writes_absent [] r e = refl
writes_absent (x ∷ xs) r e = ⊎_elim {C = writes_in (x ∷ xs) r ≡ []}
    (λ t. absurd (let k : (true || is_in r xs) ≡ false = ap (λ b. b || is_in r xs) (sym t) ∙ e in cc))
    (λ t. ap (λ b. if b then x.writes.items else writes_in xs r) t ∙ writes_absent xs r (ap (λ b. b || is_in r xs) (sym t) ∙ e))
    (true_or_false (x.number == r))

pub writes_gone : (xs : List Request) (r : ℕ) → writes_in (others r xs) r ≡ []
writes_gone [] r = refl
writes_gone (x ∷ xs) r = ⊎_elim {C = writes_in (others r (x ∷ xs)) r ≡ []}
    (λ t. ap (λ b. writes_in (if not b then x ∷ others r xs else others r xs) r) t ∙ writes_gone xs r)
    (λ t. ap (λ b. writes_in (if not b then x ∷ others r xs else others r xs) r) t ∙ ap (λ b. if b then x.writes.items else writes_in (others r xs) r) t ∙ writes_gone xs r)
    (true_or_false (x.number == r))

-- ---- the whole

-- it is due by the clock's end
due_most : (clock attempts : ℕ) → backoff clock attempts ≤ 18446744073709551615
due_most clock attempts = omega arith

met_kept : (max next clock : ℕ) → clock ≤ 18446744073709551615 → (x : Fate) (h : Kept) (w : Write) (rest : List Kept) → IsKept max next h → IsWriteOf h w → (x ≡ Retried → h.attempts < max) → 0 < max → h.attempts ≤ max → Falls x h → AllKept max next rest → AllKept max next (met_maybe clock x (Some w) (h ∷ []) ++ rest)
met_kept max next clock ends Flies h w rest k i t some most f r = (k, r)
met_kept max next clock ends Applied h w rest k i t some most f r = r
met_kept max next clock ends Already h w rest k i t some most f r = r
met_kept max next clock ends Retried h w rest k i t some most f r = (record { home = (record { key = i.key; version = i.version; kind = i.kind; bytes = i.bytes }, t refl); sends = k.sends; due = due_most clock h.attempts }, r)
met_kept max next clock ends (Halved cap) h w rest k i t some most f r = (
  record {
    home = (record { key = i.key; version = i.version; kind = i.kind; bytes = i.bytes }, omega (arith, some, most));
    sends = (let l = f cap refl in let s = k.sends in omega (arith, l, s));
    due = ends;
  },
  r,
)
met_kept max next clock ends (Reported c) h w rest k i t some most f r = r

-- what flies has no more tries than it may
most_tries : (max next n p : ℕ) (h : Kept) (w : Option Write) (s : Option Spot) → IsHome max next h w s → s ≡ Some (record { request = n; place = p }) → h.attempts ≤ max
most_tries max next n p h (Some w) None k e = absurd (cc)
most_tries max next n p h (Some w) (Some s) k e = absurd k
most_tries max next n p h None None k e = absurd k
most_tries max next n p h None (Some s) k e = k.2

pub all_kept_walk : (allowed : Kept → ℕ) (max clock n next len : ℕ) → ((h : Kept) → allowed h ≤ max) → 0 < max → clock ≤ 18446744073709551615 → (whole : Way) → IsHalf whole len → (hs : List Kept) (p : ℕ) (ws : List Write) (os : List Outcome) → HasRoom n len hs → Carries n p hs ws → AllKept max next hs → AllKept max next (kept_walk hs allowed clock n whole ws os)
all_kept_walk allowed max clock n next len within some ends whole half [] p ws os r c k = tt
all_kept_walk allowed max clock n next len within some ends whole half (h ∷ hs) p ws os r c k = ⊎_elim {C = AllKept max next (kept_walk (h ∷ hs) allowed clock n whole ws os)}
    (λ t.
    let m : IsMet n p h ws = subst (λ b. Given b (IsMet n p h ws)) t c.0 in
    let more : Carries n (p + 1) hs (drop 1 ws) = subst (λ vs. Carries n (p + 1) hs vs) (rest_drop ws) (subst (λ b. Carries n (further b p) hs (rest_if b ws)) t c.1) in
    let x = fate_met allowed whole h os in
    let rest = kept_walk hs allowed clock n whole (drop 1 ws) (drop 1 os) in
    subst (λ b. AllKept max next (if b then met_maybe clock x (slice_get ws 0) (h ∷ []) ++ rest else h ∷ kept_walk hs allowed clock n whole ws os)) (sym t)
    (subst (λ o. AllKept max next (met_maybe clock x o (h ∷ []) ++ rest)) (sym (ap (λ xs. slice_get xs 0) m.found))
    (met_kept max next clock ends x h m.write rest k.0 m.matches (λ e. let lt = retried_tries (record { version = h.version; sends = h.sends; attempts = h.attempts; max = allowed h }) h.kind whole (slice_get os 0) e in let l = within h in omega (arith, lt, l)) some (most_tries max next n p h h.write h.flies k.0.home m.spot)
    (falls_here allowed len whole h os half (subst (λ b. Given b (1 < len → len ≤ h.cap)) t r.0)) (all_kept_walk allowed max clock n next len within some ends whole half hs (p + 1) (drop 1 ws) (drop 1 os) r.1 more k.1))))
    (λ t.
    let more : Carries n p hs ws = subst (λ b. Carries n (further b p) hs (rest_if b ws)) t c.1 in
    subst (λ b. AllKept max next (if b then met_maybe clock (fate_met allowed whole h os) (slice_get ws 0) (h ∷ []) ++ kept_walk hs allowed clock n whole (drop 1 ws) (drop 1 os) else h ∷ kept_walk hs allowed clock n whole ws os)) (sym t)
    (k.0, all_kept_walk allowed max clock n next len within some ends whole half hs p ws os r.1 more k.1))
    (true_or_false (flies_here n h.flies))

none_met : (n p clock : ℕ) (x : Fate) (h : Kept) (w : Option Write) (rest : List Kept) → settles x ≡ true → Carries n p rest [] → Carries n p (met_maybe clock x w (h ∷ []) ++ rest) []
none_met n p clock x h None rest t c = c
none_met n p clock Flies h (Some w) rest t c = absurd (cc)
none_met n p clock Applied h (Some w) rest t c = c
none_met n p clock Already h (Some w) rest t c = c
none_met n p clock Retried h (Some w) rest t c = (tt, c)
none_met n p clock (Halved cap) h (Some w) rest t c = (tt, c)
none_met n p clock (Reported cause) h (Some w) rest t c = c

pub carries_none : (allowed : Kept → ℕ) (clock n : ℕ) (whole : Way) (hs : List Kept) (p : ℕ) (ws : List Write) (os : List Outcome) → Carries n p (kept_walk hs allowed clock n whole ws os) []
carries_none allowed clock n whole [] p ws os = refl
carries_none allowed clock n whole (h ∷ hs) p ws os = ⊎_elim {C = Carries n p (kept_walk (h ∷ hs) allowed clock n whole ws os) []}
    (λ t.
    subst (λ b. Carries n p (if b then met_maybe clock (fate_met allowed whole h os) (slice_get ws 0) (h ∷ []) ++ kept_walk hs allowed clock n whole (drop 1 ws) (drop 1 os) else h ∷ kept_walk hs allowed clock n whole ws os) []) (sym t)
    (none_met n p clock (fate_met allowed whole h os) h (slice_get ws 0) _ (met_ends allowed whole h os) (carries_none allowed clock n whole hs p (drop 1 ws) (drop 1 os))))
    (λ t.
    subst (λ b. Carries n p (if b then met_maybe clock (fate_met allowed whole h os) (slice_get ws 0) (h ∷ []) ++ kept_walk hs allowed clock n whole (drop 1 ws) (drop 1 os) else h ∷ kept_walk hs allowed clock n whole ws os) []) (sym t)
    (subst (λ b. Given b (IsMet n p h []) × Carries n (further b p) (kept_walk hs allowed clock n whole ws os) (rest_if b [])) (sym t) (tt, carries_none allowed clock n whole hs p ws os)))
    (true_or_false (flies_here n h.flies))

pub carries_after : (allowed : Kept → ℕ) (clock n : ℕ) (whole : Way) (hs : List Kept) (ws : List Write) (os : List Outcome) (fs : List Request) → ((m : ℕ) → Carries m 0 hs (writes_in fs m)) → (m : ℕ) → Carries m 0 (kept_walk hs allowed clock n whole ws os) (writes_in (others n fs) m)
carries_after allowed clock n whole hs ws os fs all m = ⊎_elim {C = Carries m 0 (kept_walk hs allowed clock n whole ws os) (writes_in (others n fs) m)}
    (λ t.
    let e : m ≡ n = equal m n t in
    subst (λ k. Carries k 0 (kept_walk hs allowed clock n whole ws os) (writes_in (others n fs) k)) (sym e)
    (subst (λ vs. Carries n 0 (kept_walk hs allowed clock n whole ws os) vs) (sym (writes_gone fs n)) (carries_none allowed clock n whole hs 0 ws os)))
    (λ t. subst (λ vs. Carries m 0 (kept_walk hs allowed clock n whole ws os) vs) (sym (without_other fs n m t)) (carries_past allowed clock n m whole t hs 0 ws os (writes_in fs m) (all m)))
    (true_or_false (m == n))

-- ---- caps

room_none : (n : ℕ) (hs : List Kept) → HasRoom n 0 hs
room_none n [] = tt
room_none n (h ∷ hs) = (given_any (flies_here n h.flies) (λ more. absurd (omega (arith, more))), room_none n hs)

-- what flies elsewhere keeps its room
met_room : (n m len clock : ℕ) (x : Fate) (h : Kept) (w : Option Write) (rest : List Kept) → flies_here m h.flies ≡ false → HasRoom m len rest → HasRoom m len (met_maybe clock x w (h ∷ []) ++ rest)
met_room n m len clock x h None rest other r = r
met_room n m len clock Flies h (Some w) rest other r = (subst (λ b. Given b (1 < len → len ≤ h.cap)) (sym other) tt, r)
met_room n m len clock Applied h (Some w) rest other r = r
met_room n m len clock Already h (Some w) rest other r = r
met_room n m len clock Retried h (Some w) rest other r = (tt, r)
met_room n m len clock (Halved cap) h (Some w) rest other r = (tt, r)
met_room n m len clock (Reported c) h (Some w) rest other r = r

room_past : (allowed : Kept → ℕ) (clock n m len : ℕ) (whole : Way) → (m == n) ≡ false → (hs : List Kept) (ws : List Write) (os : List Outcome) → HasRoom m len hs → HasRoom m len (kept_walk hs allowed clock n whole ws os)
room_past allowed clock n m len whole ne [] ws os r = tt
room_past allowed clock n m len whole ne (h ∷ hs) ws os r = ⊎_elim {C = HasRoom m len (kept_walk (h ∷ hs) allowed clock n whole ws os)}
    (λ t. subst (λ b. HasRoom m len (if b then met_maybe clock (fate_met allowed whole h os) (slice_get ws 0) (h ∷ []) ++ kept_walk hs allowed clock n whole (drop 1 ws) (drop 1 os) else h ∷ kept_walk hs allowed clock n whole ws os)) (sym t)
    (met_room n m len clock (fate_met allowed whole h os) h (slice_get ws 0) _ (elsewhere h.flies n m t ne) (room_past allowed clock n m len whole ne hs (drop 1 ws) (drop 1 os) r.1)))
    (λ t. subst (λ b. HasRoom m len (if b then met_maybe clock (fate_met allowed whole h os) (slice_get ws 0) (h ∷ []) ++ kept_walk hs allowed clock n whole (drop 1 ws) (drop 1 os) else h ∷ kept_walk hs allowed clock n whole ws os)) (sym t)
    (r.0, room_past allowed clock n m len whole ne hs ws os r.1))
    (true_or_false (flies_here n h.flies))

room_after : (allowed : Kept → ℕ) (clock n : ℕ) (whole : Way) (hs : List Kept) (ws : List Write) (os : List Outcome) (fs : List Request) → ((m : ℕ) → HasRoom m (length (writes_in fs m)) hs) → (m : ℕ) → HasRoom m (length (writes_in (others n fs) m)) (kept_walk hs allowed clock n whole ws os)
room_after allowed clock n whole hs ws os fs all m = ⊎_elim {C = HasRoom m (length (writes_in (others n fs) m)) (kept_walk hs allowed clock n whole ws os)}
    (λ t. subst (λ vs. HasRoom m (length vs) (kept_walk hs allowed clock n whole ws os)) (sym (ap (writes_in (others n fs)) (equal m n t) ∙ writes_gone fs n)) (room_none m (kept_walk hs allowed clock n whole ws os)))
    (λ t. subst (λ vs. HasRoom m (length vs) (kept_walk hs allowed clock n whole ws os)) (sym (without_other fs n m t)) (room_past allowed clock n m (length (writes_in fs m)) whole t hs ws os (all m)))
    (true_or_false (m == n))

few_without : (fs : List Request) (n : ℕ) → AreFew fs → AreFew (others n fs)
few_without [] n f = tt
few_without (x ∷ fs) n f = ⊎_elim {C = AreFew (others n (x ∷ fs))}
    (λ t. subst (λ b. AreFew (if not b then x ∷ others n fs else others n fs)) (sym t) (few_without fs n f.1))
    (λ t. subst (λ b. AreFew (if not b then x ∷ others n fs else others n fs)) (sym t) (f.0, few_without fs n f.1))
    (true_or_false (x.number == n))

pub few_in : (fs : List Request) (n : ℕ) → AreFew fs → length (writes_in fs n) ≤ 4294967295
few_in [] n f = omega arith
few_in (x ∷ fs) n f = ⊎_elim {C = length (writes_in (x ∷ fs) n) ≤ 4294967295}
    (λ t. subst (λ b. length (if b then x.writes.items else writes_in fs n) ≤ 4294967295) (sym t) f.0)
    (λ t. subst (λ b. length (if b then x.writes.items else writes_in fs n) ≤ 4294967295) (sym t) (few_in fs n f.1))
    (true_or_false (x.number == n))

pub readable_after : (allowed : Kept → ℕ) (max clock n next : ℕ) → ((h : Kept) → allowed h ≤ max) → 0 < max → clock ≤ 18446744073709551615 → (whole : Way) (os : List Outcome) (hs hs' : List Kept) (fs fs' : List Request) → hs' ≡ kept_walk hs allowed clock n whole (writes_in fs n) os → fs' ≡ others n fs → IsHalf whole (length (writes_in fs n)) → IsReadable max next hs fs → IsReadable max next hs' fs'
readable_after allowed max clock n next within some ends whole os hs hs' fs fs' e d half r =
    subst (λ xs. IsReadable max next xs fs') (sym e) (subst (λ ys. IsReadable max next (kept_walk hs allowed clock n whole (writes_in fs n) os) ys) (sym d) (record {
      kept = all_kept_walk allowed max clock n next (length (writes_in fs n)) within some ends whole half hs 0 (writes_in fs n) os (r.caps n) (r.carries n) r.kept;
      rises = rises_walk allowed clock n whole hs (writes_in fs n) os r.rises;
      carries = carries_after allowed clock n whole hs (writes_in fs n) os fs r.carries;
      caps = room_after allowed clock n whole hs (writes_in fs n) os fs r.caps;
      few = few_without fs n r.few;
    }))

pub readable_by : (max next next' : ℕ) (hs : List Kept) (fs : List Request) → next ≡ next' → IsReadable max next hs fs → IsReadable max next' hs fs
readable_by max next next' hs fs e r = subst (λ k. IsReadable max k hs fs) e r

pub readable_same : (max next : ℕ) (hs hs' : List Kept) (fs fs' : List Request) → hs' ≡ hs → fs' ≡ fs → IsReadable max next hs fs → IsReadable max next hs' fs'
readable_same max next hs hs' fs fs' e d r = subst (λ xs. IsReadable max next xs fs') (sym e) (subst (λ ys. IsReadable max next hs ys) (sym d) r)
