-- What an answer makes of the held list, as it is read.
use Rattle.std.proofs.Common.{◌≡◌, ℕ, zero, suc, ◌+◌, ◌-◌, ◌≤◌, List, [], ◌∷◌, ◌++◌, Option, Some, None, Bool, true, false, ◌==◌, refl, sym, ap, ◌∙◌, subst, ⊎_elim, arith, drop}
use Rattle.std.specs.Prelude.{if◌then◌else◌, nat_lt, slice_get, option_map, is_some, min, ◌&&◌, ◌||◌}
use Rattle.std.specs.List.{list_any}
use Rattle.relay_action.specs.Actions.{kind_of}
use Rattle.relay_action.specs.declared.write.Write.{Write}
use Rattle.relay_action.specs.declared.action.ActionKind.{ActionKind}
use Rattle.relay_results.specs.declared.outcome.Outcome.{Outcome}
use Rattle.relay_results.specs.declared.decide.ItemVerdict.{ItemVerdict}
use Rattle.relay_results.specs.declared.decide.ItemVerdict.TheVariants as verdict
use Rattle.relay_results.specs.Words.{one_if}
use Rattle.relay_results.specs.Documents.{document_of}
use Rattle.relay_results.specs.Outside.{Answer}
use Rattle.relay_results.specs.declared.cause.Cause.TheVariants as cause
use Rattle.relay_results.specs.declared.cause.LastTry.{LastTry}
use Rattle.relay_results.specs.Fates.{Fate, Flies, Applied, Already, Retried, Halved, Reported, Tries, tried_again, fate, fate_of_entry, fate_of_verdict}
use Rattle.relay_delivery.specs.Machine.{Config, fewest, tries_for, fate_of, reported_one, reports_from, how_many}
use Rattle.relay_delivery.specs.Lane.{Entry, has_age, held_of, kept_entry, kept_entries}
use Rattle.relay_results.proofs.Lists.{true_or_false, equal, equal_test}
use Rattle.relay_held.specs.declared.kept.Kept.{Kept}
use Rattle.relay_core.proofs.Keeping.{one_less}
use Rattle.relay_core.specs.declared.fates.Way.{Way}
use Rattle.relay_core.specs.declared.fates.Way.TheVariants as way
use Rattle.relay_held.specs.declared.kept.Spot.{Spot}
use Rattle.relay_core.specs.Walk.{allowed_at, flies_here, fate_or, fate_met, met_list, met_maybe, reports_list, reports_maybe, tally, tally_maybe, kept_walk, reports_walk, tally_walk, status_in, success_list, success_maybe, successes_walk}
use Rattle.relay_core.specs.Successes.{status_at, status_of, success_of, successes_from}
use Rattle.relay_core.specs.Memory.{AllAbove, Rises, place_at, write_found, action_or, held_seen, entry_of, entries, Given, further, rest_if, IsMet, Carries, IsHome, IsKept, AllKept, SaysAs}

-- a fate that settles
abbrev pub settles : Fate → Bool
settles Flies = false
settles Applied = true
settles Already = true
settles Retried = true
settles (Halved cap) = true
settles (Reported c) = true

again_if : (t : Tries) (tried : LastTry) (b : Bool) → nat_lt t.attempts t.max ≡ b → settles (tried_again t tried) ≡ true
again_if t tried true e = ap (λ b. settles (if b then Retried else Reported (cause.GaveUp t.sends tried))) e
again_if t tried false e = ap (λ b. settles (if b then Retried else Reported (cause.GaveUp t.sends tried))) e

verdict_settles : (t : Tries) (o : Outcome) (v : ItemVerdict) → settles (fate_of_verdict t o v) ≡ true
verdict_settles t o verdict.Applied = refl
verdict_settles t o verdict.Already = refl
verdict_settles t o verdict.Conflict = refl
verdict_settles t o verdict.Retry = refl
verdict_settles t o verdict.GaveUp = refl
verdict_settles t o verdict.Refused = refl

entry_settles : (t : Tries) (kind : ActionKind) (o : Option Outcome) (tried : LastTry) → settles (fate_of_entry t kind o tried) ≡ true
entry_settles t kind None tried = again_if t tried (nat_lt t.attempts t.max) refl
entry_settles t kind (Some o) tried = verdict_settles t o _

or_settles : (whole : Way) (f : LastTry → Fate) → ((tried : LastTry) → settles (f tried) ≡ true) → settles (fate_or whole f) ≡ true
or_settles (way.ByEntry tried) f e = e tried
or_settles (way.Reported status) f e = refl
or_settles (way.Halved cap) f e = refl

pub met_ends : (allowed : Kept → ℕ) (whole : Way) (h : Kept) (os : List Outcome) → settles (fate_met allowed whole h os) ≡ true
met_ends allowed whole h os = or_settles whole (fate_of_entry (record { version = h.version; sends = h.sends; attempts = h.attempts; max = allowed h }) h.kind (slice_get os 0)) (entry_settles (record { version = h.version; sends = h.sends; attempts = h.attempts; max = allowed h }) h.kind (slice_get os 0))

-- ---- tries

-- each has the tries that its version has
abbrev pub Agree : (ℕ → ℕ) → (Kept → ℕ) → List Kept → Type 0
Agree tries_by allowed [] = Unit {0}
Agree tries_by allowed (h ∷ hs) = (tries_by h.version ≡ allowed h) × Agree tries_by allowed hs

-- versions rise, so what is old by its version is old by the clock of its first send
apart_versions : (v w : ℕ) → (v ≡ w → ⊥) → (v == w) ≡ false
apart_versions v w ne = ⊎_elim {C = (v == w) ≡ false} (λ t. absurd (ne (equal v w t))) (λ f. f) (true_or_false (v == w))

or_none : (b : Bool) → (b || false) ≡ b
or_none true = refl
or_none false = refl

module _ (g : Config) (clock : ℕ) (f : ℕ → List Write) where
  abbrev pub old_among : List Kept → ℕ → Bool
  old_among hs v = list_any (λ (e : Entry). (e.held.version == v) && has_age g.age clock e.since) (entries hs f)

  none_old : (v : ℕ) (hs : List Kept) → AllAbove v hs → old_among hs v ≡ false
  none_old v [] a = refl
  none_old v (h ∷ hs) a =
      ap (λ b. (b && has_age g.age clock h.since) || old_among hs v) (apart_versions h.version v (λ e. let lt = a.0 in omega (arith, e, lt)))
      ∙ none_old v hs a.1

  old_first : (h : Kept) (hs : List Kept) → AllAbove h.version hs → old_among (h ∷ hs) h.version ≡ has_age g.age clock h.since
  old_first h hs a =
      ap (λ b. (b && has_age g.age clock h.since) || old_among hs h.version) (equal_test h.version h.version refl)
      ∙ ap (λ b. has_age g.age clock h.since || b) (none_old h.version hs a)
      ∙ or_none (has_age g.age clock h.since)

  agree_behind : (h : Kept) (hs rest : List Kept) → AllAbove h.version rest → Agree (tries_for g (old_among hs)) (allowed_at g clock) rest
      → Agree (tries_for g (old_among (h ∷ hs))) (allowed_at g clock) rest
  agree_behind h hs [] a t = tt
  agree_behind h hs (x ∷ rest) a t = (
    ap (λ b. if (b && has_age g.age clock h.since) || old_among hs x.version then fewest g else g.max) (apart_versions h.version x.version (λ e. let lt = a.0 in omega (arith, e, lt))) ∙ t.0,
    agree_behind h hs rest a.1 t.1,
  )

  pub tries_agree : (hs : List Kept) → Rises hs → Agree (tries_for g (old_among hs)) (allowed_at g clock) hs
  tries_agree [] r = tt
  tries_agree (h ∷ hs) r = (ap (λ b. if b then fewest g else g.max) (old_first h hs r.0), agree_behind h hs hs r.0 (tries_agree hs r.1))

most_by : (g : Config) (a b : Bool) → (if b then (if a then min 1 g.max else g.max) else g.max) ≤ g.max
most_by g true true = omega arith
most_by g true false = omega arith
most_by g false true = omega arith
most_by g false false = omega arith

-- none has more than the attempts
pub allowed_most : (g : Config) (clock : ℕ) (h : Kept) → allowed_at g clock h ≤ g.max
allowed_most g clock h = most_by g (is_some g.age) (has_age g.age clock h.since)

-- ---- what is read of one that flies, and of one that does not

drop_none : {A : Type 0} (n : ℕ) → drop {A = A} n [] ≡ []
drop_none zero = refl
drop_none (suc n) = refl

drop_suc : {A : Type 0} (n : ℕ) (xs : List A) → drop 1 (drop n xs) ≡ drop (suc n) xs
drop_suc zero [] = refl
drop_suc zero (x ∷ xs) = refl
drop_suc (suc n) [] = refl
drop_suc (suc n) (x ∷ xs) = drop_suc n xs

pub drop_more : {A : Type 0} (n : ℕ) (xs : List A) → drop 1 (drop n xs) ≡ drop (n + 1) xs
drop_more n xs = let e : suc n ≡ n + 1 = omega arith in drop_suc n xs ∙ ap (λ k. drop k xs) e

pub rest_drop : (ws : List Write) → rest_if true ws ≡ drop 1 ws
rest_drop [] = refl
rest_drop (w ∷ ws) = refl

drop_here : {A : Type 0} (n : ℕ) (xs : List A) → slice_get (drop n xs) 0 ≡ slice_get xs n
drop_here zero xs = refl
drop_here (suc n) [] = refl
drop_here (suc n) (x ∷ xs) = drop_here n xs

away : (max next : ℕ) (h : Kept) (w : Option Write) (p : Option Spot) (s : Spot) → IsHome max next h w p → p ≡ Some s → w ≡ None
away max next h (Some w) None s home e = absurd (cc)
away max next h (Some w) (Some p) s home e = absurd home
away max next h None p s home e = refl

entries_append : (xs ys : List Kept) (f : ℕ → List Write) → entries (xs ++ ys) f ≡ entries xs f ++ entries ys f
entries_append [] ys f = refl
entries_append (x ∷ xs) ys f = ap (λ zs. entry_of f x ∷ zs) (entries_append xs ys f)

tally_is : (b : Bool) → tally b ≡ one_if b
tally_is true = refl
tally_is false = refl

module _ (tries_by : ℕ → ℕ) (allowed : Kept → ℕ) (max clock n next : ℕ) (whole : Way) (all : List Write) (given : List Outcome) (a : Answer) (f f' : ℕ → List Write)
    (says : SaysAs a all whole given) (from : 1 ≤ n) (here : f n ≡ all) (same : (m : ℕ) → (m == n) ≡ false → f' m ≡ f m) where
  tries : Kept → Tries
  tries h = record { version = h.version; sends = h.sends; attempts = h.attempts; max = allowed h }

  action_is : (p : ℕ) (h : Kept) (w : Write) → h.write ≡ None → h.flies ≡ Some (record { request = n; place = p }) → slice_get all p ≡ Some w → action_or (write_found h.write h.flies f) ≡ w.action
  action_is p h w e s found = (λ i. action_or (write_found (e i) (s i) f)) ∙ ap (λ ws. action_or (slice_get ws p)) here ∙ ap action_or found

  fate_here : (p : ℕ) (h : Kept) (w : Write) (os : List Outcome) → os ≡ drop p given → h.write ≡ None → h.flies ≡ Some (record { request = n; place = p }) → slice_get all p ≡ Some w → kind_of w.action ≡ h.kind → tries_by h.version ≡ allowed h
      → fate_of tries_by (n - 1) all a (held_seen f h) (option_map place_at h.flies) ≡ fate_met allowed whole h os
  unfolding tries
  fate_here p h w os o e s found kind agrees =
      ap (λ q. fate_of tries_by (n - 1) all a (held_seen f h) (option_map place_at q)) s
      ∙ ap (λ b. if b then fate (record { version = h.version; sends = h.sends; attempts = h.attempts; max = tries_by h.version }) all p (kind_of (action_or (write_found h.write h.flies f))) a else Flies) (equal_test (n - 1) (n - 1) refl)
      ∙ ap (λ most. fate (record { version = h.version; sends = h.sends; attempts = h.attempts; max = most }) all p (kind_of (action_or (write_found h.write h.flies f))) a) agrees
      ∙ ap (λ x. fate (tries h) all p (kind_of x) a) (action_is p h w e s found)
      ∙ ap (λ k. fate (tries h) all p k a) kind
      ∙ says (tries h) p h.kind
      ∙ ap (λ x. fate_or whole (fate_of_entry (tries h) h.kind x)) (sym (drop_here p given) ∙ ap (λ xs. slice_get xs 0) (sym o))

  fate_there : (h : Kept) (w : Option Write) (p : Option Spot) → IsHome max next h w p → flies_here n p ≡ false → fate_of tries_by (n - 1) all a (held_seen f h) (option_map place_at p) ≡ Flies
  fate_there h w None k t = refl
  fate_there h (Some w) (Some s) k t = absurd k
  fate_there h None (Some s) k t =
      ap (λ b. if b then fate (record { version = h.version; sends = h.sends; attempts = h.attempts; max = tries_by h.version }) all s.place (kind_of (action_or (write_found h.write h.flies f))) a else Flies) (one_less s.request n k.0 from ∙ t)

  found_there : (w : Option Write) (p : Option Spot) → flies_here n p ≡ false → write_found w p f' ≡ write_found w p f
  found_there (Some w) p t = refl
  found_there None None t = refl
  found_there None (Some s) t = ap (λ ws. slice_get ws s.place) (same s.request t)

  entry_there : (h : Kept) → flies_here n h.flies ≡ false → entry_of f' h ≡ entry_of f h
  entry_there h t = λ i. record {
    held = record { op = record { epoch = h.name.epoch; producer = h.name.producer; number = h.name.number; key = h.key; action = action_or (found_there h.write h.flies t i) }; version = h.version; sends = h.sends; attempts = h.attempts; cap = h.cap; flies = option_map place_at h.flies };
    bytes = h.bytes;
    taken_at = h.taken_at;
    since = h.since;
    due = h.due;
  }

  one_met : (h : Kept) (w : Write) (x : Fate) → settles x ≡ true → action_or (write_found h.write h.flies f) ≡ w.action → entries (met_list clock x w (h ∷ [])) f' ≡ kept_entry clock x (entry_of f h)
  one_met h w Flies t e = absurd (cc)
  one_met h w Applied t e = refl
  one_met h w Already t e = refl
  one_met h w Retried t e = λ i. record {
    held = record { op = record { epoch = h.name.epoch; producer = h.name.producer; number = h.name.number; key = h.key; action = sym e i }; version = h.version; sends = h.sends; attempts = h.attempts; cap = h.cap; flies = None };
    bytes = h.bytes;
    taken_at = h.taken_at;
    since = h.since;
    due = Rattle.relay_delivery.specs.Lane.backoff clock h.attempts;
  } ∷ []
  one_met h w (Halved cap) t e = λ i. record {
    held = record { op = record { epoch = h.name.epoch; producer = h.name.producer; number = h.name.number; key = h.key; action = sym e i }; version = h.version; sends = h.sends; attempts = h.attempts - 1; cap = cap; flies = None };
    bytes = h.bytes;
    taken_at = h.taken_at;
    since = h.since;
    due = clock;
  } ∷ []
  one_met h w (Reported c) t e = refl

  one_reported : (h : Kept) (w : Write) (x : Fate) → w.key ≡ h.key → reports_list x w (h ∷ []) ≡ reported_one x (held_seen f h)
  one_reported h w Flies e = refl
  one_reported h w Applied e = refl
  one_reported h w Already e = refl
  one_reported h w Retried e = refl
  one_reported h w (Halved cap) e = refl
  one_reported h w (Reported c) e = λ i. record { name = h.name; document = document_of (e i); cause = c } ∷ []

  one_succeeded : (h : Kept) (w : Write) (x : Fate) (status : Option ℕ) → w.version ≡ h.version → success_list x status w (h ∷ []) ≡ success_of x status (held_seen f h)
  one_succeeded h w Flies status e = refl
  one_succeeded h w Applied status e = λ i. record { name = h.name; version = e i; status = status } ∷ []
  one_succeeded h w Already status e = λ i. record { name = h.name; version = e i; status = None } ∷ []
  one_succeeded h w Retried status e = refl
  one_succeeded h w (Halved cap) status e = refl
  one_succeeded h w (Reported c) status e = refl

  -- the parts of one that flies
  met_here : (h : Kept) (hs : List Kept) (p : ℕ) (ws : List Write) → flies_here n h.flies ≡ true → Carries n p (h ∷ hs) ws → IsMet n p h ws
  met_here h hs p ws t c = subst (λ b. Given b (IsMet n p h ws)) t c.0

  met_rest : (h : Kept) (hs : List Kept) (p : ℕ) (ws : List Write) → flies_here n h.flies ≡ true → Carries n p (h ∷ hs) ws → Carries n (p + 1) hs (drop 1 ws)
  met_rest h hs p ws t c = subst (λ vs. Carries n (p + 1) hs vs) (rest_drop ws) (subst (λ b. Carries n (further b p) hs (rest_if b ws)) t c.1)

  past_rest : (h : Kept) (hs : List Kept) (p : ℕ) (ws : List Write) → flies_here n h.flies ≡ false → Carries n p (h ∷ hs) ws → Carries n p hs ws
  past_rest h hs p ws t c = subst (λ b. Carries n (further b p) hs (rest_if b ws)) t c.1

  got : (p : ℕ) (h : Kept) (ws : List Write) (m : IsMet n p h ws) → slice_get ws 0 ≡ Some m.write
  got p h ws m = ap (λ xs. slice_get xs 0) m.found

  got_at : (p : ℕ) (h : Kept) (ws : List Write) (m : IsMet n p h ws) → ws ≡ drop p all → slice_get all p ≡ Some m.write
  got_at p h ws m e = sym (drop_here p all) ∙ ap (λ xs. slice_get xs 0) (sym e) ∙ got p h ws m

  fate_met_here : (h : Kept) (p : ℕ) (ws : List Write) (os : List Outcome) → ws ≡ drop p all → os ≡ drop p given → (m : IsMet n p h ws) → IsKept max next h → tries_by h.version ≡ allowed h
      → fate_of tries_by (n - 1) all a (held_seen f h) (option_map place_at h.flies) ≡ fate_met allowed whole h os
  fate_met_here h p ws os e o m k agrees = fate_here p h m.write os o (away max next h h.write h.flies _ k.home m.spot) m.spot (got_at p h ws m e) m.matches.kind agrees

  pub kept_seen : (hs : List Kept) (p : ℕ) (ws : List Write) (os : List Outcome) → ws ≡ drop p all → os ≡ drop p given → Carries n p hs ws → AllKept max next hs → Agree tries_by allowed hs
      → entries (kept_walk hs allowed clock n whole ws os) f' ≡ kept_entries tries_by clock (n - 1) all a (entries hs f)
  kept_seen [] p ws os e o c k g = refl
  kept_seen (h ∷ hs) p ws os e o c k g = ⊎_elim {C = entries (kept_walk (h ∷ hs) allowed clock n whole ws os) f' ≡ kept_entries tries_by clock (n - 1) all a (entries (h ∷ hs) f)}
      (λ t.
      let m = met_here h hs p ws t c in
      let x = fate_met allowed whole h os in
      let ih = kept_seen hs (p + 1) (drop 1 ws) (drop 1 os) (ap (drop 1) e ∙ drop_more p all) (ap (drop 1) o ∙ drop_more p given) (met_rest h hs p ws t c) k.1 g.1 in
      let rest = kept_walk hs allowed clock n whole (drop 1 ws) (drop 1 os) in
      let act = action_is p h m.write (away max next h h.write h.flies _ k.0.home m.spot) m.spot (got_at p h ws m e) in
      let ok = or_settles whole _ (entry_settles (record { version = h.version; sends = h.sends; attempts = h.attempts; max = allowed h }) h.kind (slice_get os 0)) in
      ap (λ b. entries (if b then met_maybe clock x (slice_get ws 0) (h ∷ []) ++ rest else h ∷ kept_walk hs allowed clock n whole ws os) f') t
      ∙ entries_append (met_maybe clock x (slice_get ws 0) (h ∷ [])) rest f'
      ∙ (λ i. entries (met_maybe clock x (got p h ws m i) (h ∷ [])) f' ++ ih i)
      ∙ ap (λ es. es ++ kept_entries tries_by clock (n - 1) all a (entries hs f)) (one_met h m.write x ok act ∙ ap (λ y. kept_entry clock y (entry_of f h)) (sym (fate_met_here h p ws os e o m k.0 g.0))))
      (λ t.
      let ih = kept_seen hs p ws os e o (past_rest h hs p ws t c) k.1 g.1 in
      ap (λ b. entries (if b then met_maybe clock (fate_met allowed whole h os) (slice_get ws 0) (h ∷ []) ++ kept_walk hs allowed clock n whole (drop 1 ws) (drop 1 os) else h ∷ kept_walk hs allowed clock n whole ws os) f') t
      ∙ (λ i. entry_there h t i ∷ ih i)
      ∙ sym (ap (λ y. kept_entry clock y (entry_of f h) ++ kept_entries tries_by clock (n - 1) all a (entries hs f)) (fate_there h h.write h.flies k.0.home t)))
      (true_or_false (flies_here n h.flies))

  pub reported_seen : (hs : List Kept) (p : ℕ) (ws : List Write) (os : List Outcome) → ws ≡ drop p all → os ≡ drop p given → Carries n p hs ws → AllKept max next hs → Agree tries_by allowed hs
      → reports_walk hs allowed n whole ws os ≡ reports_from tries_by (n - 1) all a (held_of (entries hs f))
  reported_seen [] p ws os e o c k g = refl
  reported_seen (h ∷ hs) p ws os e o c k g = ⊎_elim {C = reports_walk (h ∷ hs) allowed n whole ws os ≡ reports_from tries_by (n - 1) all a (held_of (entries (h ∷ hs) f))}
      (λ t.
      let m = met_here h hs p ws t c in
      let x = fate_met allowed whole h os in
      let ih = reported_seen hs (p + 1) (drop 1 ws) (drop 1 os) (ap (drop 1) e ∙ drop_more p all) (ap (drop 1) o ∙ drop_more p given) (met_rest h hs p ws t c) k.1 g.1 in
      ap (λ b. if b then reports_maybe x (slice_get ws 0) (h ∷ []) ++ reports_walk hs allowed n whole (drop 1 ws) (drop 1 os) else reports_walk hs allowed n whole ws os) t
      ∙ (λ i. reports_maybe x (got p h ws m i) (h ∷ []) ++ ih i)
      ∙ ap (λ rs. rs ++ reports_from tries_by (n - 1) all a (held_of (entries hs f))) (one_reported h m.write x m.matches.key ∙ ap (λ y. reported_one y (held_seen f h)) (sym (fate_met_here h p ws os e o m k.0 g.0))))
      (λ t.
      let ih = reported_seen hs p ws os e o (past_rest h hs p ws t c) k.1 g.1 in
      ap (λ b. if b then reports_maybe (fate_met allowed whole h os) (slice_get ws 0) (h ∷ []) ++ reports_walk hs allowed n whole (drop 1 ws) (drop 1 os) else reports_walk hs allowed n whole ws os) t
      ∙ ih
      ∙ sym (ap (λ y. reported_one y (held_seen f h) ++ reports_from tries_by (n - 1) all a (held_of (entries hs f))) (fate_there h h.write h.flies k.0.home t)))
      (true_or_false (flies_here n h.flies))

  status_here : ((p : ℕ) → status_at all a p ≡ status_in (slice_get given p)) → (p : ℕ) (h : Kept) (os : List Outcome) → os ≡ drop p given → h.flies ≡ Some (record { request = n; place = p })
      → status_of all a (option_map place_at h.flies) ≡ status_in (slice_get os 0)
  status_here tells p h os o s =
      ap (λ q. status_of all a (option_map place_at q)) s ∙ tells p ∙ ap status_in (sym (drop_here p given) ∙ ap (λ xs. slice_get xs 0) (sym o))

  pub succeeded_seen : ((p : ℕ) → status_at all a p ≡ status_in (slice_get given p)) → (hs : List Kept) (p : ℕ) (ws : List Write) (os : List Outcome) → ws ≡ drop p all → os ≡ drop p given → Carries n p hs ws → AllKept max next hs → Agree tries_by allowed hs
      → successes_walk hs allowed n whole ws os ≡ successes_from tries_by (n - 1) all a (held_of (entries hs f))
  succeeded_seen tells [] p ws os e o c k g = refl
  succeeded_seen tells (h ∷ hs) p ws os e o c k g = ⊎_elim {C = successes_walk (h ∷ hs) allowed n whole ws os ≡ successes_from tries_by (n - 1) all a (held_of (entries (h ∷ hs) f))}
      (λ t.
      let m = met_here h hs p ws t c in
      let x = fate_met allowed whole h os in
      let status = status_in (slice_get os 0) in
      let ih = succeeded_seen tells hs (p + 1) (drop 1 ws) (drop 1 os) (ap (drop 1) e ∙ drop_more p all) (ap (drop 1) o ∙ drop_more p given) (met_rest h hs p ws t c) k.1 g.1 in
      ap (λ b. if b then success_maybe x status (slice_get ws 0) (h ∷ []) ++ successes_walk hs allowed n whole (drop 1 ws) (drop 1 os) else successes_walk hs allowed n whole ws os) t
      ∙ (λ i. success_maybe x status (got p h ws m i) (h ∷ []) ++ ih i)
      ∙ ap (λ rs. rs ++ successes_from tries_by (n - 1) all a (held_of (entries hs f)))
      (one_succeeded h m.write x status m.matches.version
      ∙ (λ i. success_of (sym (fate_met_here h p ws os e o m k.0 g.0) i) (sym (status_here tells p h os o m.spot) i) (held_seen f h))))
      (λ t.
      let ih = succeeded_seen tells hs p ws os e o (past_rest h hs p ws t c) k.1 g.1 in
      ap (λ b. if b then success_maybe (fate_met allowed whole h os) (status_in (slice_get os 0)) (slice_get ws 0) (h ∷ []) ++ successes_walk hs allowed n whole (drop 1 ws) (drop 1 os) else successes_walk hs allowed n whole ws os) t
      ∙ ih
      ∙ sym (ap (λ y. success_of y (status_of all a (option_map place_at h.flies)) (held_seen f h) ++ successes_from tries_by (n - 1) all a (held_of (entries hs f))) (fate_there h h.write h.flies k.0.home t)))
      (true_or_false (flies_here n h.flies))

  pub tally_seen : (q : Fate → Bool) → q Flies ≡ false → (hs : List Kept) (p : ℕ) (ws : List Write) (os : List Outcome) → ws ≡ drop p all → os ≡ drop p given → Carries n p hs ws → AllKept max next hs → Agree tries_by allowed hs
      → tally_walk q hs allowed n whole ws os ≡ how_many q tries_by (n - 1) all a (held_of (entries hs f))
  tally_seen q z [] p ws os e o c k g = refl
  tally_seen q z (h ∷ hs) p ws os e o c k g = ⊎_elim {C = tally_walk q (h ∷ hs) allowed n whole ws os ≡ how_many q tries_by (n - 1) all a (held_of (entries (h ∷ hs) f))}
      (λ t.
      let m = met_here h hs p ws t c in
      let x = fate_met allowed whole h os in
      let ih = tally_seen q z hs (p + 1) (drop 1 ws) (drop 1 os) (ap (drop 1) e ∙ drop_more p all) (ap (drop 1) o ∙ drop_more p given) (met_rest h hs p ws t c) k.1 g.1 in
      ap (λ b. if b then tally_maybe q x (slice_get ws 0) + tally_walk q hs allowed n whole (drop 1 ws) (drop 1 os) else tally_walk q hs allowed n whole ws os) t
      ∙ (λ i. tally_maybe q x (got p h ws m i) + ih i)
      ∙ ap (λ r. r + how_many q tries_by (n - 1) all a (held_of (entries hs f))) (tally_is (q x) ∙ ap (λ y. one_if (q y)) (sym (fate_met_here h p ws os e o m k.0 g.0))))
      (λ t.
      let ih = tally_seen q z hs p ws os e o (past_rest h hs p ws t c) k.1 g.1 in
      ap (λ b. if b then tally_maybe q (fate_met allowed whole h os) (slice_get ws 0) + tally_walk q hs allowed n whole (drop 1 ws) (drop 1 os) else tally_walk q hs allowed n whole ws os) t
      ∙ ih
      ∙ (let none : how_many q tries_by (n - 1) all a (held_of (entries hs f)) ≡ one_if false + how_many q tries_by (n - 1) all a (held_of (entries hs f)) = omega arith in none)
      ∙ sym (ap (λ r. one_if r + how_many q tries_by (n - 1) all a (held_of (entries hs f))) (ap q (fate_there h h.write h.flies k.0.home t) ∙ z)))
      (true_or_false (flies_here n h.flies))
