-- A status of a whole request that is not retried: each of its operations is reported, the first with the reason.
use Rattle.std.proofs.Common.{◌≡◌, ℕ, suc, ◌+◌, ◌-◌, ◌≤◌, List, [], ◌∷◌, ◌++◌, Option, Some, None, Bool, true, false, refl, sym, ap, ◌∙◌, subst, ⊎_elim, arith}
use Rattle.std.proofs.lemmas.List.{length-map}
use Rattle.std.specs.Prelude.{length, ◌==◌, ◌/◌, if◌then◌else◌, option_map, filter}
use Rattle.relay_action.specs.Actions.{kind_of}
use Rattle.relay_action.specs.declared.action.ActionKind.{ActionKind}
use Rattle.relay_action.specs.declared.write.Write.{Write}
use Rattle.relay_results.specs.declared.cause.Cause.{Cause}
use Rattle.relay_results.specs.declared.cause.Cause.TheVariants as cause
use Rattle.relay_results.specs.declared.cause.LastTry.TheVariants as last
use Rattle.relay_results.specs.Words.{one_if}
use Rattle.relay_results.specs.Outside.{Whole}
use Rattle.relay_results.specs.Verdicts.{is_halved, is_retried_whole}
use Rattle.relay_results.specs.Fates.{Fate, Flies, Halved, Reported, Tries, tried_again, reason_at, fate}
use Rattle.relay_results.proofs.Lists.{true_or_false, equal_test}
use Rattle.relay_delivery.specs.Machine.{Place, Held, Report, fate_of, report_on, reported_one, reports_from, how_many, is_applied_fate, is_already_fate}
use Rattle.relay_delivery.specs.Lane.{Entry, held_of, kept_entry, kept_entries}
use Rattle.relay_delivery.specs.Lane as delivery
use Rattle.relay_flight.specs.Flying as flight
use Rattle.relay_held.specs.declared.kept.Kept.{Kept}
use Rattle.relay_held.specs.declared.kept.Spot.{Spot}
use Rattle.relay_core.specs.Successes.{status_of, success_of, successes_from}
use Rattle.relay_core.proofs.Keeping.{one_less}
use Rattle.relay_core.specs.Walk.{report_of, flies_here, explained}
use Rattle.relay_core.specs.Memory.{place_at, held_seen, entries, writes_in, Carries, IsHome, IsKept, AllKept, IsMet, Given, further, rest_if}
use Rattle.relay_core.specs.declared.lane.Lane.TheInside.{Inside}
use Rattle.relay_core.specs.declared.settled.Settled.{Settled}
use Rattle.relay_core.specs.State.{writes_of, after_answer_to, explained_at, is_reported_fate, is_retried_fate, AreCounts}
use Rattle.relay_core.specs.View.{state_of, IsSound}

module _ (allowed : ℕ → ℕ) (number : ℕ) (ws : List Write) (status : ℕ) (given : Option (List ℕ)) (half : is_halved (length ws) status ≡ false) (again : is_retried_whole status ≡ false) where
  -- the fate of each operation of the request, whatever the reason
  met : (reason : Option (List ℕ)) (t : Tries) (p : ℕ) (kind : ActionKind) → fate t ws p kind (Whole status reason) ≡ Reported (cause.Request status (reason_at p reason))
  met reason t p kind =
      ap (λ b. if b then Halved (length ws / 2) else if is_retried_whole status then tried_again t (last.Whole status) else Reported (cause.Request status (reason_at p reason))) half
      ∙ ap (λ b. if b then tried_again t (last.Whole status) else Reported (cause.Request status (reason_at p reason))) again

  -- what does not look at causes is the same with a reason and without
  same_by : {A : Type 0} (F : Fate → A) (z : A) → ((c : Cause) → F (Reported c) ≡ z) → (h : Held) (fl : Option Place)
      → F (fate_of allowed number ws (Whole status given) h fl) ≡ F (fate_of allowed number ws (Whole status None) h fl)
  same_by F z is h None = refl
  same_by F z is h (Some f) = by (f.request == number)
    where
      tries : Tries
      tries = record { version = h.version; sends = h.sends; attempts = h.attempts; max = allowed h.version }

      by : (b : Bool) → F (if b then fate tries ws f.place (kind_of h.op.action) (Whole status given) else Flies) ≡ F (if b then fate tries ws f.place (kind_of h.op.action) (Whole status None) else Flies)
      by true = ap F (met given tries f.place (kind_of h.op.action)) ∙ is _ ∙ sym (ap F (met None tries f.place (kind_of h.op.action)) ∙ is _)
      by false = refl

  pub kept_same : (clock : ℕ) (es : List Entry) → kept_entries allowed clock number ws (Whole status given) es ≡ kept_entries allowed clock number ws (Whole status None) es
  kept_same clock [] = refl
  kept_same clock (e ∷ es) = λ i. same_by (λ x. kept_entry clock x e) [] (λ c. refl) e.held e.held.flies i ++ kept_same clock es i

  pub many_same : (test : Fate → Bool) (b : Bool) → ((c : Cause) → test (Reported c) ≡ b) → (hs : List Held) → how_many test allowed number ws (Whole status given) hs ≡ how_many test allowed number ws (Whole status None) hs
  many_same test b is [] = refl
  many_same test b is (h ∷ hs) = λ i. one_if (same_by test b is h h.flies i) + many_same test b is hs i

  status_same : (fl : Option Place) → status_of ws (Whole status given) fl ≡ status_of ws (Whole status None) fl
  status_same None = refl
  status_same (Some f) = refl

  pub noted_same : (hs : List Held) → successes_from allowed number ws (Whole status given) hs ≡ successes_from allowed number ws (Whole status None) hs
  noted_same [] = refl
  noted_same (h ∷ hs) = λ i.
      (ap (λ s. success_of (fate_of allowed number ws (Whole status given) h h.flies) s h) (status_same h.flies)
      ∙ same_by (λ x. success_of x (status_of ws (Whole status None) h.flies) h) [] (λ c. refl) h h.flies) i ++ noted_same hs i

  -- ---- the reports

  -- one that is not in flight in the request ends nothing
  reported_there : (reason : Option (List ℕ)) (h : Held) (fl : Option Place) → (fate_of allowed number ws (Whole status reason) h fl ≡ Flies) → reported_one (fate_of allowed number ws (Whole status reason) h fl) h ≡ []
  reported_there reason h fl e = ap (λ x. reported_one x h) e

  reported_here : (reason : Option (List ℕ)) (h : Held) (p : ℕ) → fate_of allowed number ws (Whole status reason) h (Some (record { request = number; place = p })) ≡ Reported (cause.Request status (reason_at p reason))
  reported_here reason h p =
      ap (λ b. if b then fate (record { version = h.version; sends = h.sends; attempts = h.attempts; max = allowed h.version }) ws p (kind_of h.op.action) (Whole status reason) else Flies) (equal_test number number refl)
      ∙ met reason (record { version = h.version; sends = h.sends; attempts = h.attempts; max = allowed h.version }) p (kind_of h.op.action)

-- held operations in memory: those in flight in the request are at its places, in order
module _ (allowed : ℕ → ℕ) (max next n : ℕ) (ws : List Write) (status : ℕ) (given : Option (List ℕ)) (half : is_halved (length ws) status ≡ false) (again : is_retried_whole status ≡ false) (from : 1 ≤ n) (f : ℕ → List Write) where
  away : (reason : Option (List ℕ)) (h : Kept) (w : Option Write) (p : Option Spot) → IsHome max next h w p → flies_here n p ≡ false → fate_of allowed (n - 1) ws (Whole status reason) (held_seen f h) (option_map place_at p) ≡ Flies
  away reason h w None k t = refl
  away reason h (Some w) (Some s) k t = absurd k
  away reason h None (Some s) k t =
      ap (λ b. if b then fate (record { version = h.version; sends = h.sends; attempts = h.attempts; max = allowed h.version }) ws s.place (kind_of (held_seen f h).op.action) (Whole status reason) else Flies) (one_less s.request n k.0 from ∙ t)

  abbrev from_held : Option (List ℕ) → List Kept → List Report
  from_held reason hs = reports_from allowed (n - 1) ws (Whole status reason) (held_of (entries hs f))

  here_is : (reason : Option (List ℕ)) (h : Kept) (p : ℕ) → h.flies ≡ Some (record { request = n; place = p }) → (rest : List Report)
      → reported_one (fate_of allowed (n - 1) ws (Whole status reason) (held_seen f h) (option_map place_at h.flies)) (held_seen f h) ++ rest ≡ report_on (held_seen f h).op (cause.Request status (reason_at p reason)) ∷ rest
  here_is reason h p s rest =
      ap (λ x. reported_one (fate_of allowed (n - 1) ws (Whole status reason) (held_seen f h) (option_map place_at x)) (held_seen f h) ++ rest) s
      ∙ ap (λ x. reported_one x (held_seen f h) ++ rest) (reported_here allowed (n - 1) ws status given half again reason (held_seen f h) p)

  there_is : (reason : Option (List ℕ)) (h : Kept) → IsKept max next h → flies_here n h.flies ≡ false → (rest : List Report)
      → reported_one (fate_of allowed (n - 1) ws (Whole status reason) (held_seen f h) (option_map place_at h.flies)) (held_seen f h) ++ rest ≡ rest
  there_is reason h k t rest = ap (λ x. reported_one x (held_seen f h) ++ rest) (away reason h h.write h.flies k.home t)

  -- from the second place on there is no reason
  later_same : (hs : List Kept) (p : ℕ) (vs : List Write) → AllKept max next hs → Carries n (suc p) hs vs → from_held given hs ≡ from_held None hs
  later_same [] p vs k c = refl
  later_same (h ∷ hs) p vs k c = ⊎_elim {C = from_held given (h ∷ hs) ≡ from_held None (h ∷ hs)}
      (λ t.
      let m : IsMet n (suc p) h vs = subst (λ b. Given b (IsMet n (suc p) h vs)) t c.0 in
      let r = later_same hs (suc p) (rest_if true vs) k.1 (subst (λ q. Carries n q hs (rest_if true vs)) (omega arith) (subst (λ b. Carries n (further b (suc p)) hs (rest_if b vs)) t c.1)) in
      here_is given h (suc p) m.spot (from_held given hs) ∙ ap (λ xs. report_on (held_seen f h).op (cause.Request status None) ∷ xs) r ∙ sym (here_is None h (suc p) m.spot (from_held None hs)))
      (λ t.
      let r = later_same hs p vs k.1 (subst (λ b. Carries n (further b (suc p)) hs (rest_if b vs)) t c.1) in
      there_is given h k.0 t (from_held given hs) ∙ r ∙ sym (there_is None h k.0 t (from_held None hs)))
      (true_or_false (flies_here n h.flies))

  -- the first has the reason
  pub first_explained : (hs : List Kept) (vs : List Write) → AllKept max next hs → Carries n 0 hs vs → from_held given hs ≡ explained 0 given (from_held None hs)
  first_explained [] vs k c = refl
  first_explained (h ∷ hs) vs k c = ⊎_elim {C = from_held given (h ∷ hs) ≡ explained 0 given (from_held None (h ∷ hs))}
      (λ t.
      let m : IsMet n 0 h vs = subst (λ b. Given b (IsMet n 0 h vs)) t c.0 in
      let r = later_same hs 0 (rest_if true vs) k.1 (subst (λ b. Carries n (further b 0) hs (rest_if b vs)) t c.1) in
      here_is given h 0 m.spot (from_held given hs) ∙ ap (λ xs. report_on (held_seen f h).op (cause.Request status given) ∷ xs) r ∙ sym (ap (explained 0 given) (here_is None h 0 m.spot (from_held None hs))))
      (λ t.
      let r = first_explained hs vs k.1 (subst (λ b. Carries n (further b 0) hs (rest_if b vs)) t c.1) in
      there_is given h k.0 t (from_held given hs) ∙ r ∙ sym (ap (explained 0 given) (there_is None h k.0 t (from_held None hs))))
      (true_or_false (flies_here n h.flies))

-- the report after these
pub explained_after : (rs new : List Report) (given : Option (List ℕ)) → explained (length rs) given (rs ++ new) ≡ rs ++ explained 0 given new
explained_after [] [] given = refl
explained_after [] (r ∷ new) given = refl
explained_after (r ∷ rs) new given = ap (λ xs. r ∷ xs) (explained_after rs new given)

-- ---- the lane

-- the reports that a lane has, and how many operations an answer ends in some way, after a request that is refused as a
-- whole: as without the reason, and then its first report gets it
module _ (a : Inside) (v : IsSound a) (n status : ℕ) (given : Option (List ℕ)) (from : 1 ≤ n) (half : is_halved (length (writes_of n (state_of a))) status ≡ false) (again : is_retried_whole status ≡ false) where
  pub same_counts : (c : Settled) → AreCounts (state_of a) n (Whole status None) c → AreCounts (state_of a) n (Whole status given) c
  same_counts c k =
      let s = state_of a in
      let hs = held_of s.core.held in
      record {
        applied = k.applied ∙ sym (many_same (delivery.tries_in s.core) (n - 1) (writes_of n s) status given half again is_applied_fate false (λ c. refl) hs);
        already = k.already ∙ sym (many_same (delivery.tries_in s.core) (n - 1) (writes_of n s) status given half again is_already_fate false (λ c. refl) hs);
        reported = k.reported ∙ sym (many_same (delivery.tries_in s.core) (n - 1) (writes_of n s) status given half again is_reported_fate true (λ c. refl) hs);
        retried = k.retried ∙ sym (many_same (delivery.tries_in s.core) (n - 1) (writes_of n s) status given half again is_retried_fate false (λ c. refl) hs);
      }

  rejected_core : (place : ℕ) → place ≡ length (state_of a).core.reports
      → record (delivery.after_answer_to (state_of a).core n (Whole status None)) { reports = explained place given (delivery.after_answer_to (state_of a).core n (Whole status None)).reports }
      ≡ delivery.after_answer_to (state_of a).core n (Whole status given)
  rejected_core place is =
      let s = state_of a in
      let ws = writes_of n s in
      let f = writes_in a.flight.requests in
      let hs = held_of s.core.held in
      let none = reports_from (delivery.tries_in s.core) (n - 1) ws (Whole status None) hs in
      let reports = ap (λ k. explained k given (s.core.reports ++ none)) is
      ∙ explained_after s.core.reports none given
      ∙ ap (λ xs. s.core.reports ++ xs) (sym (first_explained (delivery.tries_in s.core) a.config.attempts a.flight.next n ws status given half again from f a.held.list (f n) v.readable.kept (v.readable.carries n))) in
      λ i. record s.core {
        held = sym (kept_same (delivery.tries_in s.core) (n - 1) ws status given half again s.core.clock s.core.held) i;
        flying = filter (delivery.is_other (n - 1)) s.core.flying;
        reports = reports i;
        applied = s.core.applied + sym (many_same (delivery.tries_in s.core) (n - 1) ws status given half again is_applied_fate false (λ c. refl) hs) i;
        already = s.core.already + sym (many_same (delivery.tries_in s.core) (n - 1) ws status given half again is_already_fate false (λ c. refl) hs) i;
      }

  pub rejected : (place : ℕ) → place ≡ length a.reports.items → explained_at place given (after_answer_to (state_of a) n (Whole status None)) ≡ after_answer_to (state_of a) n (Whole status given)
  rejected place is =
      let s = state_of a in
      let l = length-map a.reports.items report_of in
      λ i. record s {
        core = rejected_core place (omega (arith, is, l)) i;
        flights = flight.without_batch n s.flights;
        successes = s.successes ++ sym (noted_same (delivery.tries_in s.core) (n - 1) (writes_of n s) status given half again (held_of s.core.held)) i;
      }
