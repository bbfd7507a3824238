-- Where held operations go when a request is answered.
use Rattle.std.proofs.Common.{◌≡◌, ℕ, ◌+◌, ◌<◌, ◌≤◌, List, [], ◌∷◌, ◌++◌, Option, Some, None, Bool, true, false, ◌==◌, refl, sym, ap, ◌∙◌, subst, ⊎_elim, inl, inr, arith, length, length-append}
use Rattle.std.specs.Prelude.{◌⊎◌, if◌then◌else◌, min, is_some}
use Rattle.relay_action.specs.Actions.{kind_of}
use Rattle.relay_action.specs.declared.write.Write.{Write}
use Rattle.relay_action.specs.declared.operation.OpName.{OpName}
use Rattle.relay_results.specs.declared.cause.Cause.{Cause}
use Rattle.relay_results.specs.Words.{Mem, count, one_if}
use Rattle.relay_results.specs.Documents.{name_of, same_name}
use Rattle.relay_results.specs.Outside.{Answer}
use Rattle.relay_results.specs.Fates.{Fate, Flies, Applied, Already, Retried, Halved, Reported, fate}
use Rattle.relay_results.proofs.Lists.{equal, equal_test, some_same, Mem-cases, Mem-left, Mem-right, Mem-one, count-append}
use Rattle.relay_results.proofs.Fates.{retried_tries}
use Rattle.relay_delivery.specs.Machine.{Config, fewest, tries_for, Held, Place, Report, report_on, fate_of, back_to_wait, with_cap, kept_one, reported_one, still_held, reports_from, is_applied_fate, is_already_fate, how_many}
use Rattle.relay_delivery.proofs.Facts.{AreRising, is_held_as, is_report_as}

-- what stays held of one: as it is, or waiting again, or waiting under a cap
abbrev pub StaysAs : Fate → Held → Held → Type 0
StaysAs t h k = ((t ≡ Flies) × (k ≡ h)) ⊎ (((t ≡ Retried) × (k ≡ back_to_wait h)) ⊎ ((cap : ℕ) × (t ≡ Halved cap) × (k ≡ with_cap cap h)))

abbrev pub kept_as : Fate → Held → Held
kept_as Flies h = h
kept_as Applied h = h
kept_as Already h = h
kept_as Retried h = back_to_wait h
kept_as (Halved cap) h = with_cap cap h
kept_as (Reported e) h = h

pub kept_is : (t : Fate) (h k : Held) → StaysAs t h k → k ≡ kept_as t h
kept_is t h k s = ⊎_elim {C = k ≡ kept_as t h}
    (λ y. y.1 ∙ ap (λ f. kept_as f h) (sym y.0))
    (λ s. ⊎_elim {C = k ≡ kept_as t h} (λ y. y.1 ∙ ap (λ f. kept_as f h) (sym y.0)) (λ y. y.2 ∙ ap (λ f. kept_as f h) (sym y.1)) s)
    s

as_version : (t : Fate) (h : Held) → (kept_as t h).version ≡ h.version
as_version Flies h = refl
as_version Applied h = refl
as_version Already h = refl
as_version Retried h = refl
as_version (Halved cap) h = refl
as_version (Reported e) h = refl

as_op : (t : Fate) (h : Held) → (kept_as t h).op ≡ h.op
as_op Flies h = refl
as_op Applied h = refl
as_op Already h = refl
as_op Retried h = refl
as_op (Halved cap) h = refl
as_op (Reported e) h = refl

pub kept_version : (t : Fate) (h k : Held) → StaysAs t h k → k.version ≡ h.version
kept_version t h k s = ap (λ (z : Held). z.version) (kept_is t h k s) ∙ as_version t h

pub kept_op : (t : Fate) (h k : Held) → StaysAs t h k → k.op ≡ h.op
kept_op t h k s = ap (λ (z : Held). z.op) (kept_is t h k s) ∙ as_op t h

kept_head : (t : Fate) (h k : Held) → Mem k (kept_one t h) → StaysAs t h k
kept_head Flies h k m = inl (refl, Mem-one k h m)
kept_head Applied h k m = elim m [ ]
kept_head Already h k m = elim m [ ]
kept_head Retried h k m = inr (inl (refl, Mem-one k (back_to_wait h) m))
kept_head (Halved cap) h k m = inr (inr (cap, refl, Mem-one k (with_cap cap h) m))
kept_head (Reported e) h k m = elim m [ ]

fewest-by : (g : Config) (a b : Bool) → (if a then min 1 g.max else g.max) ≤ (if b then (if a then min 1 g.max else g.max) else g.max)
fewest-by g true true = omega arith
fewest-by g true false = omega arith
fewest-by g false true = omega arith
fewest-by g false false = omega arith

-- an operation has at least the fewest tries, and at most all
pub fewest-least : (g : Config) (old : ℕ → Bool) (version : ℕ) → fewest g ≤ tries_for g old version
fewest-least g old version = fewest-by g (is_some g.age) (old version)

most-by : (g : Config) (a b : Bool) → (if b then (if a then min 1 g.max else g.max) else g.max) ≤ g.max
most-by g true true = omega arith
most-by g true false = omega arith
most-by g false true = omega arith
most-by g false false = omega arith

pub tries-most : (g : Config) (old : ℕ → Bool) (version : ℕ) → tries_for g old version ≤ g.max
tries-most g old version = most-by g (is_some g.age) (old version)

module _ (allowed : ℕ → ℕ) (number : ℕ) (ws : List Write) (a : Answer) where
  abbrev pub turn : Held → Fate
  turn h = fate_of allowed number ws a h h.flies

  pub kept-from : (hs : List Held) (k : Held) → Mem k (still_held allowed number ws a hs) → (h : Held) × Mem h hs × StaysAs (turn h) h k
  kept-from [] k m = elim m [ ]
  kept-from (h ∷ hs) k m = ⊎_elim
      (λ l. (h, inl refl, kept_head (turn h) h k l))
      (λ r. let s = kept-from hs k r in (s.0, inr s.1, s.2))
      (Mem-cases k (kept_one (turn h) h) (still_held allowed number ws a hs) m)

  reported_head : (t : Fate) (h : Held) (r : Report) → Mem r (reported_one t h) → (e : Cause) × (t ≡ Reported e) × (r ≡ report_on h.op e)
  reported_head Flies h r m = elim m [ ]
  reported_head Applied h r m = elim m [ ]
  reported_head Already h r m = elim m [ ]
  reported_head Retried h r m = elim m [ ]
  reported_head (Halved cap) h r m = elim m [ ]
  reported_head (Reported e) h r m = (e, refl, Mem-one r (report_on h.op e) m)

  pub reported-from : (hs : List Held) (r : Report) → Mem r (reports_from allowed number ws a hs) → (h : Held) × Mem h hs × ((e : Cause) × (turn h ≡ Reported e) × (r ≡ report_on h.op e))
  reported-from [] r m = elim m [ ]
  reported-from (h ∷ hs) r m = ⊎_elim
      (λ l. (h, inl refl, reported_head (turn h) h r l))
      (λ y. let s = reported-from hs r y in (s.0, inr s.1, s.2))
      (Mem-cases r (reported_one (turn h) h) (reports_from allowed number ws a hs) m)

  -- it stays held, or it is done, or it is reported
  abbrev pub GoesTo : Held → List Held → List Report → Type 0
  GoesTo h ks rs = ((k : Held) × Mem k ks × (k.version ≡ h.version)) ⊎ (((turn h ≡ Applied) ⊎ (turn h ≡ Already)) ⊎ ((e : Cause) × Mem (report_on h.op e) rs))

  goes_head : (t : Fate) (h : Held) → turn h ≡ t → GoesTo h (kept_one t h) (reported_one t h)
  goes_head Flies h e = inl (h, inl refl, refl)
  goes_head Applied h e = inr (inl (inl e))
  goes_head Already h e = inr (inl (inr e))
  goes_head Retried h e = inl (back_to_wait h, inl refl, refl)
  goes_head (Halved cap) h e = inl (with_cap cap h, inl refl, refl)
  goes_head (Reported cause) h e = inr (inr (cause, inl refl))

  goes_left : (h : Held) (ks ks' : List Held) (rs rs' : List Report) → GoesTo h ks rs → GoesTo h (ks ++ ks') (rs ++ rs')
  goes_left h ks ks' rs rs' w = ⊎_elim (λ m. inl (m.0, Mem-left m.0 ks ks' m.1, m.2)) (λ r. inr (⊎_elim (λ e. inl e) (λ m. inr (m.0, Mem-left (report_on h.op m.0) rs rs' m.1)) r)) w

  goes_right : (h : Held) (ks ks' : List Held) (rs rs' : List Report) → GoesTo h ks' rs' → GoesTo h (ks ++ ks') (rs ++ rs')
  goes_right h ks ks' rs rs' w = ⊎_elim (λ m. inl (m.0, Mem-right m.0 ks ks' m.1, m.2)) (λ r. inr (⊎_elim (λ e. inl e) (λ m. inr (m.0, Mem-right (report_on h.op m.0) rs rs' m.1)) r)) w

  pub goes_to : (hs : List Held) (h : Held) → Mem h hs → GoesTo h (still_held allowed number ws a hs) (reports_from allowed number ws a hs)
  goes_to [] h m = elim m [ ]
  goes_to (k ∷ hs) h m = ⊎_elim
      (λ e. subst (λ x. GoesTo x (still_held allowed number ws a (k ∷ hs)) (reports_from allowed number ws a (k ∷ hs))) (sym e)
      (goes_left k (kept_one (turn k) k) (still_held allowed number ws a hs) (reported_one (turn k) k) (reports_from allowed number ws a hs) (goes_head (turn k) k refl)))
      (λ r. goes_right h (kept_one (turn k) k) (still_held allowed number ws a hs) (reported_one (turn k) k) (reports_from allowed number ws a hs) (goes_to hs h r))
      m

  count_head : (n : OpName) (t : Fate) (h : Held) → count (is_held_as n) (kept_one t h) + count (is_report_as n) (reported_one t h) ≤ one_if (same_name n (name_of h.op))
  count_head n Flies h = omega arith
  count_head n Applied h = omega arith
  count_head n Already h = omega arith
  count_head n Retried h = omega arith
  count_head n (Halved cap) h = omega arith
  count_head n (Reported e) h = omega arith

  -- none is held or reported twice for it
  pub count-settled : (n : OpName) (hs : List Held) → count (is_held_as n) (still_held allowed number ws a hs) + count (is_report_as n) (reports_from allowed number ws a hs) ≤ count (is_held_as n) hs
  count-settled n [] = omega arith
  count-settled n (h ∷ hs) =
      let r = count-settled n hs in
      let e = count_head n (turn h) h in
      let k = count-append (is_held_as n) (kept_one (turn h) h) (still_held allowed number ws a hs) in
      let p = count-append (is_report_as n) (reported_one (turn h) h) (reports_from allowed number ws a hs) in
      omega arith

  rising_head : (t : Fate) (h : Held) (ks : List Held) → ((k : Held) → Mem k ks → h.version < k.version) → AreRising ks → AreRising (kept_one t h ++ ks)
  rising_head Flies h ks above r = (above, r)
  rising_head Applied h ks above r = r
  rising_head Already h ks above r = r
  rising_head Retried h ks above r = (above, r)
  rising_head (Halved cap) h ks above r = (above, r)
  rising_head (Reported e) h ks above r = r

  pub rising-settled : (hs : List Held) → AreRising hs → AreRising (still_held allowed number ws a hs)
  rising-settled [] r = tt
  rising-settled (h ∷ hs) r = rising_head (turn h) h (still_held allowed number ws a hs)
      (λ k m.
      let j = kept-from hs k m in
      let v = kept_version (turn j.0) j.0 k j.2 in
      let lt = r.0 j.0 j.1 in omega (arith, v, lt))
      (rising-settled hs r.1)

  totals_head : (t : Fate) (h : Held) → length (kept_one t h) + (one_if (is_applied_fate t) + one_if (is_already_fate t)) + length (reported_one t h) ≡ 1
  totals_head Flies h = refl
  totals_head Applied h = refl
  totals_head Already h = refl
  totals_head Retried h = refl
  totals_head (Halved cap) h = refl
  totals_head (Reported e) h = refl

  -- each operation stays held, is done or is reported
  pub totals-settled : (hs : List Held) → length (still_held allowed number ws a hs) + (how_many is_applied_fate allowed number ws a hs + how_many is_already_fate allowed number ws a hs) + length (reports_from allowed number ws a hs) ≡ length hs
  totals-settled [] = refl
  totals-settled (h ∷ hs) =
      let r = totals-settled hs in
      let e = totals_head (turn h) h in
      let k = length-append (kept_one (turn h) h) (still_held allowed number ws a hs) in
      let p = length-append (reported_one (turn h) h) (reports_from allowed number ws a hs) in
      omega arith

  -- it does not fly in this request; or it flies there, and the answer has its fate
  pub record IsAway (h : Held) : Type 0 where
    pub stays : turn h ≡ Flies
    pub elsewhere : (place : ℕ) → h.flies ≡ Some (record { request = number; place = place }) → ⊥

  pub record IsHere (h : Held) : Type 0 where
    pub place : ℕ
    pub flies : h.flies ≡ Some (record { request = number; place = place })
    pub fate_is : turn h ≡ fate (record { version = h.version; sends = h.sends; attempts = h.attempts; max = allowed h.version }) ws place (kind_of h.op.action) a

  turn_by : (h : Held) (f : Place) (b : Bool) → (f.request == number) ≡ b → h.flies ≡ Some f → IsAway h ⊎ IsHere h
  turn_by h f true t e =
      let at : f.request ≡ number = equal f.request number t in
      inr (record {
        place = f.place;
        flies = e ∙ (λ i. Some (record { request = at i; place = f.place }));
        fate_is = ap (fate_of allowed number ws a h) e ∙ ap (λ b. if b then fate (record { version = h.version; sends = h.sends; attempts = h.attempts; max = allowed h.version }) ws f.place (kind_of h.op.action) a else Flies) t;
      })
  turn_by h f false t e = inl (record {
    stays = ap (fate_of allowed number ws a h) e ∙ ap (λ b. if b then fate (record { version = h.version; sends = h.sends; attempts = h.attempts; max = allowed h.version }) ws f.place (kind_of h.op.action) a else Flies) t;
    elsewhere = λ place e'.
        let same = some_same f (record { request = number; place = place }) (sym e ∙ e') in
        let t' = equal_test f.request number (ap (λ (x : Place). x.request) same) in cc (t, t');
  })

  turn_of : (h : Held) (f : Option Place) → h.flies ≡ f → IsAway h ⊎ IsHere h
  turn_of h None e = inl (record { stays = ap (fate_of allowed number ws a h) e; elsewhere = λ place e'. cc (e, e') })
  turn_of h (Some f) e = turn_by h f (f.request == number) refl e

  pub away_or_here : (h : Held) → IsAway h ⊎ IsHere h
  away_or_here h = turn_of h h.flies refl

  -- what waits again has tries left
  pub retried_left : (h : Held) → turn h ≡ Retried → h.attempts < allowed h.version
  retried_left h e = ⊎_elim {C = h.attempts < allowed h.version}
      (λ w. absurd (cc (e, w.stays)))
      (λ w. retried_tries (record { version = h.version; sends = h.sends; attempts = h.attempts; max = allowed h.version }) ws w.place (kind_of h.op.action) a (sym w.fate_is ∙ e))
      (away_or_here h)
