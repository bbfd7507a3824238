-- What telling one producer shows.
use Rattle.std.proofs.Common.{◌≡◌, ◌≢◌, ℕ, zero, suc, ◌+◌, ◌<◌, ◌≤◌, Bool, true, false, eqb, List, [], ◌∷◌, ◌++◌, length, set, get_or, take, Option, None, refl, sym, ap, ◌∙◌, subst, ⊎_elim, append_assoc, append-nil, arith}
use Rattle.std.specs.Prelude.{◌==◌}
use Rattle.std.specs.List.{filter_map}
use Rattle.std.proofs.Math.Seq.{map-set_same}
use Rattle.std.proofs.lemmas.Bool.Decides.{eqb_tells}
use Rattle.std.proofs.lemmas.List.{take_more}
use Rattle.std.proofs.lemmas.List.Elements.{filter-append, filter_map-append}
use Rattle.relay_results.proofs.Lists.{some_same, none_some}
use Rattle.relay_delivery.specs.Machine as delivery
use Rattle.relay_core.specs.declared.report.Report.{Report}
use Rattle.relay_core.specs.declared.success.Success.{Success}
use Rattle.relay_core.specs.Walk.{report_of}
use Rattle.relay_threads.specs.Told.{Told, applied_of, reports_of, AddsApplied, AddsReport, AddsNothing}
use Rattle.relay_telling.specs.declared.ending.Ending.{Ending}
use Rattle.relay_telling.specs.declared.ending.Ending.TheVariants.{Applied, Reported}
use Rattle.relay_telling.specs.declared.lane_tells.ProducerTell.{ProducerTell}
use Rattle.relay_telling.specs.Destinations.{identity, identities}
use Rattle.relay_telling.specs.Endings.{success_in, report_in, told_in}
use Rattle.relay_telling.specs.Shown.{unless_gone, shown_by, shown_at, TellsOne, AddsEnding, TellsTo}

-- ---- one end

adds : (ending : Ending) (og ng : Bool) (ot nt : List Ending) → (ng ≡ false → og ≡ false) → (ng ≡ false → nt ≡ ot ++ ending ∷ []) → AddsEnding ending (unless_gone og ot) (unless_gone ng nt)
adds ending og true ot nt g t all e = absurd (none_some all e)
adds ending og false ot nt g t all e = (ot, ap (λ b. unless_gone b ot) (g refl), some_same all (told_in nt) (sym e) ∙ ap told_in (t refl))

adds_ending : (ending : Ending) (old new : ProducerTell) → TellsOne ending old new → AddsEnding ending (shown_by old) (shown_by new)
adds_ending ending old new h = adds ending old.gone new.gone old.tell.told new.tell.told h.gone h.told

-- ---- all ends

-- the ends are as they were, if the one at this place is
pub same_ends : (es : List ProducerTell) (k : ℕ) (e e' : ProducerTell) → e ≡ get_or es k e → identity e' ≡ identity e → identities (set es k e') ≡ identities es
same_ends es k e e' is same = map-set_same identity es k e' e (same ∙ ap identity is)

-- the producer at this place is told, and the others are not
tells_only : (es : List ProducerTell) (k : ℕ) (e e' : ProducerTell) (ending : Ending) → k < length es → e ≡ get_or es k e → TellsOne ending e e'
    → AddsEnding ending (shown_at es k) (shown_at (set es k e') k) × ((p : ℕ) → p ≢ k → AddsNothing (shown_at es p) (shown_at (set es k e') p))
tells_only [] k e e' ending lt is h = absurd (omega (arith, lt))
tells_only (x ∷ es) zero e e' ending lt is h = (subst (λ y. AddsEnding ending (shown_by y) (shown_by e')) is (adds_ending ending e e' h), others) where
  others : (p : ℕ) → p ≢ zero → AddsNothing (shown_at (x ∷ es) p) (shown_at (e' ∷ es) p)
  others zero n = absurd (n refl)
  others (suc q) n = λ all s. s
tells_only (x ∷ es) (suc k) e e' ending lt is h =
    let r = tells_only es k e e' ending (omega (arith, lt)) is h in
    (r.0, others k e' (λ p n. r.1 p n)) where
      others : (k : ℕ) (e' : ProducerTell) → ((p : ℕ) → p ≢ k → AddsNothing (shown_at es p) (shown_at (set es k e') p)) → (p : ℕ) → p ≢ suc k → AddsNothing (shown_at (x ∷ es) p) (shown_at (x ∷ set es k e') p)
      others k e' r zero n = λ all s. s
      others k e' r (suc q) n = r q (λ e. n (ap suc e))

pub tells_at : (es : List ProducerTell) (k : ℕ) (e e' : ProducerTell) (ending : Ending) → k < length es → e ≡ get_or es k e → TellsOne ending e e' → TellsTo k ending es (set es k e')
tells_at es k e e' ending lt is h =
    let r = tells_only es k e e' ending lt is h in
    (r.0, r.1, same_ends es k e e' is h.same)

-- nobody is at a place past the ends
nobody_past : (es : List ProducerTell) (k : ℕ) → length es ≤ k → shown_at es k ≡ None
nobody_past [] k e = refl
nobody_past (x ∷ es) zero e = absurd (omega (arith, e))
nobody_past (x ∷ es) (suc k) e = nobody_past es k (omega (arith, e))

pub tells_nobody : (es : List ProducerTell) (k : ℕ) (ending : Ending) → length es ≤ k → TellsTo k ending es es
tells_nobody es k ending e = ((λ all s. absurd (none_some all (sym (nobody_past es k e) ∙ s))), (λ p apart all s. s), refl)

-- the same is shown by an end that closed
pub closes_at : (es : List ProducerTell) (k : ℕ) (e e' : ProducerTell) → k < length es → e ≡ get_or es k e → e'.tell.told ≡ e.tell.told → e'.gone ≡ e.gone → (p : ℕ) → shown_at (set es k e') p ≡ shown_at es p
closes_at [] k e e' lt is told gone p = absurd (omega (arith, lt))
closes_at (x ∷ es) zero e e' lt is told gone zero = (λ i. unless_gone (gone i) (told i)) ∙ ap shown_by is
closes_at (x ∷ es) zero e e' lt is told gone (suc p) = refl
closes_at (x ∷ es) (suc k) e e' lt is told gone zero = refl
closes_at (x ∷ es) (suc k) e e' lt is told gone (suc p) = closes_at es k e e' (omega (arith, lt)) is told gone p

-- ---- of what it was told

own_success : (p : ℕ) (s : Success) → eqb s.name.producer p ≡ true → applied_of p (s ∷ []) ≡ s ∷ []
own_success p s e = rw e refl

other_success : (p : ℕ) (s : Success) → eqb s.name.producer p ≡ false → applied_of p (s ∷ []) ≡ []
other_success p s e = rw e refl

pub one_applied : (p : ℕ) (s : Success) (old new : List ProducerTell) → TellsTo s.name.producer (Applied s) old new → AddsApplied p (s ∷ []) (shown_at old p) (shown_at new p)
one_applied p s old new h = ⊎_elim
    (λ (e : (eqb s.name.producer p ≡ true) × (s.name.producer ≡ p)). λ all is.
    let t = h.0 all (ap (shown_at new) e.1 ∙ is) in (
      told_in t.0,
      ap (shown_at old) (sym e.1) ∙ t.1,
      t.2 ∙ (λ i. record {
        applied = (filter_map-append success_in t.0 (Applied s ∷ []) ∙ ap (λ l. filter_map success_in t.0 ++ l) (sym (own_success p s e.0))) i;
        reported = (filter_map-append report_in t.0 (Applied s ∷ []) ∙ append-nil (filter_map report_in t.0)) i;
      }),
    ))
    (λ (e : (eqb s.name.producer p ≡ false) × (s.name.producer ≢ p)). λ all is. (
      all,
      h.1 p (λ q. e.1 (sym q)) all is,
      (λ i. record { applied = sym (ap (λ l. all.applied ++ l) (other_success p s e.0) ∙ append-nil all.applied) i; reported = all.reported }),
    )) (eqb_tells s.name.producer p)

own_report : (p : ℕ) (r : delivery.Report) → eqb r.name.producer p ≡ true → reports_of p (r ∷ []) ≡ r ∷ []
own_report p r e = rw e refl

other_report : (p : ℕ) (r : delivery.Report) → eqb r.name.producer p ≡ false → reports_of p (r ∷ []) ≡ []
other_report p r e = rw e refl

pub one_reported : (p : ℕ) (r : Report) (old new : List ProducerTell) → TellsTo r.name.producer (Reported r) old new → AddsReport p (report_of r) (shown_at old p) (shown_at new p)
one_reported p r old new h = ⊎_elim
    (λ (e : (eqb r.name.producer p ≡ true) × (r.name.producer ≡ p)). λ all is.
    let t = h.0 all (ap (shown_at new) e.1 ∙ is) in (
      told_in t.0,
      ap (shown_at old) (sym e.1) ∙ t.1,
      t.2 ∙ (λ i. record {
        applied = (filter_map-append success_in t.0 (Reported r ∷ []) ∙ append-nil (filter_map success_in t.0)) i;
        reported = (filter_map-append report_in t.0 (Reported r ∷ []) ∙ ap (λ l. filter_map report_in t.0 ++ l) (sym (own_report p (report_of r) e.0))) i;
      }),
    ))
    (λ (e : (eqb r.name.producer p ≡ false) × (r.name.producer ≢ p)). λ all is. (
      all,
      h.1 p (λ q. e.1 (sym q)) all is,
      (λ i. record { applied = all.applied; reported = sym (ap (λ l. all.reported ++ l) (other_report p (report_of r) e.0) ∙ append-nil all.reported) i }),
    )) (eqb_tells r.name.producer p)

-- one success after others
pub adds_more : (p : ℕ) (xs : List Success) (k : ℕ) (x d : Success) (a b c : Option Told) → k < length xs → get_or xs k d ≡ x → AddsApplied p (take k xs) a b → AddsApplied p (x ∷ []) b c → AddsApplied p (take (k + 1) xs) a c
adds_more p xs k x d a b c lt at first then all is =
    let t = then all is in
    let s = first t.0 t.1 in
    let more : applied_of p (take (k + 1) xs) ≡ applied_of p (take k xs) ++ applied_of p (x ∷ []) = ap (applied_of p) (take_more xs k d lt ∙ ap (λ y. take k xs ++ y ∷ []) at) ∙ filter-append (λ (y : Success). y.name.producer == p) (take k xs) (x ∷ []) in (
      s.0,
      s.1,
      t.2 ∙ (λ i. record {
        applied = (ap (λ (y : Told). y.applied ++ applied_of p (x ∷ [])) s.2 ∙ append_assoc s.0.applied (applied_of p (take k xs)) (applied_of p (x ∷ [])) ∙ ap (λ l. s.0.applied ++ l) (sym more)) i;
        reported = ap (λ (y : Told). y.reported) s.2 i;
      }),
    )
