-- A lane takes an operation.
use Rattle.std.proofs.Common.{◌≡◌, ℕ, ◌+◌, ◌<◌, ◌≤◌, List, [], ◌∷◌, ◌++◌, length, Bool, true, false, refl, sym, ap, ◌∙◌, subst, ⊎_elim, inl, inr, arith, length-append, append-nil}
use Rattle.std.specs.Prelude.{◌⊎◌, nat_lt}
use borrow.Author.Tests.{ltb-true, ltb-false}
use Rattle.relay_action.specs.declared.write.Write.{Write}
use Rattle.relay_action.specs.declared.operation.Op.{Op}
use Rattle.relay_action.specs.declared.operation.OpName.{OpName}
use Rattle.relay_results.specs.Words.{Mem, count, one_if}
use Rattle.relay_results.specs.Documents.{name_of, same_name}
use Rattle.relay_results.specs.Outside.{Request}
use Rattle.relay_results.specs.declared.cause.Cause.TheVariants.{Spent}
use Rattle.relay_delivery.specs.Causes.{carries, CarriedAt}
use Rattle.relay_results.proofs.Same.{same_write-true}
use Rattle.relay_delivery.specs.Machine.{Config, Core, Held, Report, write_of, held_at, report_on, held_if, spent_if, take}
use Rattle.relay_results.proofs.Lists.{true_or_false, at-left, at-last, at-cases, Mem-at, Mem-cases, Mem-left, Mem-right, Mem-one, count_zero, count-append}
use Rattle.relay_delivery.proofs.Facts.{Past, HeldFact, ReportFact, IsSomewhere, AreRising, CoreFacts, is_held_as, is_report_as, is_taken_as}
use Rattle.relay_delivery.proofs.Dealt.{dealt_before, dealt-more, one-more, carried_at, sent_at}

pub is_new_held : (b : Bool) (g : Config) (n : ℕ) (o : Op) (h : Held) → Mem h (held_if b g n o) → (b ≡ true) × (h ≡ held_at g n o)
is_new_held true g n o h m = (refl, Mem-one h (held_at g n o) m)
is_new_held false g n o h m = elim m [ ]

is_new_spent : (b : Bool) (o : Op) (r : Report) → Mem r (spent_if b o) → (b ≡ false) × (r ≡ report_on o Spent)
is_new_spent true o r m = elim m [ ]
is_new_spent false o r m = (refl, Mem-one r (report_on o Spent) m)

-- one of the two gets the operation
one_new : (b : Bool) (g : Config) (k : ℕ) (o : Op) (n : OpName) → count (is_held_as n) (held_if b g k o) + count (is_report_as n) (spent_if b o) ≡ one_if (same_name n (name_of o))
one_new true g k o n = omega arith
one_new false g k o n = omega arith

pub one_length : (b : Bool) (g : Config) (k : ℕ) (o : Op) → length (held_if b g k o) + length (spent_if b o) ≡ 1
one_length true g k o = refl
one_length false g k o = refl

AreRising-push : (hs : List Held) (k : Held) → AreRising hs → ((h : Held) → Mem h hs → h.version < k.version) → AreRising (hs ++ k ∷ [])
AreRising-push [] k r below = ((λ z m. absurd m), tt)
AreRising-push (h ∷ hs) k r below = (
  (λ z m. ⊎_elim {C = h.version < z.version} (λ l. r.0 z l) (λ e. subst (λ (t : Held). h.version < t.version) (sym (Mem-one z k e)) (below h (inl refl))) (Mem-cases z hs (k ∷ []) m)),
  AreRising-push hs k r.1 (λ z m. below z (inr m)),
)

pub rising_if : (b : Bool) (hs : List Held) (g : Config) (n : ℕ) (o : Op) → AreRising hs → ((h : Held) → Mem h hs → h.version < g.first + n) → AreRising (hs ++ held_if b g n o)
rising_if true hs g n o r below = AreRising-push hs (held_at g n o) r below
rising_if false hs g n o r below = subst (λ xs. AreRising xs) (sym (append-nil hs)) r

new_one : (b : Bool) (g : Config) (n : ℕ) (o : Op) → (Mem (held_at g n o) (held_if b g n o)) ⊎ (Mem (report_on o Spent) (spent_if b o))
new_one true g n o = inl (inl refl)
new_one false g n o = inr (inl refl)

module _ (g : Config) (past : Past) (c : Core) (f : CoreFacts g past c) (o : Op) where
  abbrev here : ℕ
  here = length c.taken

  abbrev more_held : List Held
  more_held = held_if (nat_lt (length c.taken) g.deals) g (length c.taken) o

  abbrev more_reports : List Report
  more_reports = spent_if (nat_lt (length c.taken) g.deals) o

  none_carries : (number place : ℕ) (q : Request) → CarriedAt c.outside.requests (write_of (held_at g (length c.taken) o)) number place q → ⊥
  none_carries number place q k =
      let s = f.sent k.write (sent_at c.outside.requests number place q (write_of (held_at g (length c.taken) o)) k) in
      let lt : k.write.version < g.first + length c.taken = ⊎_elim {C = k.write.version < g.first + length c.taken} (λ x. dealt_before g c.taken x.op k.write.version x.dealt) (λ x. let b = f.past_below k.write x in omega (arith, b)) s in
      let same = (same_write-true (write_of (held_at g (length c.taken) o)) k.write k.same).version in
      omega (arith, lt, same)

  new_held : nat_lt (length c.taken) g.deals ≡ true → HeldFact g (c.taken ++ o ∷ []) c.outside.requests (held_at g (length c.taken) o)
  new_held t = record {
    dealt = record { place = length c.taken; stands = at-last c.taken o; within = ltb-true _ _ t; version = refl };
    sends = count_zero (carries (write_of (held_at g (length c.taken) o))) c.outside.requests (λ q m.
        let n = Mem-at q c.outside.requests m in
        ⊎_elim
        (λ y. let k = carried_at c.outside.requests n.0 q (write_of (held_at g (length c.taken) o)) n.1 y in absurd (none_carries n.0 k.0 q k.1))
        (λ e. e)
        (true_or_false (carries (write_of (held_at g (length c.taken) o)) q)));
    attempts = omega arith;
    retried = λ number place q k. absurd (none_carries number place q k);
    flying = λ p e. absurd (cc);
    last = λ w s doc. ⊎_elim {C = w.version ≤ g.first + length c.taken} (λ d. let lt = dealt_before g c.taken d.op w.version d.dealt in omega (arith, lt)) (λ d. let b = f.past_below w d in omega (arith, b)) (f.sent w s);
  }

  held-more : (h : Held) → HeldFact g c.taken c.outside.requests h → HeldFact g (c.taken ++ o ∷ []) c.outside.requests h
  held-more h k = record { dealt = dealt-more g c.taken o h.op h.version k.dealt; sends = k.sends; attempts = k.attempts; retried = k.retried; flying = k.flying; last = k.last }

  -- a held operation from before, or the new one
  abbrev Old : Held → Type 0
  Old h = Mem h c.held

  held_cases : (h : Held) → Mem h (take g o c).held → Mem h c.held ⊎ ((nat_lt (length c.taken) g.deals ≡ true) × (h ≡ held_at g (length c.taken) o))
  held_cases h m = ⊎_elim
      (λ y. inl y)
      (λ y. inr (is_new_held (nat_lt (length c.taken) g.deals) g (length c.taken) o h y))
      (Mem-cases h c.held more_held m)

  not_new : (h : Held) → Mem h c.held → h.version ≡ g.first + length c.taken → ⊥
  not_new h m e =
      let d = (f.held h m).dealt in
      let lt = dealt_before g c.taken h.op h.version d in omega (arith, lt, e)

  alone : (h j : Held) → Mem h (take g o c).held → Mem j (take g o c).held → h.version ≡ j.version → h ≡ j
  alone h j mh mj same = ⊎_elim
      (λ a. ⊎_elim
      (λ b. f.alone h j a b same)
      (λ b. absurd (not_new h a (same ∙ ap (λ (x : Held). x.version) b.1)))
      (held_cases j mj))
      (λ a. ⊎_elim
      (λ b. absurd (not_new j b (sym same ∙ ap (λ (x : Held). x.version) a.1)))
      (λ b. a.1 ∙ sym b.1)
      (held_cases j mj))
      (held_cases h mh)

  report-more : (r : Report) → ReportFact g c.taken c.held c.outside r → ReportFact g (c.taken ++ o ∷ []) (take g o c).held c.outside r
  report-more r h = ⊎_elim
      (λ s. inl (record { op = s.op; name = s.name; document = s.document; cause = s.cause; place = s.place; stands = at-left c.taken (o ∷ []) s.place s.op s.stands; past = s.past }))
      (λ s. inr (record {
        op = s.op;
        name = s.name;
        document = s.document;
        version = s.version;
        dealt = dealt-more g c.taken o s.op s.version s.dealt;
        settled = λ k m e. ⊎_elim
            (λ a. s.settled k a e)
            (λ a.
            let lt = dealt_before g c.taken s.op s.version s.dealt in
            let v = ap (λ (x : Held). x.version) a.1 in absurd (omega (arith, lt, v, e)))
            (held_cases k m);
        cause = s.cause;
      }))
      h

  new_report : nat_lt (length c.taken) g.deals ≡ false → ReportFact g (c.taken ++ o ∷ []) (take g o c).held c.outside (report_on o Spent)
  new_report t = inl (record { op = o; name = refl; document = refl; cause = refl; place = length c.taken; stands = at-last c.taken o; past = ltb-false _ _ t })

  kept_somewhere : (o' : Op) (place : ℕ) → IsSomewhere g c o' place → IsSomewhere g (take g o c) o' place
  kept_somewhere o' place h = ⊎_elim
      (λ y. inl (record { held_op = y.held_op; is_in = Mem-left y.held_op c.held more_held y.is_in; version = y.version }))
      (λ y. ⊎_elim (λ a. inr (inl a)) (λ r. inr (inr (record { report = r.report; is_in = Mem-left r.report c.reports more_reports r.is_in; name = r.name }))) y)
      h

  new_somewhere : IsSomewhere g (take g o c) o (length c.taken)
  new_somewhere = ⊎_elim
      (λ m. inl (record { held_op = held_at g (length c.taken) o; is_in = Mem-right (held_at g (length c.taken) o) c.held more_held m; version = refl }))
      (λ m. inr (inr (record { report = report_on o Spent; is_in = Mem-right (report_on o Spent) c.reports more_reports m; name = refl })))
      (new_one (nat_lt (length c.taken) g.deals) g (length c.taken) o)

  pub take_keeps : CoreFacts g past (take g o c)
  take_keeps = record {
    past_below = f.past_below;
    held = λ h m. ⊎_elim
        (λ y. held-more h (f.held h y))
        (λ r. subst (λ k. HeldFact g (c.taken ++ o ∷ []) c.outside.requests k) (sym r.1) (new_held r.0))
        (held_cases h m);
    alone = alone;
    in_rise = rising_if (nat_lt (length c.taken) g.deals) c.held g (length c.taken) o f.in_rise (λ h m. dealt_before g c.taken h.op h.version (f.held h m).dealt);
    sent = λ w s. ⊎_elim (λ d. inl (one-more g c.taken o w d)) (λ d. inr d) (f.sent w s);
    runs = f.runs;
    index = f.index;
    reports = λ r m. ⊎_elim
        (λ y. report-more r (f.reports r y))
        (λ y. let n = is_new_spent (nat_lt (length c.taken) g.deals) o r y in subst (λ k. ReportFact g (c.taken ++ o ∷ []) (take g o c).held c.outside k) (sym n.1) (new_report n.0))
        (Mem-cases r c.reports more_reports m);
    apart = λ n.
        let a = f.apart n in
        let h = count-append (is_held_as n) c.held more_held in
        let r = count-append (is_report_as n) c.reports more_reports in
        let t = count-append (is_taken_as n) c.taken (o ∷ []) in
        let e = one_new (nat_lt (length c.taken) g.deals) g (length c.taken) o n in
        omega arith;
    totals =
        let t = f.totals in
        let h = length-append c.held more_held in
        let r = length-append c.reports more_reports in
        let n = length-append c.taken (o ∷ []) in
        let e = one_length (nat_lt (length c.taken) g.deals) g (length c.taken) o in
        let k : length (o ∷ []) ≡ 1 = refl in
        omega (arith, t, h, r, n, e, k);
    nothing_lost = λ tells place o' s. ⊎_elim
        (λ y. kept_somewhere o' place (f.nothing_lost tells place o' y))
        (λ r. subst (λ p. IsSomewhere g (take g o c) o' p) (sym r.0) (subst (λ x. IsSomewhere g (take g o c) x (length c.taken)) (sym r.1) new_somewhere))
        (at-cases c.taken o place o' s);
  }
