-- The worked schedules of the machine.
use Rattle.std.proofs.Common.{◌≡◌, ℕ, List, [], ◌∷◌, None, refl, sym, ap, subst, ⊎_elim, inl, inr, arith, ◌∙◌, lit<}
use Rattle.relay_action.specs.declared.action.Action.TheVariants.{Index}
use Rattle.relay_action.specs.declared.operation.Op.{Op}
use Rattle.relay_action.specs.declared.write.Write.{Write}
use Rattle.relay_results.specs.Words.{Mem}
use Rattle.relay_results.specs.Documents.{Document, document_of, name_of, write_for}
use Rattle.relay_results.specs.Outside.{is_above, Unanswered, Request}
use Rattle.relay_delivery.specs.Schedules.{op, accepted_of, ran, failed_run, conflict}
use Rattle.relay_results.proofs.Lists.{none_in, Mem-one, Mem-filter}
use Rattle.relay_delivery.specs.Attribution.{IsAttribution, is_from}
use Rattle.relay_results.proofs.Same.{bytes_eq-self}
use Rattle.relay_delivery.proofs.Played.{apart, was, conflict_of, stored_self, applied_self, applied_two}
use Rattle.relay_delivery.specs.Machine.{Core, Held, Report, IsEligible, MaySend}
use Rattle.relay_delivery.specs.Delivery.{taken_of, names_of, ops_of, IsComplete}
use Rattle.relay_delivery.specs.Examples.{waiting, MachineWorks, StoredVersionsBelow, EarlierOnesFirst, OneVersionForAllTries}

alone : (h : Held) → h.flies ≡ None → (k : Held) → IsEligible (h ∷ []) h
alone h w k = record {
  is_held = inl refl;
  waits = w;
  first = λ j m doc. elim m [ inl e ↦ (let v = ap (λ (x : Held). x.version) e in omega (arith, v)) | inr f ↦ absurd f ];
}

may_one : (c : Core) (h : Held) → c.held ≡ h ∷ [] → h.flies ≡ None → MaySend c (h ∷ [])
may_one c h eh w = record {
  eligible = λ k m. elim m [ inl e ↦ subst (λ x. IsEligible c.held x) (sym e) (subst (λ hs. IsEligible hs h) (sym eh) (alone h w h)) | inr f ↦ absurd f ];
  distinct = (λ m. m, tt);
  caps = λ more. absurd (omega (arith, more));
}

abbrev one_request : Write → Request
one_request w = record { writes = w ∷ []; answer = Unanswered }

pub machine_works : MachineWorks
machine_works key source =
    let o : Op = op 1 key (Index source) in
    let w : Write = write_for o 1 in
    record {
      fresh = record { new = record { taken = refl; held = refl; reports = refl; applied = refl; already = refl; opening = record { requests = refl; runs = refl; applied = λ k. refl } }; below = λ k u e. absurd (cc) };
      may = (
        tt,
        (
          may_one _ (waiting o 1 0) refl refl,
          (
            record { write = w; sent = refl; outcome = inr (inl (refl, refl)) },
            (
              record { request = one_request w; sent = refl; open_yet = refl; honest = tt },
              (
                may_one _ (waiting o 1 1) refl refl,
                (
                  record { write = w; sent = refl; outcome = inr (inr (ap (λ o. is_above o 1) (stored_self (document_of key) 1 None), conflict_of conflict)) },
                  (
                    record { request = one_request w; sent = refl; open_yet = refl; honest = λ _. (was _ (failed_run 1 0 409 conflict) _ (inr (inl refl)) refl refl, tt) },
                    tt,
                  ),
                ),
              ),
            ),
          ),
        ),
      );
      none_held = rw (bytes_eq-self key.id) refl;
      none_reported = rw (bytes_eq-self key.id) refl;
      already = rw (bytes_eq-self key.id) refl;
      attributed_to = ap (ops_of 1 (o ∷ [])) (applied_self (document_of key) w);
    }

-- ---- with a version that was stored

-- what is attributed to no writes is none
none_of : (accepted : ℕ → List Op) (k : Document) (ops : List Op) → IsAttribution accepted k [] ops → ops ≡ []
none_of accepted k [] a = refl
none_of accepted k (o ∷ ops) a = absurd a.actions

-- nothing was applied and nothing is reported, so what was taken is not accounted for
nothing_done : (taken : List Op) (o : Op) (reports : List Report) (ops : Document → List Op) → Mem o taken → reports ≡ [] → IsAttribution (taken_of taken) (document_of o.key) [] (ops (document_of o.key)) → IsComplete taken reports ops → ⊥
nothing_done taken o reports ops m none a all = ⊎_elim {C = ⊥}
    (λ y. none_in (ops (document_of o.key)) o (none_of (taken_of taken) (document_of o.key) (ops (document_of o.key)) a) y)
    (λ y. none_in (names_of reports) (name_of o) (ap names_of none) y)
    (all o m)

pub stored_below : StoredVersionsBelow
stored_below key source =
    let o : Op = op 1 key (Index source) in
    let w : Write = write_for o 1 in
    record {
      opening = record { requests = refl; runs = refl; applied = λ k. refl };
      may = (
        tt,
        (
          may_one _ (waiting o 1 0) refl refl,
          (
            record { request = one_request w; sent = refl; open_yet = refl; honest = tt },
            (
              may_one _ (waiting o 1 1) refl refl,
              (
                record { write = w; sent = refl; outcome = inr (inr (refl, conflict_of conflict)) },
                (
                  record { request = one_request w; sent = refl; open_yet = refl; honest = λ _. (was _ (failed_run 1 0 409 conflict) _ (inl refl) refl refl, tt) },
                  tt,
                ),
              ),
            ),
          ),
        ),
      );
      loses = record {
        none_held = rw (bytes_eq-self key.id) refl;
        lost = λ ops a all. nothing_done (o ∷ []) o _ ops (inl refl) (rw (bytes_eq-self key.id) refl) (a (document_of key)) all;
      };
    }

-- ---- two of one document in flight

-- two operations that one write accounts for are one
one_for_two : (accepted : ℕ → List Op) (k : Document) (w : Write) (ops : List Op) (o p : Op) → IsAttribution accepted k (w ∷ []) ops → Mem o ops → Mem p ops → o ≡ p
one_for_two accepted k w [] o p a m n = absurd m
one_for_two accepted k w (q ∷ []) o p a m n = Mem-one o q m ∙ sym (Mem-one p q n)
one_for_two accepted k w (q ∷ r ∷ ops) o p a m n = absurd a.actions.1

accounted : (taken : List Op) (o : Op) (reports : List Report) (ops : Document → List Op) → Mem o taken → reports ≡ [] → IsComplete taken reports ops → Mem o (ops (document_of o.key))
accounted taken o reports ops m none all = ⊎_elim {C = Mem o (ops (document_of o.key))} (λ y. y) (λ y. absurd (none_in (names_of reports) (name_of o) (ap names_of none) y)) (all o m)

first_of_two : (c : Core) (o p : Op) → c.held ≡ waiting o 1 0 ∷ waiting p 2 0 ∷ [] → MaySend c (waiting o 1 0 ∷ [])
first_of_two c o p eh = record {
  eligible = λ k m. elim m [
    | inl e ↦ record {
      is_held = subst (λ hs. Mem k hs) (sym eh) (inl e);
      waits = ap (λ (x : Held). x.flies) e;
      first = λ j mj doc.
          let v = ap (λ (x : Held). x.version) e in
          elim (subst (λ hs. Mem j hs) eh mj) [
            | inl d ↦ (let u = ap (λ (x : Held). x.version) d in omega (arith, v, u))
            | inr d ↦ elim d [ inl d ↦ (let u = ap (λ (x : Held). x.version) d in omega (arith, v, u)) | inr f ↦ absurd f ]
          ];
    }
    | inr f ↦ absurd f
  ];
  distinct = (λ m. m, tt);
  caps = λ more. absurd (omega (arith, more));
}

pub earlier_first : EarlierOnesFirst
earlier_first key source other =
    let o : Op = op 1 key (Index source) in
    let p : Op = op 2 key (Index other) in
    let w : Write = write_for o 1 in
    let x : Write = write_for p 2 in
    record {
      fresh = record { new = record { taken = refl; held = refl; reports = refl; applied = refl; already = refl; opening = record { requests = refl; runs = refl; applied = λ k. refl } }; below = λ k u e. absurd (cc) };
      may_before = (tt, (tt, (first_of_two _ o p refl, tt)));
      waits = inr (inl refl);
      may_after = (
        record { write = x; sent = refl; outcome = inr (inl (refl, refl)) },
        (
          record { request = one_request x; sent = refl; open_yet = refl; honest = λ _. (was _ (ran 1 0 201) _ (inl refl) refl refl, tt) },
          (
            record { request = one_request w; sent = refl; open_yet = refl; honest = tt },
            (
              may_one _ (waiting o 1 1) (rw (bytes_eq-self key.id) refl) refl,
              (
                record { write = w; sent = refl; outcome = inr (inr (ap (λ o. is_above o 1) (stored_self (document_of key) 2 None), conflict_of conflict)) },
                (
                  record { request = one_request w; sent = refl; open_yet = refl; honest = λ _. (was _ (failed_run 2 0 409 conflict) _ (inr (inl refl)) refl refl, tt) },
                  tt,
                ),
              ),
            ),
          ),
        ),
      );
      loses = record {
        none_held = rw (bytes_eq-self key.id) refl;
        lost = λ ops a all.
            let one = subst (λ ws. IsAttribution (taken_of (o ∷ p ∷ [])) (document_of key) ws (ops (document_of key))) (applied_self (document_of key) x) (a (document_of key)) in
            let same = one_for_two (taken_of (o ∷ p ∷ [])) (document_of key) x (ops (document_of key)) o p one
            (accounted (o ∷ p ∷ []) o _ ops (inl refl) (rw (bytes_eq-self key.id) refl) all)
            (accounted (o ∷ p ∷ []) p _ ops (inr (inl refl)) (rw (bytes_eq-self key.id) refl) all) in
            apart 1 2 (ap (λ (z : Op). z.number) same) (lit< tt);
      };
    }

-- ---- a fresh version at a retry

-- both are of the one operation that was accepted
its_own : (o q : Op) (p : ℕ) → Mem q (accepted_of (o ∷ []) p) → q ≡ o
its_own o q p m = Mem-one q o (Mem-filter (is_from p) q (o ∷ []) m).0

not_two : (o : Op) (k : Document) (w x : Write) (ops : List Op) → IsAttribution (accepted_of (o ∷ [])) k (w ∷ x ∷ []) ops → ⊥
not_two o k w x [] a = a.actions
not_two o k w x (q ∷ []) a = a.actions.1
not_two o k w x (q ∷ r ∷ ops) a =
    let m = a.accepted_each q (inl refl) in
    let n = a.accepted_each r (inr (inl refl)) in
    a.distinct.0 (inl (ap name_of (its_own o q m.0 m.1 ∙ sym (its_own o r n.0 n.1))))

pub one_version : OneVersionForAllTries
one_version key source =
    let o : Op = op 1 key (Index source) in
    let w : Write = write_for o 1 in
    let x : Write = write_for o 2 in
    record {
      may = (
        tt,
        (
          record { request = one_request w; sent = refl; open_yet = refl; honest = tt },
          (
            tt,
            (
              record { write = w; sent = refl; outcome = inr (inl (refl, refl)) },
              (
                record { write = x; sent = refl; outcome = inr (inl (ap (λ o. is_above o 2) (stored_self (document_of key) 1 None), refl)) },
                (
                  record { request = one_request x; sent = refl; open_yet = refl; honest = λ _. (was _ (ran 1 0 200) _ (inr (inl refl)) refl refl, tt) },
                  tt,
                ),
              ),
            ),
          ),
        ),
      );
      applied = applied_two (document_of key) w x;
      none = not_two o (document_of key) w x;
    }
