-- The worked schedules.
use Rattle.std.proofs.Common.{◌≡◌, ◌++◌, ◌+◌, ◌<◌, ◌≤◌, ℕ, zero, suc, List, [], ◌∷◌, Option, Some, None, Bool, true, false, refl, ap, sym, ◌∙◌, subst, arith, inl, inr, lit<, lit≤}
use Rattle.std.specs.Prelude.{filter, if◌then◌else◌, slice_get, ◌&&◌}
use Rattle.relay_results.specs.declared.cause.Cause.{Cause}
use Rattle.relay_action.specs.declared.key.DocKey.{DocKey}
use Rattle.relay_action.specs.declared.action.Source.{Source}
use Rattle.relay_action.specs.declared.action.Action.{Action}
use Rattle.relay_action.specs.declared.action.Action.TheVariants.{Index, Delete}
use Rattle.relay_action.specs.declared.write.Write.{Write}
use Rattle.relay_action.specs.declared.operation.Op.{Op}
use Rattle.relay_action.specs.declared.operation.OpName.{OpName}
use Rattle.relay_results.specs.declared.outcome.Outcome.{Outcome}
use Rattle.relay_results.specs.Words.{Mem, IsSubsequence, one_if}
use Rattle.relay_results.specs.Documents.{Document, document_of, same_document, same_write, write_for}
use Rattle.relay_results.specs.Done.{bare_error}
use Rattle.relay_results.specs.Matching.{matches, is_entry_for}
use Rattle.relay_results.specs.Outside.{is_above, Answer, Unanswered, Items, Whole, Lost, Request, Ran, Outside, IsRefusal, IsConflict, WasRun}
use Rattle.relay_delivery.specs.Attribution.{IsAttribution, is_from}
use Rattle.relay_delivery.specs.Causes.{carries, CarriedAt, IsAnswered, IsTrueOf, IsTrueDealt}
use Rattle.relay_results.specs.declared.cause.Loss.TheVariants.{Closed}
use Rattle.relay_results.specs.Fates.{IsRetried}
use Rattle.relay_delivery.specs.Schedules.{op, accepted_of, ran, failed_run, entry, failed_entry, conflict, busy, refusal, Plays, LostThenAlready, LateRunChangesNothing, RunTwice, answered_whole, RefusedOrRejected, BusyThenNext, GivenUpAndApplied, ThreeThenOne, HalvedThenAlone}
use Rattle.relay_results.proofs.Lists.{apart_tests, none_some, some_same, sub_itself}
use Rattle.relay_results.proofs.Both.{and-true}
use Rattle.relay_results.proofs.Same.{bytes_eq-self, same_document-self, same_write-self, same_kind-Decides}

-- ---- attributions

abbrev name_of_number : ℕ → OpName
name_of_number n = record { epoch = 0; producer = 0; number = n }

pub attribution_none : (accepted : ℕ → List Op) (k : Document) → IsAttribution accepted k [] []
attribution_none accepted k = record {
  actions = tt;
  distinct = tt;
  accepted_each = λ o m. absurd m;
  of_document = λ o m. absurd m;
}

-- the first operation, whatever was accepted after it
pub attribution_one : (key : DocKey) (a : Action) (v : ℕ) (rest : List Op) → IsAttribution (accepted_of (op 1 key a ∷ rest)) (document_of key) (write_for (op 1 key a) v ∷ []) (op 1 key a ∷ [])
attribution_one key a v rest = record {
  actions = (refl, tt);
  distinct = (λ m. m, tt);
  accepted_each = λ o m. elim m [ inl e ↦ (0, inl e) | inr f ↦ absurd f ];
  of_document = λ o m. elim m [ inl e ↦ ap (λ (x : Op). document_of x.key) e | inr f ↦ absurd f ];
}

pub apart : (m n : ℕ) → m ≡ n → m < n → ⊥
apart m n e h = omega arith

one_two : name_of_number 1 ≡ name_of_number 2 → ⊥
one_two e = apart 1 2 (ap (λ (x : OpName). x.number) e) (lit< tt)

-- two operations of one document
pub attribution_two : (key : DocKey) (a b : Action) → IsAttribution (accepted_of (op 1 key a ∷ op 2 key b ∷ [])) (document_of key) (write_for (op 1 key a) 1 ∷ write_for (op 2 key b) 2 ∷ []) (op 1 key a ∷ op 2 key b ∷ [])
attribution_two key a b = record {
  actions = (refl, (refl, tt));
  distinct = (λ m. elim m [ inl e ↦ one_two e | inr f ↦ f ], (λ m. m, tt));
  accepted_each = λ o m. elim m [ inl e ↦ (0, inl e) | inr f ↦ elim f [ inl e ↦ (0, inr (inl e)) | inr g ↦ absurd g ] ];
  of_document = λ o m. elim m [ inl e ↦ ap (λ (x : Op). document_of x.key) e | inr f ↦ elim f [ inl e ↦ ap (λ (x : Op). document_of x.key) e | inr g ↦ absurd g ] ];
}

-- ---- what is stored, applied and answered

-- another write does not carry this one
not_carried : (w x y : Write) (place : ℕ) → same_write w x ≡ false → slice_get (x ∷ []) place ≡ Some y → same_write w y ≡ true → ⊥
not_carried w x y zero other e h =
    let same : x ≡ y = some_same x y e in
    let f : false ≡ true = sym other ∙ ap (same_write w) same ∙ h in
    apart_tests f
not_carried w x y (suc place) other e h = none_some y e

pub stored_self : (k : Document) (v : ℕ) (old : Option ℕ) → (if same_document k k then Some v else old) ≡ Some v
stored_self k v old = rw (same_document-self k) refl

pub applied_self : (k : Document) (w : Write) → (if same_document k k then w ∷ [] else []) ≡ w ∷ []
applied_self k w = rw (same_document-self k) refl

pub matches-one : (o : Outcome) (w : Write) → is_entry_for o w ≡ true → matches (o ∷ []) (w ∷ []) ≡ true
matches-one o w h = rw h refl

pub entry-self : (w : Write) (status : ℕ) → is_entry_for (entry w status) w ≡ true
entry-self w status = and-true _ _ ((same_kind-Decides (entry w status).kind (entry w status).kind).1 refl) (bytes_eq-self w.key.id)

pub failed_entry-self : (w : Write) (status : ℕ) (error : List ℕ) → is_entry_for (failed_entry w status error) w ≡ true
failed_entry-self w status error = and-true _ _ ((same_kind-Decides (entry w status).kind (entry w status).kind).1 refl) (bytes_eq-self w.key.id)

-- ---- what may happen

abbrev one_request : Write → Request
one_request w = record { writes = w ∷ []; answer = Unanswered }

pub refusal_of : (status : ℕ) (error : List ℕ) → 400 ≤ status → status ≤ 599 → (status ≡ 409 → ⊥) → IsRefusal (record { status = status; error = Some (bare_error error) })
refusal_of status error low high other = record { least = low; most = high; no_conflict = other; has_error = refl }

pub conflict_of : {stored : Option ℕ} (error : List ℕ) → IsConflict stored (record { status = 409; error = Some (bare_error error) })
conflict_of error = record { status = refl; has_error = refl; stated = λ version is. absurd (cc) }

-- an outcome was the run's
pub was : (runs : List Ran) (r : Ran) (o : Outcome) → Mem r runs → r.outcome.status ≡ o.status → r.outcome.error ≡ o.error → WasRun runs r.request r.place o
was runs r o among s e = record { run = r; among = among; of_request = refl; of_place = refl; status = s; error = e }

pub carries_self : (w : Write) (a : Answer) → carries w (record { writes = w ∷ []; answer = a }) ≡ true
carries_self w a = rw (same_write-self w) refl

-- a cause that is true of the write with version 1
dealt_one : {max : ℕ} {s : Outside} {o : Op} {c : Cause} → IsTrueOf max s (write_for o 1) c → IsTrueDealt max s o (Some 1) c
dealt_one h = record { version = 1; is_dealt = refl; of_write = h }

-- ---- one operation

pub already : LostThenAlready
already key source =
    let w : Write = write_for (op 1 key (Index source)) 1 in (
      record {
        may = (
          tt,
          (
            record { write = w; sent = refl; outcome = inr (inl (refl, refl)) },
            (
              record { request = one_request w; sent = refl; open_yet = refl; honest = tt },
              (
                tt,
                (
                  record { write = w; sent = refl; outcome = inr (inr (ap (λ o. is_above o 1) (stored_self (document_of key) 1 None), conflict_of conflict)) },
                  (
                    record { request = one_request w; sent = refl; open_yet = refl; honest = λ _. (was _ (failed_run 1 0 409 conflict) _ (inr (inl refl)) refl refl, tt) },
                    tt,
                  ),
                ),
              ),
            ),
          ),
        );
        applied = applied_self (document_of key) w;
        attribution = attribution_one key (Index source) 1 [];
        in_order = λ p. sub_itself _;
      },
      refl,
      rw (bytes_eq-self key.id) refl,
    )

pub late : LateRunChangesNothing
late key source =
    let w : Write = write_for (op 1 key (Index source)) 1 in (
      record {
        may = (
          tt,
          (
            record { request = one_request w; sent = refl; open_yet = refl; honest = tt },
            (
              tt,
              (
                record { write = w; sent = refl; outcome = inr (inl (refl, refl)) },
                (
                  record { write = w; sent = refl; outcome = inr (inr (ap (λ o. is_above o 1) (stored_self (document_of key) 1 None), conflict_of conflict)) },
                  (
                    record { request = one_request w; sent = refl; open_yet = refl; honest = λ _. (was _ (ran 1 0 201) _ (inl refl) refl refl, tt) },
                    tt,
                  ),
                ),
              ),
            ),
          ),
        );
        applied = applied_self (document_of key) w;
        attribution = attribution_one key (Index source) 1 [];
        in_order = λ p. sub_itself _;
      },
      rw (bytes_eq-self key.id) refl,
    )

-- a request that was sent once and answered by one entry
pub answered_once : (w : Write) (runs : List Ran) (o : Outcome) (stored : Document → Option ℕ) (applied : Document → List Write) → is_entry_for o w ≡ true → WasRun runs 0 0 o
    → IsAnswered (record { requests = record { writes = w ∷ []; answer = Items (o ∷ []) } ∷ []; runs = runs; stored = stored; before = λ k. []; applied = applied }) w o
answered_once w runs o stored applied entry ran = record {
  number = 0;
  place = 0;
  request = record { writes = w ∷ []; answer = Items (o ∷ []) };
  carried = record { write = w; sent = refl; stands = refl; same = same_write-self w };
  says = record { entries = o ∷ []; answer = refl; matching = matches-one o w entry; entry = refl };
  ran = ran;
}

pub twice : RunTwice
twice key =
    let w : Write = write_for (op 1 key Delete) 1 in (
      record {
        may = (
          tt,
          (
            record { write = w; sent = refl; outcome = inr (inl (refl, refl)) },
            (
              record { write = w; sent = refl; outcome = inr (inr (ap (λ o. is_above o 1) (stored_self (document_of key) 1 None), conflict_of conflict)) },
              (
                record { request = one_request w; sent = refl; open_yet = refl; honest = λ _. (was _ (failed_run 0 0 409 conflict) _ (inr (inl refl)) refl refl, tt) },
                tt,
              ),
            ),
          ),
        );
        applied = applied_self (document_of key) w;
        attribution = attribution_one key Delete 1 [];
        in_order = λ p. sub_itself _;
      },
      rw (bytes_eq-self key.id) refl,
      inl (dealt_one (record {
        outcome = failed_entry w 409 conflict;
        answered = answered_once w _ (failed_entry w 409 conflict) _ _ (failed_entry-self w 409 conflict) (was _ (failed_run 0 0 409 conflict) _ (inr (inl refl)) refl refl);
        conflict = refl;
        other = inl (ap (λ b. one_if b + 0) (carries_self w (Items (failed_entry w 409 conflict ∷ []))));
        stored_is = refl;
        reason_is = refl;
      })),
      record {
        may = (
          tt,
          (
            record { write = w; sent = refl; outcome = inr (inl (refl, refl)) },
            (
              record { write = w; sent = refl; outcome = inr (inr (ap (λ o. is_above o 1) (stored_self (document_of key) 1 None), conflict_of conflict)) },
              (
                record { request = one_request w; sent = refl; open_yet = refl; honest = λ _. (was _ (ran 0 0 404) _ (inl refl) refl refl, tt) },
                tt,
              ),
            ),
          ),
        );
        applied = applied_self (document_of key) w;
        attribution = attribution_one key Delete 1 [];
        in_order = λ p. sub_itself _;
      },
      rw (bytes_eq-self key.id) refl,
    )

-- a request that was answered as a whole
whole : (key : DocKey) (source : Source) (status : ℕ) → (status ≡ 200 → ⊥) → Plays (op 1 key (Index source) ∷ []) (answered_whole (write_for (op 1 key (Index source)) 1) status) (document_of key) [] []
whole key source status other = record {
  may = (tt, (record { request = one_request (write_for (op 1 key (Index source)) 1); sent = refl; open_yet = refl; honest = other }, tt));
  applied = refl;
  attribution = attribution_none _ _;
  in_order = λ p. tt;
}

pub rejected : RefusedOrRejected
rejected key source =
    let w : Write = write_for (op 1 key (Index source)) 1 in (
      record {
        may = (
          tt,
          (
            record { write = w; sent = refl; outcome = inl (refusal_of 400 refusal (lit≤ tt) (lit≤ tt) (λ e. apart 400 409 e (lit< tt))) },
            (
              record { request = one_request w; sent = refl; open_yet = refl; honest = λ _. (was _ (failed_run 0 0 400 refusal) _ (inl refl) refl refl, tt) },
              tt,
            ),
          ),
        );
        applied = refl;
        attribution = attribution_none _ _;
        in_order = λ p. tt;
      },
      rw (bytes_eq-self key.id) refl,
      inl (dealt_one (record {
        outcome = failed_entry w 400 refusal;
        answered = answered_once w _ (failed_entry w 400 refusal) _ _ (failed_entry-self w 400 refusal) (was _ (failed_run 0 0 400 refusal) _ (inl refl) refl refl);
        refused = λ own sends attempts max. refl;
        status_is = refl;
        kind_is = refl;
        reason_is = refl;
      })),
      whole key source 401 (λ e. apart 200 401 (sym e) (lit< tt)),
      refl,
      inl (dealt_one (record {
        number = 0;
        place = 0;
        request = record { writes = w ∷ []; answer = Whole 401 None };
        carried = record { write = w; sent = refl; stands = refl; same = same_write-self w };
        given = None;
        answer = refl;
        reason_is = refl;
        final = refl;
      })),
      whole key source 503 (λ e. apart 200 503 (sym e) (lit< tt)),
      refl,
    )

-- ---- two operations of one document

pub applied_two : (k : Document) (w x : Write) → ((if same_document k k then w ∷ [] else []) ++ (if same_document k k then x ∷ [] else [])) ≡ w ∷ x ∷ []
applied_two k w x = rw (same_document-self k) refl

pub busy_next : BusyThenNext
busy_next key source other =
    let w : Write = write_for (op 1 key (Index source)) 1 in
    let x : Write = write_for (op 2 key (Index other)) 2 in (
      record {
        may = (
          tt,
          (
            record { write = w; sent = refl; outcome = inl (refusal_of 429 busy (lit≤ tt) (lit≤ tt) (λ e. apart 409 429 (sym e) (lit< tt))) },
            (
              record { request = one_request w; sent = refl; open_yet = refl; honest = λ _. (was _ (failed_run 0 0 429 busy) _ (inl refl) refl refl, tt) },
              (
                tt,
                (
                  record { write = w; sent = refl; outcome = inr (inl (refl, refl)) },
                  (
                    record { request = one_request w; sent = refl; open_yet = refl; honest = λ _. (was _ (ran 1 0 201) _ (inr (inl refl)) refl refl, tt) },
                    (
                      tt,
                      (
                        record { write = x; sent = refl; outcome = inr (inl (ap (λ o. is_above o 2) (stored_self (document_of key) 1 None), refl)) },
                        (
                          record { request = one_request x; sent = refl; open_yet = refl; honest = λ _. (was _ (ran 2 0 200) _ (inr (inr (inl refl))) refl refl, tt) },
                          tt,
                        ),
                      ),
                    ),
                  ),
                ),
              ),
            ),
          ),
        );
        applied = applied_two (document_of key) w x;
        attribution = attribution_two key (Index source) (Index other);
        in_order = λ p. sub_itself _;
      },
      rw (bytes_eq-self key.id) refl,
      rw (bytes_eq-self key.id) refl,
      rw (bytes_eq-self key.id) refl,
    )

-- of two lost requests and one for another write, the first two carried it
lost_each : (w x : Write) (a : Answer) → same_write w x ≡ false → (number place : ℕ) (q : Request)
    → CarriedAt (record { writes = w ∷ []; answer = Lost Closed } ∷ record { writes = w ∷ []; answer = Lost Closed } ∷ record { writes = x ∷ []; answer = a } ∷ []) w number place q → IsRetried q.writes place q.answer
lost_each w x a other zero place q h =
    let e : record { writes = w ∷ []; answer = Lost Closed } ≡ q = some_same _ q h.sent in subst (λ (r : Request). IsRetried r.writes place r.answer) e tt
lost_each w x a other (suc zero) place q h =
    let e : record { writes = w ∷ []; answer = Lost Closed } ≡ q = some_same _ q h.sent in subst (λ (r : Request). IsRetried r.writes place r.answer) e tt
lost_each w x a other (suc (suc zero)) place q h =
    let e : record { writes = x ∷ []; answer = a } ≡ q = some_same _ q h.sent in
    absurd (not_carried w x h.write place other (ap (λ (r : Request). slice_get r.writes place) e ∙ h.stands) h.same)
lost_each w x a other (suc (suc (suc n))) place q h = let t = h.sent in cc

pub given_up : GivenUpAndApplied
given_up key source =
    let w : Write = write_for (op 1 key (Index source)) 1 in
    let x : Write = write_for (op 2 key Delete) 2 in (
      record {
        may = (
          tt,
          (
            record { request = one_request w; sent = refl; open_yet = refl; honest = tt },
            (
              tt,
              (
                record { request = one_request w; sent = refl; open_yet = refl; honest = tt },
                (
                  record { write = w; sent = refl; outcome = inr (inl (refl, refl)) },
                  (
                    tt,
                    (
                      record { write = x; sent = refl; outcome = inr (inl (ap (λ o. is_above o 2) (stored_self (document_of key) 1 None), refl)) },
                      (
                        record { write = w; sent = refl; outcome = inr (inr (ap (λ o. is_above o 1) (stored_self (document_of key) 2 _), conflict_of conflict)) },
                        (
                          record { request = one_request x; sent = refl; open_yet = refl; honest = λ _. (was _ (ran 2 0 200) _ (inr (inl refl)) refl refl, tt) },
                          tt,
                        ),
                      ),
                    ),
                  ),
                ),
              ),
            ),
          ),
        );
        applied = applied_two (document_of key) w x;
        attribution = attribution_two key (Index source) Delete;
        in_order = λ p. sub_itself _;
      },
      refl,
      refl,
      inl (dealt_one (record {
        exactly = ap (λ b. one_if b + (one_if b + 0)) (carries_self w (Lost Closed));
        enough = (let n = ap (λ b. one_if (b && true) + (one_if (b && true) + 0)) (carries_self w (Lost Closed)) in omega (arith, n));
        each = lost_each w x _ refl;
      })),
      rw (bytes_eq-self key.id) refl,
    )

-- ---- three documents

above_either : (b : Bool) → is_above (if b then Some 1 else None) 3 ≡ true
above_either true = refl
above_either false = refl

above_lower : (b c : Bool) → b ≡ false → is_above (if b then Some 3 else (if c then Some 1 else None)) 2 ≡ true
above_lower true c h = cc
above_lower false true h = refl
above_lower false false h = refl

applied_first : (w x y : Write) (a b c : Bool) → a ≡ true → b ≡ false → c ≡ false → (((if a then w ∷ [] else []) ++ (if b then y ∷ [] else [])) ++ (if c then x ∷ [] else [])) ≡ w ∷ []
applied_first w x y a b c p q r = rw (p, q, r) refl

-- the operations of a producer among the first are its first
front : (t : Op → Bool) (o : Op) (rest : List Op) → IsSubsequence (filter t (o ∷ [])) (filter t (o ∷ rest))
front t o rest = front_by (t o)
  where
    front_by : (b : Bool) → IsSubsequence (if b then o ∷ [] else []) (if b then o ∷ filter t rest else filter t rest)
    front_by true = inl (refl, tt)
    front_by false = tt

pub three : ThreeThenOne
three k l m source other kl lm km =
    let w : Write = write_for (op 1 k (Index source)) 1 in
    let x : Write = write_for (op 2 l (Index other)) 2 in
    let y : Write = write_for (op 3 m Delete) 3 in (
      record {
        may = (
          tt,
          (
            record { write = w; sent = refl; outcome = inr (inl (refl, refl)) },
            (
              record { write = x; sent = refl; outcome = inl (refusal_of 429 busy (lit≤ tt) (lit≤ tt) (λ e. apart 409 429 (sym e) (lit< tt))) },
              (
                record { write = y; sent = refl; outcome = inr (inl (above_either (same_document (document_of m) (document_of k)), refl)) },
                (
                  record {
                    request = record { writes = w ∷ x ∷ y ∷ []; answer = Unanswered };
                    sent = refl;
                    open_yet = refl;
                    honest = λ _. (was _ (ran 0 0 201) _ (inl refl) refl refl, (was _ (failed_run 0 1 429 busy) _ (inr (inl refl)) refl refl, (was _ (ran 0 2 404) _ (inr (inr (inl refl))) refl refl, tt)));
                  },
                  (
                    tt,
                    (
                      record { write = x; sent = refl; outcome = inr (inl (above_lower (same_document (document_of l) (document_of m)) (same_document (document_of l) (document_of k)) lm, refl)) },
                      (
                        record { request = one_request x; sent = refl; open_yet = refl; honest = λ _. (was _ (ran 1 0 201) _ (inr (inr (inr (inl refl)))) refl refl, tt) },
                        tt,
                      ),
                    ),
                  ),
                ),
              ),
            ),
          ),
        );
        applied = applied_first w x y (same_document (document_of k) (document_of k)) (same_document (document_of k) (document_of m)) (same_document (document_of k) (document_of l)) (same_document-self (document_of k)) km kl;
        attribution = attribution_one k (Index source) 1 (op 2 l (Index other) ∷ op 3 m Delete ∷ []);
        in_order = λ p. front (is_from p) (op 1 k (Index source)) (op 2 l (Index other) ∷ op 3 m Delete ∷ []);
      },
      rw (bytes_eq-self k.id, bytes_eq-self l.id, bytes_eq-self m.id) refl,
      rw (bytes_eq-self k.id, bytes_eq-self l.id, bytes_eq-self m.id) refl,
      rw (bytes_eq-self k.id, bytes_eq-self l.id, bytes_eq-self m.id) refl,
      rw (bytes_eq-self l.id) refl,
    )

-- ---- a request that is too large

-- a request of both is halved, one for another write does not count, and the last is lost
halved_each : (w x : Write) → same_write x w ≡ false → (number place : ℕ) (q : Request)
    → CarriedAt (record { writes = w ∷ x ∷ []; answer = Whole 413 None } ∷ record { writes = w ∷ []; answer = Whole 413 None } ∷ record { writes = x ∷ []; answer = Lost Closed } ∷ []) x number place q → IsRetried q.writes place q.answer
halved_each w x other zero place q h =
    let e : record { writes = w ∷ x ∷ []; answer = Whole 413 None } ≡ q = some_same _ q h.sent in subst (λ (r : Request). IsRetried r.writes place r.answer) e refl
halved_each w x other (suc zero) place q h =
    let e : record { writes = w ∷ []; answer = Whole 413 None } ≡ q = some_same _ q h.sent in
    absurd (not_carried x w h.write place other (ap (λ (r : Request). slice_get r.writes place) e ∙ h.stands) h.same)
halved_each w x other (suc (suc zero)) place q h =
    let e : record { writes = x ∷ []; answer = Lost Closed } ≡ q = some_same _ q h.sent in subst (λ (r : Request). IsRetried r.writes place r.answer) e tt
halved_each w x other (suc (suc (suc n))) place q h = let t = h.sent in cc

too_large : ◌≡◌ {A = ℕ} 413 200 → ⊥
too_large e = apart 200 413 (sym e) (lit< tt)

pub halved_alone : HalvedThenAlone
halved_alone k l =
    let w : Write = write_for (op 1 k Delete) 1 in
    let x : Write = write_for (op 2 l Delete) 2 in (
      record {
        may = (
          tt,
          (
            record { request = record { writes = w ∷ x ∷ []; answer = Unanswered }; sent = refl; open_yet = refl; honest = too_large },
            (
              tt,
              (
                record { request = one_request w; sent = refl; open_yet = refl; honest = too_large },
                (tt, (record { request = one_request x; sent = refl; open_yet = refl; honest = tt }, tt)),
              ),
            ),
          ),
        );
        applied = refl;
        attribution = attribution_none _ _;
        in_order = λ p. tt;
      },
      refl,
      refl,
      refl,
      refl,
      inl (dealt_one (record {
        number = 1;
        place = 0;
        request = record { writes = w ∷ []; answer = Whole 413 None };
        carried = record { write = w; sent = refl; stands = refl; same = same_write-self w };
        given = None;
        answer = refl;
        reason_is = refl;
        final = refl;
      })),
      inl (record {
        version = 2;
        is_dealt = refl;
        of_write = record {
          exactly = ap (λ b. one_if b + (0 + (one_if b + 0))) (carries_self x (Lost Closed));
          enough = (let n = ap (λ b. one_if (b && false) + (0 + (one_if (b && true) + 0))) (carries_self x (Lost Closed)) in omega (arith, n));
          each = halved_each w x refl;
        };
      }),
    )
