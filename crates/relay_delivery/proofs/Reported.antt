-- What a lane has reported, whatever answers it got.
use Rattle.std.proofs.Common.{◌≡◌, ℕ, ◌+◌, ◌≤◌, List, [], ◌∷◌, ◌++◌, Option, Some, None, Bool, true, false, refl, sym, ap, ◌∙◌, subst, ⊎_elim, arith, append-nil, append_assoc}
use Rattle.std.specs.Prelude.{nat_lt, map}
use Rattle.std.proofs.lemmas.List.{map-append}
use Rattle.relay_action.specs.declared.write.Write.{Write}
use Rattle.relay_action.specs.declared.operation.Op.{Op}
use Rattle.relay_action.specs.declared.operation.OpName.{OpName}
use Rattle.relay_results.specs.declared.cause.Cause.TheVariants.{Spent}
use Rattle.relay_results.specs.Words.{Mem, AllDistinct, count, one_if}
use Rattle.relay_results.specs.Numbers.{from_zero}
use Rattle.relay_results.specs.Documents.{document_of, name_of, same_name}
use Rattle.relay_results.specs.Outside.{Answer}
use Rattle.relay_results.proofs.Lists.{Mem-left, Mem-last, Mem-one, Mem-cases, Mem-map, count-append}
use Rattle.relay_delivery.specs.Machine.{Config, Held, Report, report_on, held_if, spent_if, place_of, after_launch, launched_at, still_held, reports_from}
use Rattle.relay_delivery.specs.Delivery.{HasDistinctNames, names_of}
use Rattle.relay_delivery.specs.Lane.{tries_in, Entry, State, held_of, entry_if, taken_op, after_request_of, writes_at, after_answer_to, fresh_state}
use Rattle.relay_delivery.specs.Reach.{Call, Takes, Ticks, Sends, Answers, call, calls_of, taken_by, taken_in, Reached}
use Rattle.relay_delivery.proofs.Facts.{is_held_as, is_report_as, is_taken_as}
use Rattle.relay_delivery.proofs.Take.{is_new_held}
use Rattle.relay_delivery.proofs.Send.{launched_op}
use Rattle.relay_delivery.proofs.Fates.{turn, kept-from, kept_op, reported-from, count-settled}
use Rattle.relay_delivery.proofs.Names.{taken_once, reported_once}
use Rattle.relay_delivery.proofs.Fitting.{held_new, held_launched, held_kept}

-- the report is on an operation that was taken
pub record IsOnTaken (taken : List Op) (r : Report) : Type 0 where
  pub op : Op
  pub was_taken : Mem op taken
  pub name : r.name ≡ name_of op
  pub document : r.document ≡ document_of op.key

-- What is held and what is reported was taken, and a name is held and reported at most as often as it was taken.
record Names (held : List Held) (reports : List Report) (taken : List Op) : Type 0 where
  held_op : (h : Held) → Mem h held → Mem h.op taken
  report_on : (r : Report) → Mem r reports → IsOnTaken taken r
  apart : (n : OpName) → count (is_held_as n) held + count (is_report_as n) reports ≤ count (is_taken_as n) taken

on_more : (taken more : List Op) (r : Report) → IsOnTaken taken r → IsOnTaken (taken ++ more) r
on_more taken more r y = record { op = y.op; was_taken = Mem-left y.op taken more y.was_taken; name = y.name; document = y.document }

-- ---- take

new_held_op : (b : Bool) (g : Config) (n : ℕ) (o : Op) (taken : List Op) (h : Held) → Mem h (held_if b g n o) → Mem h.op (taken ++ o ∷ [])
new_held_op b g n o taken h m = subst (λ (x : Op). Mem x (taken ++ o ∷ [])) (sym (ap (λ (x : Held). x.op) (is_new_held b g n o h m).1)) (Mem-last taken o)

new_report : (b : Bool) (o : Op) (taken : List Op) (r : Report) → Mem r (spent_if b o) → IsOnTaken (taken ++ o ∷ []) r
new_report true o taken r m = absurd m
new_report false o taken r m =
    let e = Mem-one r (report_on o Spent) m in
    record { op = o; was_taken = Mem-last taken o; name = ap (λ (x : Report). x.name) e; document = ap (λ (x : Report). x.document) e }

new_once : (b : Bool) (g : Config) (k : ℕ) (o : Op) (n : OpName) → count (is_held_as n) (held_if b g k o) + count (is_report_as n) (spent_if b o) ≡ one_if (same_name n (name_of o))
new_once true g k o n = omega arith
new_once false g k o n = omega arith

take_names : (b : Bool) (g : Config) (k : ℕ) (o : Op) (held : List Held) (reports : List Report) (taken : List Op) → Names held reports taken → Names (held ++ held_if b g k o) (reports ++ spent_if b o) (taken ++ o ∷ [])
take_names b g k o held reports taken y = record {
  held_op = λ h m. ⊎_elim {C = Mem h.op (taken ++ o ∷ [])} (λ old. Mem-left h.op taken (o ∷ []) (y.held_op h old)) (λ new. new_held_op b g k o taken h new) (Mem-cases h held (held_if b g k o) m);
  report_on = λ r m. ⊎_elim {C = IsOnTaken (taken ++ o ∷ []) r} (λ old. on_more taken (o ∷ []) r (y.report_on r old)) (λ new. new_report b o taken r new) (Mem-cases r reports (spent_if b o) m);
  apart = λ n.
      let a = y.apart n in
      let h = count-append (is_held_as n) held (held_if b g k o) in
      let r = count-append (is_report_as n) reports (spent_if b o) in
      let t = count-append (is_taken_as n) taken (o ∷ []) in
      let e = new_once b g k o n in
      omega arith;
}

-- ---- request

same_launched : (n : OpName) (request : ℕ) (h : Held) (p : Option ℕ) → one_if (is_held_as n (launched_at request h p)) ≡ one_if (is_held_as n h)
same_launched n request h None = refl
same_launched n request h (Some p) = refl

count_launched : (n : OpName) (request : ℕ) (chosen hs : List Held) → count (is_held_as n) (map (after_launch request chosen) hs) ≡ count (is_held_as n) hs
count_launched n request chosen [] = refl
count_launched n request chosen (h ∷ hs) =
    let e = same_launched n request h (place_of h.version chosen) in
    let r = count_launched n request chosen hs in
    omega (arith, e, r)

send_names : (request : ℕ) (chosen held : List Held) (reports : List Report) (taken : List Op) → Names held reports taken → Names (map (after_launch request chosen) held) reports taken
send_names request chosen held reports taken y = record {
  held_op = λ h m.
      let x = Mem-map (after_launch request chosen) h held m in
      let o : h.op ≡ x.0.op = ap (λ (z : Held). z.op) x.2 ∙ launched_op request x.0 (place_of x.0.version chosen) in
      subst (λ (z : Op). Mem z taken) (sym o) (y.held_op x.0 x.1);
  report_on = y.report_on;
  apart = λ n. let a = y.apart n in let e = count_launched n request chosen held in omega (arith, a, e);
}

-- ---- answer

settle_names : (allowed : ℕ → ℕ) (n : ℕ) (ws : List Write) (a : Answer) (held : List Held) (reports : List Report) (taken : List Op) → Names held reports taken → Names (still_held allowed n ws a held) (reports ++ reports_from allowed n ws a held) taken
settle_names allowed n ws a held reports taken y = record {
  held_op = λ h m.
      let x = kept-from allowed n ws a held h m in
      subst (λ (z : Op). Mem z taken) (sym (kept_op (turn allowed n ws a x.0) x.0 h x.2)) (y.held_op x.0 x.1);
  report_on = λ r m. ⊎_elim {C = IsOnTaken taken r}
      (λ old. y.report_on r old)
      (λ new.
      let x = reported-from allowed n ws a held r new in
      record { op = x.0.op; was_taken = y.held_op x.0 x.1; name = ap (λ (z : Report). z.name) x.2.2; document = ap (λ (z : Report). z.document) x.2.2 })
      (Mem-cases r reports (reports_from allowed n ws a held) m);
  apart = λ name.
      let b = y.apart name in
      let r = count-append (is_report_as name) reports (reports_from allowed n ws a held) in
      let e = count-settled allowed n ws a name held in
      omega (arith, b, r, e);
}

-- ---- calls

abbrev NamesOf : State → List Op → Type 0
NamesOf s taken = Names (held_of s.held) s.reports taken

with_held : (now held : List Held) (reports : List Report) (taken : List Op) → now ≡ held → Names held reports taken → Names now reports taken
with_held now held reports taken e y = subst (λ hs. Names hs reports taken) (sym e) y

call_names : (c : Call) (s : State) (taken : List Op) → NamesOf s taken → NamesOf (call c s) (taken ++ taken_by c)
call_names (Takes o bytes) s taken y =
    let b = nat_lt s.taken s.config.deals in
    let now : held_of (taken_op s o bytes).held ≡ held_of s.held ++ held_if b s.config s.taken o =
    map-append (λ (e : Entry). e.held) s.held (entry_if b s o bytes) ∙ ap (λ xs. held_of s.held ++ xs) (held_new b s o bytes) in
    with_held _ _ _ _ now (take_names b s.config s.taken o (held_of s.held) s.reports taken y)
call_names (Ticks clock) s taken y = subst (λ os. NamesOf s os) (sym (append-nil taken)) y
call_names (Sends chosen) s taken y = subst (λ os. NamesOf (after_request_of s chosen) os) (sym (append-nil taken))
    (with_held _ _ _ _ (held_launched s.clock s.requests (held_of chosen) s.held) (send_names s.requests (held_of chosen) (held_of s.held) s.reports taken y))
call_names (Answers number a) s taken y =
    let n = from_zero number in
    let ws = writes_at n s.flying in
    subst (λ os. NamesOf (after_answer_to s number a) os) (sym (append-nil taken))
    (with_held _ _ _ _ (held_kept (tries_in s) s.clock n ws a s.held) (settle_names (tries_in s) n ws a (held_of s.held) s.reports taken y))

calls_names : (cs : List Call) (s : State) (taken : List Op) → NamesOf s taken → NamesOf (calls_of cs s) (taken ++ taken_in cs)
calls_names [] s taken y = subst (λ os. NamesOf s os) (sym (append-nil taken)) y
calls_names (c ∷ cs) s taken y =
    subst (λ os. NamesOf (calls_of cs (call c s)) os) (append_assoc taken (taken_by c) (taken_in cs))
    (calls_names cs (call c s) (taken ++ taken_by c) (call_names c s taken y))

reached_names : (s : State) (taken : List Op) → Reached s taken → NamesOf s taken
reached_names s taken r =
    subst (λ os. NamesOf s os) r.took
    (subst (λ (t : State). NamesOf t (taken_in r.calls)) r.reached
    (calls_names r.calls (fresh_state s.config) [] (record { held_op = λ h m. absurd m; report_on = λ x m. absurd m; apart = λ n. omega arith })))

-- ---- what holds

pub reports_taken : (s : State) (taken : List Op) → Reached s taken → (r : Report) → Mem r s.reports → IsOnTaken taken r
reports_taken s taken reached r m = (reached_names s taken reached).report_on r m

pub reports_once : (s : State) (taken : List Op) → Reached s taken → HasDistinctNames taken → AllDistinct (names_of s.reports)
reports_once s taken reached distinct = reported_once s.reports (λ n.
    let a = (reached_names s taken reached).apart n in
    let b = taken_once taken distinct n in
    omega (arith, a, b))
