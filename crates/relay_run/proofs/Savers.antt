-- What a lane is told of is what its file was given.
use Rattle.std.proofs.Common.{◌≡◌, ℕ, ◌+◌, ◌<◌, Bool, true, false, not, IsTrue, List, [], ◌∷◌, ◌++◌, length, take, get_or, Option, Some, None, Result, Ok, Err, IfOk, IfErr, refl, sym, ap, subst, ◌∙◌, ◌⊎◌, ⊎_elim, append-nil, append_assoc, inl, inr, arith}
use Rattle.std.specs.Prelude.{◌==◌, ◌||◌, flat_map, map}
use Rattle.std.specs.Io.KnownBytes.{append_known}
use Rattle.std.proofs.lemmas.Bool.{false≢true}
use Rattle.std.proofs.lemmas.List.{map-append, take_more}
use Rattle.std.proofs.lemmas.List.Concat.{flat_map-append}
use Rattle.std.proofs.lemmas.List.Elements.{filter-append}
use Rattle.relay_action.specs.Streams.{FailedSince}
use Rattle.relay_results.specs.Outside.{Outside}
use Rattle.relay_results.proofs.Lists.{Mem-left, Mem-last, Mem-push_cases, some_same}
use Rattle.relay_delivery.specs.Machine as delivery
use Rattle.relay_core.specs.declared.config.RelayConfig.{RelayConfig}
use Rattle.relay_core.specs.declared.report.Report.{Report}
use Rattle.relay_core.specs.declared.success.Success.{Success}
use Rattle.relay_core.specs.Walk.{report_of}
use Rattle.relay_lane.specs.Exchanges.{Exchange}
use Rattle.relay_producer.specs.declared.ends.ClosedEnd.{ClosedEnd}
use Rattle.relay_report.specs.Reports.{report_line}
use Rattle.relay_threads.specs.declared.fault.FinishFault.{FinishFault}
use Rattle.relay_threads.specs.declared.fault.StartFault.{StartFault}
use Rattle.relay_threads.specs.declared.summary.LaneSummary.{LaneSummary}
use Rattle.relay_threads.specs.declared.summary.Summary.{Summary}
use Rattle.relay_threads.specs.Told.{Told, applied_of, reports_of, AddsApplied, AddsReport}
use Rattle.relay_threads.specs.ToldAll.{ToldLane, AllTold}
use Rattle.relay_action.specs.declared.operation.OpName.{OpName}
use Rattle.relay_receipts.specs.Ends.{Channel}
use Rattle.relay_keeping.specs.declared.told.Told.{Told as KeptTold}
use Rattle.relay_keeping.specs.Tellers.{AreNewLanes, LaneState, after_report as saved_after}
use Rattle.relay_run.specs.declared.report_file.ReportFile.{ReportFile}
use Rattle.relay_run.specs.ReportFile.{AreNewHandles}
use Rattle.relay_run.specs.Numbering.{report_on}
use Rattle.relay_run.specs.Settling.{Seat, Settled, name_of, after_report}
use Rattle.relay_run.specs.Saving.{Saver, told_by, IsExactly, BeginsWith, GoesOn, Keeps, KeepsAll, KeepsTold, KeepsOneMore, Settles, AllGoOnFrom, AreUntold, AreUnwritten, AreNew, SayFailed, AllKeep, Saves, AllSave, seat_of}

-- ---- one report

exactly_more : (given : Option (List ℕ)) (text line : List ℕ) → IsExactly given text → IsExactly (append_known given line) (text ++ line)
exactly_more None text line e = tt
exactly_more (Some w) text line e = ap (λ t. t ++ line) e

lines_more : (reports : List Report) (r : Report) → flat_map report_line (reports ++ r ∷ []) ≡ flat_map report_line reports ++ report_line r
lines_more reports r = flat_map-append report_line reports (r ∷ []) ∙ ap (λ l. flat_map report_line reports ++ l) (append-nil (report_line r))

saved : (r : Report) (given now : Option (List ℕ)) (failures failed : ℕ) → now ≡ append_known given (report_line r) → failed ≡ failures → KeepsOneMore r false false given now failures failed
saved r given now failures failed is same reports k = (
  subst (λ (o : Option (List ℕ)). IsExactly o (flat_map report_line (reports ++ r ∷ []))) (sym is)
      (subst (λ (t : List ℕ). IsExactly (append_known given (report_line r)) t) (sym (lines_more reports r)) (exactly_more given (flat_map report_line reports) (report_line r) k.0)),
  same ∙ k.1,
)

-- the line of a report was written, or a write of it failed
pub saved_or_failed : (r : Report) (said : Bool) (line : List ℕ) (given now : Option (List ℕ)) (failures failed : ℕ) → line ≡ report_line r
    → (IsTrue said → (now ≡ append_known given line) × (failed ≡ failures)) → (said ≡ false → FailedSince failures failed)
    → KeepsOneMore r false (not said) given now failures failed
saved_or_failed r true line given now failures failed is all none =
    let a = all refl in saved r given now failures failed (a.0 ∙ ap (append_known given) is) a.1
saved_or_failed r false line given now failures failed is all none = λ reports k. let f = none refl in omega (arith, f)

-- nothing is saved after a failure
pub saved_no_more : (r : Report) (given : Option (List ℕ)) (failures : ℕ) → KeepsOneMore r true true given given failures failures
saved_no_more r given failures reports k = k

-- ---- what is told as settled

begins_all : (given : Option (List ℕ)) (text : List ℕ) → IsExactly given text → BeginsWith given text
begins_all None text e = tt
begins_all (Some w) text e = ([], e ∙ sym (append-nil text))

pub begins_none : (given : Option (List ℕ)) → BeginsWith given []
begins_none None = tt
begins_none (Some w) = (w, refl)

-- more was written
pub goes_on : (given now : Option (List ℕ)) (sent : List ℕ) → now ≡ append_known given sent → GoesOn given now
goes_on None now sent is text h = subst (λ (o : Option (List ℕ)). BeginsWith o text) (sym is) tt
goes_on (Some w) now sent is text h =
    subst (λ (o : Option (List ℕ)). BeginsWith o text) (sym is) (h.0 ++ sent, ap (λ l. l ++ sent) h.1 ∙ append_assoc text h.0 sent)

pub goes_on_same : (given now : Option (List ℕ)) → now ≡ given → GoesOn given now
goes_on_same given now is text h = subst (λ (o : Option (List ℕ)). BeginsWith o text) (sym is) h

-- nothing was told yet
pub settles_nothing : (given : Option (List ℕ)) (failures : ℕ) (before : List ℕ) (settled : Settled) → IsExactly given [] × (failures ≡ 0) → settled ≡ record { applied = []; saved = [] } → KeepsAll false given failures before [] [] settled
settles_nothing given failures before settled new is = (
  (new.0, new.1),
  record {
    saved = [];
    others = [];
    applies = ap (λ (s : Settled). s.applied) is;
    reports = refl;
    saves = ap (λ (s : Settled). s.saved) is;
    lines = begins_none given;
    all = λ _. refl;
  },
)

-- what a lane told after a report, part by part
pub after_both : (failed : Bool) (name : OpName) (old new : Settled) → new.applied ≡ old.applied → new.saved ≡ saved_after failed name old.saved → new ≡ after_report failed name old
after_both true name old new a s = λ i. record { applied = a i; saved = s i }
after_both false name old new a s = λ i. record { applied = a i; saved = s i }

-- ends by which nothing was told yet
pub untold_lanes : (channel : Channel KeptTold) (teller : ℕ) (vs : List LaneState) → AreNewLanes channel teller vs → AreUntold vs
untold_lanes channel teller [] all = tt
untold_lanes channel teller (v ∷ vs) all = ((ap (λ (w : LaneState). w.applied) all.0, ap (λ (w : LaneState). w.saved) all.0), untold_lanes channel (teller + 1) vs all.1)

-- one more end by which nothing was told
pub untold_push : (vs : List LaneState) (v : LaneState) → AreUntold vs → (v.applied ≡ []) × (v.saved ≡ []) → AreUntold (vs ++ v ∷ [])
untold_push [] v all one = (one, tt)
untold_push (x ∷ vs) v all one = (all.0, untold_push vs v all.1 one)

-- more operations were applied
pub settles_applied : (failed : Bool) (given : Option (List ℕ)) (failures : ℕ) (before : List ℕ) (old new xs : List Success) (reported : List Report) (settled after : Settled)
    → new ≡ old ++ xs → after.applied ≡ settled.applied ++ map name_of xs → after.saved ≡ settled.saved → KeepsAll failed given failures before old reported settled → KeepsAll failed given failures before new reported after
settles_applied failed given failures before old new xs reported settled after more applied saved k = (
  k.0,
  record {
    saved = k.1.saved;
    others = k.1.others;
    applies = applied ∙ (ap (λ l. l ++ map name_of xs) k.1.applies ∙ (sym (map-append name_of old xs) ∙ ap (map name_of) (sym more)));
    reports = k.1.reports;
    saves = saved ∙ k.1.saves;
    lines = k.1.lines;
    all = k.1.all;
  },
)

module _ (r : Report) (given now : Option (List ℕ)) (failures fails : ℕ) (before : List ℕ) (applied : List Success) (reported : List Report) (settled after : Settled) where
  keeps_one : (failed later : Bool) → KeepsOneMore (report_on before r) failed later given now failures fails → Keeps failed given failures (map (report_on before) reported)
      → Keeps later now fails (map (report_on before) (reported ++ r ∷ []))
  keeps_one failed later one k =
      subst (λ (l : List Report). Keeps later now fails l) (sym (map-append (report_on before) reported (r ∷ []))) (one (map (report_on before) reported) k)

  -- the report was saved
  settles_saved : Settles false given before applied reported settled → Keeps false now fails (map (report_on before) (reported ++ r ∷ [])) → after ≡ after_report false r.name settled
      → Settles false now before applied (reported ++ r ∷ []) after
  settles_saved s k is =
      let whole : reported ≡ s.saved = s.reports ∙ (ap (λ l. s.saved ++ l) (s.all refl) ∙ append-nil s.saved) in record {
        saved = reported ++ r ∷ [];
        others = [];
        applies = ap (λ (x : Settled). x.applied) is ∙ s.applies;
        reports = sym (append-nil (reported ++ r ∷ []));
        saves = ap (λ (x : Settled). x.saved) is
            ∙ (ap (λ l. l ++ r.name ∷ []) (s.saves ∙ ap (map (λ (x : Report). x.name)) (sym whole)) ∙ sym (map-append (λ (x : Report). x.name) reported (r ∷ [])));
        lines = begins_all now (flat_map report_line (map (report_on before) (reported ++ r ∷ []))) k.0;
        all = λ _. refl;
      }

  -- it was not
  settles_unsaved : (failed : Bool) → Settles failed given before applied reported settled → GoesOn given now → after ≡ after_report true r.name settled → Settles true now before applied (reported ++ r ∷ []) after
  settles_unsaved failed s on is = record {
    saved = s.saved;
    others = s.others ++ r ∷ [];
    applies = ap (λ (x : Settled). x.applied) is ∙ s.applies;
    reports = ap (λ l. l ++ r ∷ []) s.reports ∙ append_assoc s.saved s.others (r ∷ []);
    saves = ap (λ (x : Settled). x.saved) is ∙ s.saves;
    lines = on (flat_map report_line (map (report_on before) s.saved)) s.lines;
    all = λ (e : true ≡ false). absurd (false≢true (sym e));
  }

  -- one more was reported
  pub settles_report : (failed later : Bool) → (failed ≡ true → later ≡ true) → KeepsOneMore (report_on before r) failed later given now failures fails → GoesOn given now → after ≡ after_report later r.name settled
      → KeepsAll failed given failures before applied reported settled → KeepsAll later now fails before applied (reported ++ r ∷ []) after
  settles_report true true stays one on is k = (keeps_one true true one k.0, settles_unsaved true k.1 on is)
  settles_report true false stays one on is k = absurd (false≢true (stays refl))
  settles_report false true stays one on is k = (keeps_one false true one k.0, settles_unsaved false k.1 on is)
  settles_report false false stays one on is k = let ks = keeps_one false false one k.0 in (ks, settles_saved k.1 ks is)

-- one more report was noted
pub noted_one : (old new : List (Report × Unit {0})) (r : Report) → new ≡ old ++ (r, tt) ∷ [] → map (λ (x : Report × Unit {0}). x.0) new ≡ map (λ (x : Report × Unit {0}). x.0) old ++ r ∷ []
noted_one old new r is = ap (map (λ (x : Report × Unit {0}). x.0)) is ∙ map-append (λ (x : Report × Unit {0}). x.0) old ((r, tt) ∷ [])

-- ---- what is told

told_more : (p : ℕ) (xs ys : List delivery.Report) → reports_of p (xs ++ ys) ≡ reports_of p xs ++ reports_of p ys
told_more p xs ys = filter-append (λ (r : delivery.Report). r.name.producer == p) xs ys

pub adds_applied : (p : ℕ) (xs : List Success) (old new : Saver) → new.applied ≡ old.applied ++ xs → new.reported ≡ old.reported → AddsApplied p xs (told_by old p) (told_by new p)
adds_applied p xs old new more same all is = (
  record { applied = applied_of p old.applied; reported = reports_of p (map report_of old.reported) },
  refl,
  some_same all _ (sym is) ∙ (λ i. record {
    applied = (ap (applied_of p) more ∙ filter-append (λ (x : Success). x.name.producer == p) old.applied xs) i;
    reported = reports_of p (map report_of (same i));
  }),
)

pub adds_report : (p : ℕ) (r : Report) (old new : Saver) → new.applied ≡ old.applied → new.reported ≡ old.reported ++ r ∷ [] → AddsReport p (report_of r) (told_by old p) (told_by new p)
adds_report p r old new same more all is = (
  record { applied = applied_of p old.applied; reported = reports_of p (map report_of old.reported) },
  refl,
  some_same all _ (sym is) ∙ (λ i. record {
    applied = applied_of p (same i);
    reported = (ap (λ l. reports_of p (map report_of l)) more ∙ ap (reports_of p) (map-append report_of old.reported (r ∷ [])) ∙ told_more p (map report_of old.reported) (report_of r ∷ [])) i;
  }),
)

-- ---- all lanes

new_push : (ss : List Saver) (s : Saver) → AreNew ss → (s.applied ≡ []) × (s.reported ≡ []) → AreNew (ss ++ s ∷ [])
new_push [] s new one = (one, tt)
new_push (x ∷ ss) s new one = (new.0, new_push ss s new.1 one)

-- one more of them
pub new_on : (ss next : List Saver) (s : Saver) → next ≡ ss ++ s ∷ [] → AreNew ss → (s.applied ≡ []) × (s.reported ≡ []) → AreNew next
new_on ss next s is new one = subst AreNew (sym is) (new_push ss s new one)

go_on_push : (before : List ℕ) (ss : List Saver) (s : Saver) → AllGoOnFrom before ss → s.before ≡ before → AllGoOnFrom before (ss ++ s ∷ [])
go_on_push before [] s all one = (one, tt)
go_on_push before (x ∷ ss) s all one = (all.0, go_on_push before ss s all.1 one)

pub go_on_more : (before : List ℕ) (ss next : List Saver) (s : Saver) → next ≡ ss ++ s ∷ [] → AllGoOnFrom before ss → s.before ≡ before → AllGoOnFrom before next
go_on_more before ss next s is all one = subst (AllGoOnFrom before) (sym is) (go_on_push before ss s all one)

-- the files that are left
pub left_on : {F : Type 0} (written : F → Option (List ℕ)) (failed : F → ℕ) (left others : List F) (f : F) → left ≡ f ∷ others → AreUnwritten written failed left → (IsExactly (written f) [] × (failed f ≡ 0)) × AreUnwritten written failed others
left_on written failed left others f is h = subst (AreUnwritten written failed) is h

keep_push : (ss : List Saver) (s : Saver) → AllKeep ss → KeepsTold s → AllKeep (ss ++ s ∷ [])
keep_push ss s all one x m = ⊎_elim (λ l. all x l) (λ e. subst KeepsTold (sym e) one) (Mem-push_cases x ss s m)

failed_push : (ss : List Saver) (s : Saver) (one b : Bool) → SayFailed ss b → one ≡ s.failed → SayFailed (ss ++ s ∷ []) (one || b)
failed_push ss s true b h is = (s, Mem-last ss s, sym is)
failed_push ss s false true h is = (h.0, Mem-left h.0 ss (s ∷ []) h.1, h.2)
failed_push ss s false false h is = λ x m. ⊎_elim (λ l. h x l) (λ e. ap (λ (y : Saver). y.failed) e ∙ sym is) (Mem-push_cases x ss s m)

next_of : (ss : List Saver) (k : ℕ) (s : Saver) → k < length ss → s ≡ get_or ss k s → take k ss ++ s ∷ [] ≡ take (k + 1) ss
next_of ss k s inside is = sym (take_more ss k s inside ∙ ap (λ x. take k ss ++ x ∷ []) (sym is))

pub keep_on : (ss : List Saver) (k : ℕ) (s : Saver) → k < length ss → s ≡ get_or ss k s → AllKeep (take k ss) → KeepsTold s → AllKeep (take (k + 1) ss)
keep_on ss k s inside is all one = subst AllKeep (next_of ss k s inside is) (keep_push (take k ss) s all one)

pub failed_on : (ss : List Saver) (k : ℕ) (s : Saver) (one b new : Bool) → k < length ss → s ≡ get_or ss k s → SayFailed (take k ss) b → one ≡ s.failed → new ≡ (one || b) → SayFailed (take (k + 1) ss) new
failed_on ss k s one b new inside is h e n =
    subst (λ (x : Bool). SayFailed (take (k + 1) ss) x) (sym n) (subst (λ l. SayFailed l (one || b)) (next_of ss k s inside is) (failed_push (take k ss) s one b h e))

module _ {W : Type 0} (describes : W → Bool) (fits : W → Outside → Type 0) (carries : W → Exchange → W → Type 0) (c : RelayConfig) (rows : List (List ClosedEnd)) where
  saves_one : (lane : ℕ) (start : W) (first last : Saver) (s : LaneSummary W) → ToldLane describes fits carries told_by c rows lane start first last s → first.reported ≡ [] → KeepsTold last → Saves last s.reports.items
  saves_one lane start first last s h none keeps = record {
    same = λ p.
        let t = h.shown p _ refl in
        ap (λ (x : Told). x.reported) t.2
        ∙ ap (λ l. l ++ reports_of p (map report_of s.reports.items)) (ap (λ (x : Told). x.reported) (some_same t.0 _ (sym t.1)) ∙ ap (λ l. reports_of p (map report_of l)) none);
    keeps = keeps;
  }

  pub all_save : (lane : ℕ) (wires : List W) (firsts lasts : List Saver) (ss : List (LaneSummary W)) → AllTold describes fits carries told_by c rows lane wires firsts lasts ss → AreNew firsts → AllKeep lasts → AllSave lasts ss
  all_save lane [] [] [] [] h new keep = tt
  all_save lane [] [] [] (s ∷ ss) h new keep = absurd h
  all_save lane [] [] (t ∷ ts) ss h new keep = absurd h
  all_save lane [] (f ∷ fs) ts ss h new keep = absurd h
  all_save lane (w ∷ ws) [] ts ss h new keep = absurd h
  all_save lane (w ∷ ws) (f ∷ fs) [] ss h new keep = absurd h
  all_save lane (w ∷ ws) (f ∷ fs) (t ∷ ts) [] h new keep = absurd h
  all_save lane (w ∷ ws) (f ∷ fs) (t ∷ ts) (s ∷ ss) h new keep =
      (saves_one lane w f t s h.0 new.0.1 (keep t (inl refl)), all_save (lane + 1) ws fs ts ss h.1 new.1 (λ x m. keep x (inr m)))

-- ---- the ends by which lanes tell

abbrev pub destination_of : Saver → List ℕ × Seat
destination_of s = (s.before, s.via)

seats_of : (ss : List Saver) → map seat_of ss ≡ map (λ (d : List ℕ × Seat). d.1) (map destination_of ss)
seats_of [] = refl
seats_of (s ∷ ss) = ap (λ l. s.via ∷ l) (seats_of ss)

pub seats_by : (ss ts : List Saver) → map destination_of ss ≡ map destination_of ts → map seat_of ss ≡ map seat_of ts
seats_by ss ts same = seats_of ss ∙ (ap (map (λ (d : List ℕ × Seat). d.1)) same ∙ sym (seats_of ts))

-- ---- the end of a relay

module _ {W V : Type 0} (items : V → List Saver) where
  -- what holds after its summary holds of how it ended
  pub of_end : (Q : Summary W → Type 0) (r : Result (Summary W × V) FinishFault) (end : Result (Summary W) FinishFault) (tells : List Saver)
      → IfOk r (λ f. (end ≡ Ok f.0) × (tells ≡ items f.1)) → IfErr r (λ e. (end ≡ Err e) × (tells ≡ [])) → IfOk r (λ f. Q f.0) → IfOk end Q
  of_end Q (Ok f) end tells ok err h = subst (λ (e : Result (Summary W) FinishFault). IfOk e Q) (sym ok.0) h
  of_end Q (Err e) end tells ok err h = subst (λ (e : Result (Summary W) FinishFault). IfOk e Q) (sym err.0) tt

  pub saves_at_end : (describes : W → Bool) (fits : W → Outside → Type 0) (carries : W → Exchange → W → Type 0) (c : RelayConfig) (rows : List (List ClosedEnd)) (wires : List W) (starts firsts : List Saver) (r : Result (Summary W × V) FinishFault) (end : Result (Summary W) FinishFault) (tells : List Saver)
      → IfOk r (λ f. (end ≡ Ok f.0) × (tells ≡ items f.1)) → IfErr r (λ e. (end ≡ Err e) × (tells ≡ [])) → starts ≡ firsts → AreNew firsts → AllKeep tells
      → IfOk r (λ f. AllTold describes fits carries told_by c rows 0 wires starts (items f.1) f.0.lanes.items) → IfOk end (λ s. AllSave tells s.lanes.items)
  saves_at_end describes fits carries c rows wires starts firsts (Ok f) end tells ok err start new keep h =
      subst (λ (e : Result (Summary W) FinishFault). IfOk e (λ s. AllSave tells s.lanes.items)) (sym ok.0)
      (all_save describes fits carries c rows 0 wires starts tells f.0.lanes.items (subst (λ ts. AllTold describes fits carries told_by c rows 0 wires starts ts f.0.lanes.items) (sym ok.1) h) (subst AreNew (sym start) new) keep)
  saves_at_end describes fits carries c rows wires starts firsts (Err e) end tells ok err start new keep h =
      subst (λ (e : Result (Summary W) FinishFault). IfOk e (λ s. AllSave tells s.lanes.items)) (sym err.0) tt

  -- the lanes tell by the ends by which they told at the start
  pub seats_at_end : (starts firsts : List Saver) (r : Result (Summary W × V) FinishFault) (end : Result (Summary W) FinishFault) (tells : List Saver)
      → IfOk r (λ f. (end ≡ Ok f.0) × (tells ≡ items f.1)) → IfErr r (λ e. (end ≡ Err e) × (tells ≡ [])) → starts ≡ firsts
      → IfOk r (λ f. map destination_of (items f.1) ≡ map destination_of starts) → IfOk end (λ _. map seat_of tells ≡ map seat_of firsts)
  seats_at_end starts firsts (Ok f) end tells ok err start same =
      subst (λ (e : Result (Summary W) FinishFault). IfOk e (λ _. map seat_of tells ≡ map seat_of firsts)) (sym ok.0)
      (ap (map seat_of) ok.1 ∙ (seats_by (items f.1) starts same ∙ ap (map seat_of) start))
  seats_at_end starts firsts (Err e) end tells ok err start same =
      subst (λ (x : Result (Summary W) FinishFault). IfOk x (λ _. map seat_of tells ≡ map seat_of firsts)) (sym err.0) tt

-- ---- the start of a relay

-- a thread that could not be started is no wrong number of wires
pub counts_no_wires : (e : StartFault) → (e ≡ StartFault.Memory) ⊎ (e ≡ StartFault.Thread) → e ≡ StartFault.WireCount → ⊥
counts_no_wires e h is = ⊎_elim (λ (m : e ≡ StartFault.Memory). cc) (λ (t : e ≡ StartFault.Thread). cc) h

-- ---- the file of the reports

-- one more handle
pub new_handles_push : (hs : List (ReportFile × ℕ)) (h : ReportFile × ℕ) (file : ReportFile) → AreNewHandles hs → h ≡ (file, 0) → AreNewHandles (hs ++ h ∷ [])
new_handles_push [] h file new is = ((tt, ap (λ (x : ReportFile × ℕ). x.1) is), tt)
new_handles_push (x ∷ hs) h file new is = (new.0, new_handles_push hs h file new.1 is)
