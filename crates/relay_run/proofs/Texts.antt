-- The texts of a run, file by file and lane by lane.
use Rattle.std.proofs.Common.{◌≡◌, ℕ, ◌+◌, ◌<◌, Bool, if◌then◌else◌, Ok, Err, OnOk, List, ◌∷◌, ◌++◌, length, take, drop, get_or, sym, ap, ◌∙◌, append_assoc}
use Rattle.std.specs.Prelude.{Option, Result, is_ok}
use Rattle.std.specs.declared.alloc.AllocError.{AllocError}
use Rattle.std.proofs.Math.Seq.{take-append_seam}
use Rattle.std.proofs.lemmas.List.{drop_more}
use Rattle.relay_core.specs.declared.report.Report.{Report}
use Rattle.relay_words.specs.declared.exit.Exit.{Exit}
use Rattle.relay_threads.specs.declared.summary.LaneSummary.{LaneSummary}
use Rattle.relay_run.specs.declared.feed.FeedFault.{FeedFault}
use Rattle.relay_run.specs.Faults.{file_fault, said_of, worse_by, faults_text, exit_of_files}
use Rattle.relay_run.specs.Outcomes.{reports_of}

-- ---- files

-- a line whose front was added, and its last part unless an allocation failed
pub ended_line : (r : Result Unit AllocError) (new mid text name file end line : List ℕ) → new ≡ (if is_ok r then mid ++ end else mid) → mid ≡ text ++ name → name ≡ file
    → file ++ end ≡ line → OnOk r (new ≡ text ++ line)
ended_line (Ok x) new mid text name file end line n m f l = n ∙ ap (λ t. t ++ end) m ∙ append_assoc text name end ∙ ap (λ t. text ++ (t ++ end)) f ∙ ap (λ t. text ++ t) l
ended_line (Err e) new mid text name file end line n m f l = tt

-- whether or not the end of it could be added, a text begins as it did
pub begins_on : (r : Result Unit AllocError) (new mid text name end : List ℕ) → new ≡ (if is_ok r then mid ++ end else mid) → mid ≡ text ++ name → take (length text) new ≡ text
begins_on (Ok x) new mid text name end n m = ap (take (length text)) (n ∙ ap (λ t. t ++ end) m ∙ append_assoc text name end) ∙ take-append_seam text (name ++ end)
begins_on (Err e) new mid text name end n m = ap (take (length text)) (n ∙ m) ∙ take-append_seam text name

-- what is said of one more file
pub said_on : (files : List (List ℕ)) (opened : List Bool) (stops : List (Option FeedFault)) (beneath : List (List ℕ)) (place : ℕ) (file : List ℕ) (d : Bool) (e : Option FeedFault) (line text new all : List ℕ)
    → place < length files → place < length opened → place < length stops → place < length beneath
    → file ≡ get_or files place file → line ≡ get_or beneath place line → new ≡ text ++ said_of file (file_fault (get_or opened place d) (get_or stops place e)) line
    → text ++ faults_text (drop place files) (drop place opened) (drop place stops) (drop place beneath) ≡ all
    → new ++ faults_text (drop (place + 1) files) (drop (place + 1) opened) (drop (place + 1) stops) (drop (place + 1) beneath) ≡ all
said_on files opened stops beneath place file d e line text new all f o s b at under is h =
    let said = said_of file (file_fault (get_or opened place d) (get_or stops place e)) line in
    let left = faults_text (drop (place + 1) files) (drop (place + 1) opened) (drop (place + 1) stops) (drop (place + 1) beneath) in
    let next : drop place files ≡ file ∷ drop (place + 1) files = drop_more files place file f ∙ ap (λ x. x ∷ drop (place + 1) files) (sym at) in
    let lower : drop place beneath ≡ line ∷ drop (place + 1) beneath = drop_more beneath place line b ∙ ap (λ x. x ∷ drop (place + 1) beneath) (sym under) in
    let whole : faults_text (drop place files) (drop place opened) (drop place stops) (drop place beneath) ≡ said ++ left = λ i. faults_text (next i) (drop_more opened place d o i) (drop_more stops place e s i) (lower i) in
    ap (λ t. t ++ left) is ∙ append_assoc text said left ∙ ap (λ t. text ++ t) (sym whole) ∙ h

pub exit_on : (opened : List Bool) (stops : List (Option FeedFault)) (place : ℕ) (d : Bool) (e : Option FeedFault) (old new all : Exit)
    → place < length opened → place < length stops → new ≡ worse_by old (file_fault (get_or opened place d) (get_or stops place e))
    → exit_of_files old (drop place opened) (drop place stops) ≡ all → exit_of_files new (drop (place + 1) opened) (drop (place + 1) stops) ≡ all
exit_on opened stops place d e old new all o s is h =
    let whole : exit_of_files old (drop place opened) (drop place stops) ≡ exit_of_files (worse_by old (file_fault (get_or opened place d) (get_or stops place e))) (drop (place + 1) opened) (drop (place + 1) stops) = λ i. exit_of_files old (drop_more opened place d o i) (drop_more stops place e s i) in
    ap (λ x. exit_of_files x (drop (place + 1) opened) (drop (place + 1) stops)) is ∙ sym whole ∙ h

-- ---- lanes

module _ {W : Type 0} where
  pub reports_on : (reports new all : List Report) (left others : List (LaneSummary W)) (s : LaneSummary W) → left ≡ s ∷ others → new ≡ reports ++ s.reports.items → reports ++ reports_of left ≡ all → new ++ reports_of others ≡ all
  reports_on reports new all left others s is more h =
      ap (λ l. l ++ reports_of others) more ∙ append_assoc reports s.reports.items (reports_of others) ∙ ap (λ l. reports ++ reports_of l) (sym is) ∙ h
