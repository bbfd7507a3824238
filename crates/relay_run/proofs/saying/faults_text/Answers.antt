use Rattle.std.proofs.Common.{◌≡◌, ◌++◌, ◌<◌, ℕ, List, map, length, get_or, ap, sym, ◌∙◌, arith}
use Rattle.std.specs.Prelude.{string_bytes}
use Rattle.std.proofs.lemmas.List.{length-map, get_or-map}
use Rattle.relay_run.specs.Faults.{said_of, worse_by}
use Rattle.relay_run.proofs.Texts.{said_on, exit_on}
use Rattle.relay_run.proofs.saying.faults_text.Goals as goal

pub loop-place-preserved : goal.loop-place-preserved
loop-place-preserved c =
    let i = c.loop-place.invariant in
    let here = c.index-files-place.result in
    let file = string_bytes here in
    let under = c.index-beneath-place.result in
    let line = c.as_slice.result.now in
    let f : c.loop-place.place < length c.args.files.now = omega arith in
    let o : c.loop-place.place < length c.args.opened.now = omega (arith, f, c.requires.opened) in
    let s : c.loop-place.place < length c.args.stops.now = omega (arith, f, c.requires.stops) in
    let b : c.loop-place.place < length c.args.beneath.now = omega (arith, f, c.requires.beneath) in
    let m : c.loop-place.place < length (map string_bytes c.args.files.now) = omega (arith, f, length-map c.args.files.now string_bytes) in
    let n : c.loop-place.place < length (map (λ v. v.items) c.args.beneath.now) = omega (arith, b, length-map c.args.beneath.now (λ v. v.items)) in
    let at : file ≡ get_or (map string_bytes c.args.files.now) c.loop-place.place file = ap string_bytes c.index-files-place.is ∙ sym (get_or-map string_bytes c.args.files.now c.loop-place.place here file f) in
    let low : line ≡ get_or (map (λ v. v.items) c.args.beneath.now) c.loop-place.place line = c.as_slice.ensures.value ∙ ap (λ v. v.items) c.index-beneath-place.is ∙ sym (get_or-map (λ v. v.items) c.args.beneath.now c.loop-place.place under line b) in
    let named = ap (λ (t : List ℕ). c.loop-place.text.items ++ said_of t c.file_fault-fault.result line) c.as_str.ensures.value in
    let stopped = ap (λ x. c.loop-place.text.items ++ said_of file x line) c.file_fault-fault.ensures in
    record {
      text = said_on (map string_bytes c.args.files.now) c.args.opened.now c.args.stops.now (map (λ v. v.items) c.args.beneath.now) c.loop-place.place file _ _ line c.loop-place.text.items c.add_said.new.text.items _ m o s n at low (c.in_ok-add_said.ensures ∙ named ∙ stopped) i.text;
      exit = exit_on c.args.opened.now c.args.stops.now c.loop-place.place _ _ c.loop-place.exit c.worse_by-exit.result _ o s (c.worse_by-exit.ensures ∙ ap (λ x. worse_by c.loop-place.exit x) c.file_fault-fault.ensures) i.exit;
    }
