use Rattle.std.proofs.Common.{◌≡◌, ◌++◌, drop, map}
use Rattle.std.specs.Prelude.{string_bytes}
use Rattle.relay_words.specs.declared.exit.Exit.TheVariants as exit
use Rattle.relay_run.specs.Faults.{faults_text, exit_of_files}
use Rattle.relay_run.proofs.saying.faults_text.Given as goal

-- what was said, and then what is left to say
abbrev pub invariant-loop-place : goal.invariant-loop-place
invariant-loop-place l = record {
  text : l.text.items ++ faults_text (drop l.place (map string_bytes l.fn.files)) (drop l.place l.fn.opened) (drop l.place l.fn.stops) (drop l.place (map (λ v. v.items) l.fn.beneath)) ≡ faults_text (map string_bytes l.fn.files) l.fn.opened l.fn.stops (map (λ v. v.items) l.fn.beneath);
  exit : exit_of_files l.exit (drop l.place l.fn.opened) (drop l.place l.fn.stops) ≡ exit_of_files exit.Done l.fn.opened l.fn.stops;
}
