use Rattle.std.proofs.Common.{List, ℕ, map, refl, subst, ap, ◌∙◌}
use Rattle.std.specs.Prelude.{string_bytes}
use Rattle.std.specs.declared.vec.Vec.{Vec}
use Rattle.relay_core.specs.declared.report.Report.{Report}
use Rattle.relay_words.specs.declared.exit.Exit.TheVariants as exit
use Rattle.relay_run.specs.Faults.{faults_text, exit_of_files}
use Rattle.relay_run.specs.Saying.{Written, IsSaid}
use Rattle.relay_run.proofs.Said.{is_said, concludes_fault, concludes_summary}
use Rattle.relay_run.proofs.saying.conclude.Goals as goal

pub returns : goal.returns
returns g c =
    let files = map string_bytes c.args.files.now in
    let opened = c.args.opened.now in
    let old : Written = (g.E.ByteStream.written c.args.err.now, g.E.ByteStream.failed c.args.err.now) in
    let mid : Written = (g.E.ByteStream.written c.say.new.out, g.E.ByteStream.failed c.say.new.out) in
    let text = c.deref-2.ensures.value ∙ c.in_ok-text.ensures.text ∙ ap (λ s. faults_text files opened s (map (λ v. v.items) c.args.beneath.now)) c.deref.ensures.value in
    let first = subst (λ (t : List ℕ). IsSaid t old mid) text (is_said _ old mid c.say.result c.say.ensures.all c.say.ensures.failed) in
    let ends = c.in_ok-text.ensures.exit ∙ ap (λ s. exit_of_files exit.Done opened s) c.deref.ensures.value in
    concludes_fault _ _ _ c.in_ok-text.exit c.args.ran.end c.in-Err.fault _ _ _ old mid _ _ c.in-Err.is first ends refl c.in_ok-exit-in-Err.ensures.said c.in_ok-exit-in-Err.ensures.exit c.new.ensures.items

pub returns-in-Ok : goal.returns-in-Ok
returns-in-Ok g c =
    let files = map string_bytes c.args.files.now in
    let opened = c.args.opened.now in
    let old : Written = (g.E.ByteStream.written c.args.err.now, g.E.ByteStream.failed c.args.err.now) in
    let mid : Written = (g.E.ByteStream.written c.say.new.out, g.E.ByteStream.failed c.say.new.out) in
    let text = c.deref-2.ensures.value ∙ c.in_ok-text.ensures.text ∙ ap (λ s. faults_text files opened s (map (λ v. v.items) c.args.beneath.now)) c.deref.ensures.value in
    let first = subst (λ (t : List ℕ). IsSaid t old mid) text (is_said _ old mid c.say.result c.say.ensures.all c.say.ensures.failed) in
    let ends = c.in_ok-text.ensures.exit ∙ ap (λ s. exit_of_files exit.Done opened s) c.deref.ensures.value in
    concludes_summary (λ (v : Vec Report _). v.items) _ _ _ c.in_ok-text.exit c.args.ran.end c.in-Ok.summary _ _ old mid _ c.say_summary.result c.in-Ok.is first ends c.say_summary.ensures
