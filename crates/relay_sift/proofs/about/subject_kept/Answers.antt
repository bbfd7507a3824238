use Rattle.std.proofs.Common.{List, ℕ, subst}
use Rattle.relay_sift.specs.About.{IsSaid}
use Rattle.relay_sift.specs.Keeping.{IsSaidOf}
use Rattle.relay_sift.proofs.Keeping.{ok_on, said_of_line, said_of_none}
use Rattle.relay_sift.proofs.about.subject_kept.Goals as goal

pub returns-in-Some : goal.returns-in-Some
returns-in-Some c =
    let kept = rw c.in-Some.is at c.in_ok-line.ensures in
    ok_on c.say_subject.result (λ text. IsSaid c.args.fault.kind c.deref.result.now text.items) (λ text. IsSaidOf c.args.fault c.args.kept.now text.items)
    (λ text s. said_of_line c.args.fault c.args.kept.now c.in-Some.line.items text.items kept (subst (λ (l : List ℕ). IsSaid c.args.fault.kind l text.items) c.deref.ensures.value s)) c.say_subject.ensures

pub returns-in-None : goal.returns-in-None
returns-in-None c = said_of_none c.args.fault c.args.kept.now c.new.result.items (rw c.in-None.is at c.in_ok-line.ensures) c.new.ensures.items
