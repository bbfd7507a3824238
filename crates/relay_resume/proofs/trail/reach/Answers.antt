use Rattle.std.proofs.Common.{ap, ◌∙◌, arith}
use Rattle.relay_resume.specs.Trails.{noted_at}
use Rattle.relay_resume.proofs.Trailing.{same_more}
use Rattle.relay_resume.proofs.trail.reach.Goals as goal

pub flags-preserved : goal.flags-preserved
flags-preserved c =
    let i = c.flags.invariant in
    record {
      same = λ place. ap (noted_at place) c.in_ok-push_back.ensures.items ∙ same_more c.flags.noted.items place ∙ i.same place;
      len = omega (arith, i.len, c.in_ok-push_back.ensures.len, c.flags-test.true, c.len.ensures);
    }
