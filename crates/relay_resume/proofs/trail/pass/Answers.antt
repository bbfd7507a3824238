use Rattle.std.proofs.Common.{◌≡◌, ◌+◌, length, sym, subst, ap, arith}
use Rattle.relay_action.specs.Streams.{one_more}
use Rattle.relay_resume.specs.Trails.{Follows}
use Rattle.relay_resume.proofs.Trailing.{follow_one}
use Rattle.relay_resume.proofs.trail.pass.Goals as goal

pub front-preserved : goal.front-preserved
front-preserved c =
    let i = c.front.invariant in
    let end = c.in-Some.end in
    let counted : c.saturating_add.result ≡ one_more c.front.mark.count = c.saturating_add.ensures in
    record {
      follows = λ h f.
          subst (λ k. Follows h (record { mark = record { offset = end.offset; line = end.line; count = k }; passed = c.front.passed + 1; ends = c.pop_settled.new.ends.items; noted = c.pop_settled.new.noted.items })) (sym counted)
          (follow_one h c.front.mark c.front.passed c.front.ends.items c.pop_settled.new.ends.items c.front.noted.items c.pop_settled.new.noted.items end c.in-Some.ensures.0 c.in-Some.ensures.1 (i.follows h f));
      within = (let l = ap length c.in-Some.ensures.1 in let a = c.front.noted.ok.0 in let b = c.pop_settled.new.noted.ok.0 in omega (arith, i.within, l, a, b));
    }
