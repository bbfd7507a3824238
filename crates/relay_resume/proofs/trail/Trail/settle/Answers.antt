use Rattle.std.proofs.Common.{◌≤◌, ◌-◌, length, ap, sym, subst, arith, ◌∙◌}
use Rattle.relay_resume.specs.Trails.{Trailing, Follows, and_settled}
use Rattle.relay_resume.proofs.Trailing.{follow_noted, follow_passed, follow_same, length-note}
use Rattle.relay_resume.proofs.trail.Trail.settle.Goals as goal

pub returns-then-number-self-clause-ok : goal.returns-then-number-self-clause-ok
returns-then-number-self-clause-ok c h s =
    record { follows = follow_passed c.args.number h c.args.self.now (subst (λ (t : Trailing). c.args.number ≤ t.passed) c.self.view_is c.if-number-self.true) s.follows; stops = s.stops }

pub pass-requires : goal.pass-requires
pass-requires c =
    let d = c.self.inside in
    let place = c.args.number - d.passed - 1 in
    let len = ap length c.note.ensures ∙ length-note place c.reach.new.noted.items in
    let n = c.ranges.number in
    let l = c.if-number-self.false in
    omega (arith, n, l, len, d.noted.ok.0, c.reach.new.noted.ok.0, c.note.new.noted.ok.0, c.self.invariant.within, c.reach.ensures.len)

pub returns-clause-ok : goal.returns-clause-ok
returns-clause-ok c h s =
    let d = c.self.inside in
    let place = c.args.number - d.passed - 1 in
    let before : Trailing = record { mark = d.mark; passed = d.passed; ends = d.ends.items; noted = d.noted.items } in
    let follows : Follows h before = subst (Follows h) (sym c.self.view_is) s.follows in
    let reached = follow_same h before c.reach.new.noted.items c.reach.ensures.same follows in
    let noted =
    follow_noted c.args.number place h (record before { noted = c.reach.new.noted.items }) (let l = c.if-number-self.false in omega (arith, l)) (omega (arith, c.in_ok-reach.ensures.reaches, c.reach.new.noted.ok.0)) reached
    in
    record {
      follows = c.pass.ensures.follows (and_settled c.args.number h) (subst (λ bs. Follows (and_settled c.args.number h) (record before { noted = bs })) (sym c.note.ensures) noted);
      stops = c.pass.ensures.first;
    }
