use Rattle.std.proofs.Common.{refl, ◌∙◌}
use Rattle.relay_telling.specs.Shown.{shown_at}
use Rattle.relay_telling.proofs.ToldTo.{adds_more}
use Rattle.relay_telling.proofs.lane_tells.LaneTellsTell.applied.Goals as goal

pub loop-success-preserved : goal.loop-success-preserved
loop-success-preserved g c =
    let i = c.loop-success.invariant in
    record {
      told = λ p.
          adds_more p c.args.successes.now c.loop-success.success-index _ _ (shown_at c.args.self.now.ends.items p) (shown_at c.loop-success.self.ends.items p) (shown_at c.tell_applied.new.self.ends.items p)
          c.loop-success-test.true refl (i.told p) (c.tell_applied.ensures.told p);
      same = c.tell_applied.ensures.same ∙ i.same;
    }
