use Rattle.std.proofs.Common.{◌++◌, take, refl, ◌∙◌}
use Rattle.relay_keeping.proofs.Following.{names_all, names_more, names_none}
use Rattle.relay_keeping.proofs.trails.settle_all.Goals as goal

pub names-init : goal.names-init
names-init c = record { trails = λ puts before all. names_none puts before c.args.inputs.now.items all; starts = refl }

pub names-preserved : goal.names-preserved
names-preserved c =
    let i = c.names.invariant in
    let k = c.names.name-index in
    record {
      trails = λ puts before all.
          names_more puts before c.args.names.now k _ _ c.settle_one.new.inputs.items c.names-test.true refl (c.in_ok-settle_one.ensures.trails puts (before ++ take k c.args.names.now) (i.trails puts before all));
      starts = c.in_ok-settle_one.ensures.starts ∙ i.starts;
    }

pub returns-in_err-settle_one-clause-starts : goal.returns-in_err-settle_one-clause-starts
returns-in_err-settle_one-clause-starts c = c.settle_one.ensures.starts ∙ c.names.invariant.starts

pub returns-clause-trails : goal.returns-clause-trails
returns-clause-trails c puts before all =
    names_all puts before c.args.names.now c.names.name-index c.names.inputs.items c.names-test.false (c.names.invariant.trails puts before all)
