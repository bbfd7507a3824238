use Rattle.std.proofs.Common.{arith, refl, subst}
use Rattle.relay_serve.specs.declared.entry.Spoken.{Spoken}
use Rattle.relay_serve.specs.Remembering.{AreGiven}
use Rattle.relay_serve.proofs.Given.{each-Mem, each-more}
use Rattle.relay_serve.proofs.recalling.recall_all.Goals as goal

pub workers-preserved : goal.workers-preserved
workers-preserved c =
    let xs = c.args.spoken.now in
    each-more (λ (s : Spoken). AreGiven xs s.repeated.items) xs c.workers.one-index c.one-item.result c.one-item.is
    (subst (AreGiven xs) c.as_slice.ensures.value (c.if-not-are_given.ensures refl)) c.workers.invariant

pub returns : goal.returns
returns c =
    let xs = c.args.spoken.now in
    each-Mem (λ (s : Spoken). AreGiven xs s.repeated.items) xs c.workers.one-index (omega (arith, c.workers-test.false)) c.workers.invariant
