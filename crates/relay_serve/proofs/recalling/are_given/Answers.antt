use Rattle.std.proofs.Common.{arith, refl}
use Rattle.relay_serve.specs.declared.entry.Entry.{Entry}
use Rattle.relay_serve.specs.Remembering.{WasGiven}
use Rattle.relay_serve.proofs.Given.{each-Mem, each-more}
use Rattle.relay_serve.proofs.recalling.are_given.Goals as goal

pub entries-preserved : goal.entries-preserved
entries-preserved c =
    each-more (λ (e : Entry). WasGiven c.args.spoken.now e) c.args.entries.now c.entries.entry-index c.entry-item.result c.entry-item.is (c.if-not-is_given.ensures refl) c.entries.invariant

pub returns : goal.returns
returns c = λ t. each-Mem (λ (e : Entry). WasGiven c.args.spoken.now e) c.args.entries.now c.entries.entry-index (omega (arith, c.entries-test.false)) c.entries.invariant
