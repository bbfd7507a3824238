use Rattle.std.proofs.Common.{ap, ◌∙◌}
use Rattle.std.specs.Io.KnownBytes.{append_known}
use Rattle.relay_sift.proofs.Listing.{writes_one}
use Rattle.relay_sift.proofs.checking.write_fault.Goals as goal

pub returns-in-Ok-write_all-clause-ok : goal.returns-in-Ok-write_all-clause-ok
returns-in-Ok-write_all-clause-ok g c =
    writes_one c.args.fault c.args.line.now c.in-Ok.text.items _ _ c.in-Ok.ensures (c.in-Ok-write_all.ensures.ok ∙ ap (append_known (g.W.ByteStream.written c.args.out.now)) c.deref.ensures.value)
