use Rattle.std.proofs.Common.{◌≡◌, IsTrue}
use Rattle.std.specs.Io.KnownBytes.{IsAtEnd}
use Rattle.relay_sift.specs.Listing.{Checks, ahead}
use Rattle.relay_sift.proofs.checking.Checking.run.Given as goal

-- the faults so far were written, and no call failed
abbrev pub invariant-steps : goal.invariant-steps
invariant-steps g l =
    Checks (ahead (g.S.ByteStream.left l.fn.reader) l.fn.self) (ahead (g.S.ByteStream.left l.reader) l.self) (g.W.ByteStream.written l.fn.out) (g.W.ByteStream.written l.out) l.fn.self.faults l.self.faults
    × (IsTrue l.self.ended → IsAtEnd (g.S.ByteStream.left l.reader)) × (g.S.ByteStream.failed l.reader ≡ g.S.ByteStream.failed l.fn.reader) × (g.W.ByteStream.failed l.out ≡ g.W.ByteStream.failed l.fn.out)
