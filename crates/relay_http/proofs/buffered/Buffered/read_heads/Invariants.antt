use Rattle.std.proofs.Common.{◌≡◌, ◌-◌, ◌≤◌, List, ℕ}
use Rattle.std.specs.Io.KnownBytes.{prepend_known}
use Rattle.relay_http.specs.Steps.{pending}
use Rattle.relay_http.proofs.Leading.{Leads}
use Rattle.relay_http.proofs.Refusing.{IsBehindInterim}
use Rattle.relay_http.specs.Reply.{IsHeads, IsHeadsWith}
use Rattle.relay_http.proofs.buffered.Buffered.read_heads.Given as goal

-- after the heads so far, those of a reply have the fewer interim heads
abbrev pub invariant-heads : goal.invariant-heads
invariant-heads g l =
    let show = g.S.ByteStream in
    record {
      few : l.passed ≤ 8;
      front : (x : List ℕ) × (pending show.left l.fn.self ≡ prepend_known x (pending show.left l.self)) × Leads IsHeads (IsHeadsWith (8 - l.passed)) x;
      behind : IsBehindInterim (pending show.left l.fn.self) (pending show.left l.self) l.passed;
      count : show.failed l.self.stream ≡ show.failed l.fn.self.stream;
      written : show.written l.self.stream ≡ show.written l.fn.self.stream;
    }

abbrev pub decreases-heads : goal.decreases-heads
decreases-heads g l = 8 - l.passed
