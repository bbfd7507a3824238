use Rattle.std.proofs.Common.{◌≡◌, ◌-◌, ◌≤◌, List, ℕ, [], Some, length}
use Rattle.std.specs.Io.KnownBytes.{prepend_known}
use Rattle.relay_http.specs.Steps.{pending}
use Rattle.relay_http.proofs.Leading.{Leads}
use Rattle.relay_http.proofs.Refusing.{IsBehindChunks}
use Rattle.relay_http.specs.ChunkedBody.{IsChunked, IsChunkedAfter, IsLongChunked}
use Rattle.relay_http.proofs.buffered.Buffered.read_chunked.Given as goal

-- after the chunks so far, there is what may follow their content
abbrev pub invariant-chunks : goal.invariant-chunks
invariant-chunks g l =
    let show = g.S.ByteStream in
    record {
      few : length l.body ≤ l.limit;
      front : (x : List ℕ) × (pending show.left l.fn.self ≡ prepend_known x (pending show.left l.self)) × Leads (IsChunked l.limit) (IsChunkedAfter l.limit l.body) x;
      long : (s : List ℕ) → IsLongChunked l.limit [] s → pending show.left l.fn.self ≡ Some s → (r : List ℕ) × IsLongChunked l.limit l.body r × (pending show.left l.self ≡ Some r);
      behind : IsBehindChunks (pending show.left l.fn.self) (pending show.left l.self) l.body;
      count : show.failed l.self.stream ≡ show.failed l.fn.self.stream;
      written : show.written l.self.stream ≡ show.written l.fn.self.stream;
    }

abbrev pub decreases-chunks : goal.decreases-chunks
decreases-chunks g l = l.limit - length l.body
