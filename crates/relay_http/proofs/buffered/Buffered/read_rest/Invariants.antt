use Rattle.std.proofs.Common.{◌≡◌, ◌-◌, ◌+◌, ◌≤◌, length}
use Rattle.std.specs.Io.KnownBytes.{prepend_known}
use Rattle.relay_http.specs.Steps.{pending}
use Rattle.relay_http.proofs.buffered.Buffered.read_rest.Given as goal

-- the body so far is what was taken from the front
abbrev pub invariant-reading : goal.invariant-reading
invariant-reading g l =
    let show = g.S.ByteStream in
    record {
      taken : pending show.left l.fn.self ≡ prepend_known l.body (pending show.left l.self);
      size : length l.body ≤ l.limit + 1;
      count : show.failed l.self.stream ≡ show.failed l.fn.self.stream;
      written : show.written l.self.stream ≡ show.written l.fn.self.stream;
    }

abbrev pub decreases-reading : goal.decreases-reading
decreases-reading g l = l.limit + 1 - length l.body
