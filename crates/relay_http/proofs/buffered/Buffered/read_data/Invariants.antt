use Rattle.std.proofs.Common.{◌≡◌, ◌-◌, ◌≤◌}
use Rattle.relay_http.specs.Steps.{pending, TookData}
use Rattle.relay_http.proofs.buffered.Buffered.read_data.Given as goal

-- what was moved so far was taken from the front
abbrev pub invariant-reading : goal.invariant-reading
invariant-reading g l =
    let show = g.S.ByteStream in
    record {
      few : l.left ≤ l.size;
      taken : TookData (l.size - l.left) (pending show.left l.fn.self) (pending show.left l.self) l.fn.into l.into;
      count : show.failed l.self.stream ≡ show.failed l.fn.self.stream;
      written : show.written l.self.stream ≡ show.written l.fn.self.stream;
    }

abbrev pub decreases-reading : goal.decreases-reading
decreases-reading g l = l.left
