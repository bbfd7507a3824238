use Rattle.std.proofs.Common.{◌≡◌, ◌-◌, ◌+◌, length, true}
use Rattle.std.specs.Prelude.{if◌then◌else◌}
use Rattle.std.specs.Io.KnownBytes.{IsAtEnd}
use Rattle.relay_http.specs.Steps.{pending}
use Rattle.relay_http.specs.Window.{window_size}
use Rattle.relay_http.proofs.buffered.Buffered.await_piece.Given as goal

-- what was to come is still to come
abbrev pub invariant-reading : goal.invariant-reading
invariant-reading g l =
    let show = g.S.ByteStream in
    record {
      stands : pending show.left l.fn.self ≡ pending show.left l.self;
      ended : l.ended ≡ true → IsAtEnd (show.left l.self.stream);
      count : show.failed l.self.stream ≡ show.failed l.fn.self.stream;
      written : show.written l.self.stream ≡ show.written l.fn.self.stream;
    }

abbrev pub decreases-reading : goal.decreases-reading
decreases-reading g l = (window_size - length l.self.window) + (if l.ended then 0 else 1)
