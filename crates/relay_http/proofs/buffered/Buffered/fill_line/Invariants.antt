use Rattle.std.proofs.Common.{◌≡◌, ◌-◌, ◌<◌, ◌≤◌, length}
use Rattle.relay_http.specs.Steps.{pending}
use Rattle.relay_http.specs.Window.{window_size}
use Rattle.relay_http.proofs.buffered.Buffered.fill_line.Given as goal

-- what was to come is still to come
abbrev pub invariant-filling : goal.invariant-filling
invariant-filling g l =
    let show = g.S.ByteStream in
    record {
      stands : pending show.left l.fn.self ≡ pending show.left l.self;
      below : length l.self.window < l.most;
      longer : length l.fn.self.window ≤ length l.self.window;
      count : show.failed l.self.stream ≡ show.failed l.fn.self.stream;
      written : show.written l.self.stream ≡ show.written l.fn.self.stream;
    }

abbrev pub decreases-filling : goal.decreases-filling
decreases-filling g l = window_size - length l.self.window
