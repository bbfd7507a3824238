use Rattle.std.proofs.Common.{◌≡◌}
use Rattle.relay_http.proofs.Gathering.{IsUnderWay}
use Rattle.relay_http.proofs.outgoing.write_bulk.Given as goal

-- this much of the request was sent and is gathered
abbrev pub invariant-loop-write : goal.invariant-loop-write
invariant-loop-write g l =
    let show = g.S.ByteStream in
    record {
      under_way : IsUnderWay l.host l.writes l.write-index (show.written l.fn.stream) (show.written l.stream) l.text.items;
      failed : show.failed l.stream ≡ show.failed l.fn.stream;
      left : show.left l.stream ≡ show.left l.fn.stream;
    }
