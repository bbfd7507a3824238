use Rattle.std.proofs.Common.{◌≡◌, map, take}
use Rattle.httparse.specs.Spans.{header_bytes}
use Rattle.relay_http.specs.Fields.{has_field}
use Rattle.relay_http.proofs.fields.has_field.Given as goal

abbrev pub invariant-loop-header : goal.invariant-loop-header
invariant-loop-header l = l.found ≡ has_field l.wanted (map (header_bytes l.buf) (take l.header-index l.headers))
