use Rattle.std.proofs.Common.{◌≡◌, map, take}
use Rattle.std.specs.Prelude.{codes}
use Rattle.httparse.specs.Spans.{header_bytes}
use Rattle.relay_http.specs.Fields.{values_named}
use Rattle.relay_http.specs.Codings.{coding_of}
use Rattle.relay_http.proofs.fields.is_chunked.Given as goal

abbrev pub invariant-loop-header : goal.invariant-loop-header
invariant-loop-header l = l.coding ≡ coding_of (values_named (codes "transfer-encoding") (map (header_bytes l.buf) (take l.header-index l.headers)))
