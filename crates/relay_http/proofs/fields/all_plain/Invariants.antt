use Rattle.std.proofs.Common.{◌≡◌, map, take}
use Rattle.std.specs.Prelude.{codes}
use Rattle.std.specs.List.{list_all}
use Rattle.httparse.specs.Spans.{header_bytes}
use Rattle.relay_http.specs.Fields.{values_named}
use Rattle.relay_http.specs.Framing.{is_plain}
use Rattle.relay_http.proofs.fields.all_plain.Given as goal

abbrev pub invariant-loop-header : goal.invariant-loop-header
invariant-loop-header l = l.plain ≡ list_all is_plain (values_named (codes "content-encoding") (map (header_bytes l.buf) (take l.header-index l.headers)))
