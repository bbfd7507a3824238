use Rattle.std.proofs.Common.{◌≡◌, map, take, []}
use Rattle.std.specs.Prelude.{codes}
use Rattle.httparse.specs.Spans.{header_bytes}
use Rattle.relay_http.specs.Fields.{elements_named}
use Rattle.relay_http.proofs.fields.sized.Given as goal

abbrev pub invariant-loop-header : goal.invariant-loop-header
invariant-loop-header l = elements_named (codes "content-length") (map (header_bytes l.buf) (take l.header-index l.headers)) ≡ []
