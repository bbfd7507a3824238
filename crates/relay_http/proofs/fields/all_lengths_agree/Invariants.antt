use Rattle.std.proofs.Common.{◌≡◌, map, take}
use Rattle.std.specs.Prelude.{codes}
use Rattle.std.specs.List.{list_all}
use Rattle.httparse.specs.Spans.{header_bytes}
use Rattle.relay_http.specs.Fields.{elements_named, agrees}
use Rattle.relay_http.proofs.fields.all_lengths_agree.Given as goal

abbrev pub invariant-loop-header : goal.invariant-loop-header
invariant-loop-header l = l.all ≡ list_all (agrees l.first) (elements_named (codes "content-length") (map (header_bytes l.buf) (take l.header-index l.headers)))
