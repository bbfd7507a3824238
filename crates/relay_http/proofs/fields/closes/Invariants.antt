use Rattle.std.proofs.Common.{◌≡◌, map, take}
use Rattle.std.specs.Prelude.{codes}
use Rattle.std.specs.List.{list_any}
use Rattle.httparse.specs.Spans.{header_bytes}
use Rattle.relay_http.specs.Fields.{same_word, elements_named}
use Rattle.relay_http.proofs.fields.closes.Given as goal

abbrev pub invariant-loop-header : goal.invariant-loop-header
invariant-loop-header l = l.close ≡ list_any (λ e. same_word e (codes "close")) (elements_named (codes "connection") (map (header_bytes l.buf) (take l.header-index l.headers)))
