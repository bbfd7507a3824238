use Rattle.std.proofs.Common.{◌↔◌, IsTrue, ap, subst}
use Rattle.relay_ndjson.specs.Reading.{Parsing, HoldsTwoLines}
use Rattle.relay_ndjson.proofs.parser.Parser.is_ready.Goals as goal

pub returns : goal.returns
returns c =
    subst (λ bytes. IsTrue c.holds_two_lines.result ↔ HoldsTwoLines bytes) (ap (λ (p : Parsing). p.held) c.self.view_is) c.holds_two_lines.ensures
