use Rattle.std.proofs.Common.{◌↔◌, ◌+◌, IsTrue, sym, subst}
use Rattle.relay_ndjson.specs.Lines.{HoldsFeedFrom}
use Rattle.relay_ndjson.specs.Reading.{HoldsTwoLines}
use Rattle.relay_ndjson.proofs.TwoLines.{one_line_only, two_lines}
use Rattle.relay_ndjson.proofs.lines.holds_two_lines.Goals as goal

pub returns-in_default-memchr : goal.returns-in_default-memchr
returns-in_default-memchr c = (
  λ t. cc,
  λ h.
      let there = subst HoldsTwoLines (sym c.held-bytes.ensures) h in
      absurd (one_line_only c.held-bytes.result.now c.in-Some.start c.in-Some.ensures.first c.in_default-memchr.ensures there),
)

pub returns : goal.returns
returns c =
    let s = c.in-Some.ensures in
    let bytes = c.held-bytes.result.now in
    let more = c.holds_feed_from.result in
    let feed = subst (λ held. IsTrue more ↔ HoldsFeedFrom (c.in-Some.start + c.in-Some-memchr.end + 1) held) (sym c.held-bytes.ensures) c.holds_feed_from.ensures in
    subst (λ held. IsTrue more ↔ HoldsTwoLines held) c.held-bytes.ensures
    (two_lines bytes c.in-Some.start c.in-Some-memchr.end more s.some.0 s.some.1 s.first c.in-Some-memchr.ensures feed)
