use Rattle.std.proofs.Common.{rules, ◌≡◌, length, vec_len, sym, subst, arith}
use Rattle.relay_ndjson.specs.Lines.{HoldsFeedFrom}
use Rattle.relay_ndjson.proofs.Feeds.{feed_from}
use Rattle.relay_ndjson.proofs.piece.Piece.holds_feed_from.Goals as goal

pub returns : goal.returns
returns c =
    let p = c.self.inside in
    let count : vec_len p.bytes ≡ length p.bytes.items = search rules in
    let found = feed_from p.bytes.items p.from p.to p.ends c.args.start (omega (arith, count, c.self.invariant.1)) c.self.invariant.3 in (
      λ t. subst (HoldsFeedFrom c.args.start) c.self.view_is (found.0 (grind (arith, t, c.saturating_sub.ensures))),
      λ h. (let low = found.1 (subst (HoldsFeedFrom c.args.start) (sym c.self.view_is) h) in grind (arith, low, c.saturating_sub.ensures)),
    )
