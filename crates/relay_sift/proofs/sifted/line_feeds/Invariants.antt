use Rattle.std.proofs.Common.{◌≡◌, ◌++◌, drop}
use Rattle.relay_sift.specs.Texts.{line_feeds}
use Rattle.relay_sift.proofs.sifted.line_feeds.Given as goal

-- the line feeds so far and those to come
abbrev pub invariant-bytes : goal.invariant-bytes
invariant-bytes l = l.feeds.items ++ line_feeds (drop l.byte-index l.text) ≡ line_feeds l.text
