use Rattle.std.proofs.Common.{◌≡◌, ◌+◌, ◌-◌, ◌<◌, ◌≤◌, vec_len}
use Rattle.std.specs.Io.KnownBytes.{prepend_known}
use Rattle.relay_commands.specs.Applies.{body_limit}
use Rattle.relay_commands.proofs.body.read_pieces.Given as goal

-- the body so far is in front of what is left
abbrev pub invariant-pieces : goal.invariant-pieces
invariant-pieces g l =
    let r = g.R.ByteStream in
    (r.left l.fn.reader ≡ prepend_known l.body.items (r.left l.reader))
    × (vec_len l.body ≤ body_limit)
    × (0 < vec_len l.piece)
    × (r.failed l.reader ≡ r.failed l.fn.reader)

abbrev pub decreases-pieces : goal.decreases-pieces
decreases-pieces g l = body_limit + 1 - vec_len l.body
