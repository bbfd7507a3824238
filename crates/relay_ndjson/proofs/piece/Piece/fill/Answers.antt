use Rattle.std.proofs.lemmas.Grind.{common_steps}
use Rattle.std.proofs.Common.{◌≡◌, ◌-◌, length, take, drop, ap, sym, ◌∙◌, arith}
use Rattle.std.proofs.lemmas.List.{with_items_is}
use Rattle.std.specs.Io.KnownBytes.{prepend_known}
use Rattle.relay_ndjson.proofs.Pieces.{range_front}
use Rattle.relay_ndjson.proofs.piece.Piece.fill.Goals as goal

pub returns-in-Ok-read-clause-left : goal.returns-in-Ok-read-clause-left
returns-in-Ok-read-clause-left g c =
    let bytes = c.if-is_empty.self-inside.bytes in
    let n : length c.read.new.buffer ≡ bytes.len = omega (arith, c.read.auto.buffer, c.as_mut_slice.ensures.len) in
    let items = with_items_is bytes c.read.new.buffer n in
    ◌∙◌ {b = prepend_known (take c.in-Ok-read.count c.read.new.buffer) (g.R.ByteStream.left c.read.new.self)} c.in-Ok-read.ensures.bytes
    (ap (λ held. prepend_known held (g.R.ByteStream.left c.read.new.self)) (sym (ap (λ xs. take (c.in-Ok-read.count - 0) (drop 0 xs)) items ∙ range_front c.read.new.buffer c.in-Ok-read.count)))

pub returns-in-Ok-read-clause-end : goal.returns-in-Ok-read-clause-end
returns-in-Ok-read-clause-end g c = grind (arith, common_steps)
