use Rattle.relay_http.proofs.Stands.{took_front}
use Rattle.relay_http.proofs.buffered.Buffered.read_piece.Goals as goal

pub returns-in-Ok-clause-answer : goal.returns-in-Ok-clause-answer
returns-in-Ok-clause-answer g c =
    let left = g.S.ByteStream.left in
    let there = c.in-Ok.ensures.there in
    rw c.skip.ensures (took_front g.P.Piece.form _ (left c.await_piece.new.self.stream) c.await_piece.new.self.window c.in-Ok.found.1 c.in-Ok.found.0 c.in-Ok.ensures.stands there.1)
