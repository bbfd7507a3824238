use Rattle.std.proofs.Common.{ap, ◌∙◌, drop}
use Rattle.relay_ndjson.proofs.Pieces.{range-skip}
use Rattle.relay_ndjson.proofs.piece.Piece.skip.Goals as goal

pub returns : goal.returns
returns c =
    let p = c.self.inside in
    range-skip p.bytes.items p.from p.to c.args.count ∙ ap (drop c.args.count) c.self.view_is
