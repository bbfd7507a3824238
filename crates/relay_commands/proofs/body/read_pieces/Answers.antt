use Rattle.std.proofs.Common.{◌≡◌, length, refl, ap, ◌∙◌, arith}
use Rattle.std.proofs.lemmas.Result.{err_from_is_err_and}
use Rattle.relay_commands.proofs.Bodies.{prepend_nothing, piece_more, passes_limit, fault_of_piece}
use Rattle.relay_commands.proofs.body.read_pieces.Goals as goal

pub pieces-init : goal.pieces-init
pieces-init g c = (
  rw c.requires.body (prepend_nothing (g.R.ByteStream.left c.args.reader.now)),
  (let n : length c.args.body.now.items ≡ 0 = ap length c.requires.body in omega (arith, n, c.args.body.now.ok)),
  c.requires.piece,
  refl,
)

pub returns-in_err-read_piece-clause-err : goal.returns-in_err-read_piece-clause-err
returns-in_err-read_piece-clause-err g c =
    let p = err_from_is_err_and c.from_residual.result c.from_residual.ensures.1 in
    rw (p.1, p.2) (fault_of_piece _ _ _ _ c.in_err-read_piece.field-0.0 c.pieces.invariant.0 (omega (arith, c.pieces.invariant.1, c.pieces.body.ok)) c.in_err-read_piece.ensures.err)

pub returns-then-len-gt-BODY_LIMIT-clause-err : goal.returns-then-len-gt-BODY_LIMIT-clause-err
returns-then-len-gt-BODY_LIMIT-clause-err g c =
    let taken = rw c.in-More.is at c.in_ok-read_piece.ensures.takes in
    passes_limit _ _ _ _ _ c.pieces.invariant.0 taken (omega (arith, c.if-len-gt-BODY_LIMIT.true, c.len.ensures, c.read_piece.new.body.ok))

pub pieces-preserved : goal.pieces-preserved
pieces-preserved g c =
    let taken = rw c.in-More.is at c.in_ok-read_piece.ensures.takes in (
      piece_more _ _ _ _ _ c.pieces.invariant.0 taken,
      omega (arith, c.if-len-gt-BODY_LIMIT.false, c.len.ensures),
      c.in_ok-read_piece.ensures.piece,
      c.in_ok-read_piece.ensures.failed ∙ c.pieces.invariant.3,
    )
