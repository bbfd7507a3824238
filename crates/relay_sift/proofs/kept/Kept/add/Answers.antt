use Rattle.relay_sift.proofs.Keeping.{keeps_added}
use Rattle.relay_sift.proofs.kept.Kept.add.Goals as goal

pub returns : goal.returns
returns c = λ text bound h. keeps_added text c.args.piece.now c.args.self.now c.make_room.new.self c.push.new.self bound c.make_room.ensures c.push.ensures h
