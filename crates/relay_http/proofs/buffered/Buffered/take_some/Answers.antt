use Rattle.std.proofs.Common.{rules, ◌≡◌, length}
use Rattle.relay_http.proofs.Stands.{moves_straight}
use Rattle.relay_http.proofs.buffered.Buffered.take_some.Goals as goal

pub returns-clause-moved : goal.returns-clause-moved
returns-clause-moved g c =
    let empty : length c.args.self.now.window ≡ 0 = search rules in
    moves_straight c.fill.result c.args.self.now.window _ _ c.args.into.now c.fill.new.self c.args.most empty c.fill.ensures.bound c.fill.ensures.bytes
