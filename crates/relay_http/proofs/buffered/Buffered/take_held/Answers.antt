use Rattle.std.proofs.Common.{rules, sym}
use Rattle.relay_http.proofs.Stands.{moved_front}
use Rattle.relay_http.proofs.buffered.Buffered.take_held.Goals as goal

pub returns-clause-moved : goal.returns-clause-moved
returns-clause-moved g c =
    let stands = sym (c.in_ok-ready.ensures.stands) in
    rw c.skip.ensures (moved_front _ (g.S.ByteStream.left c.ready.new.self.stream) c.ready.new.self.window c.args.into.now c.append.new.self c.args.most c.min-count.result stands (search rules) c.requires c.in_ok-ready.ensures.end (search rules))
