use Rattle.std.proofs.Common.{rules}
use Rattle.relay_ndjson.proofs.Appended.{one_appended, all_appended}
use Rattle.relay_ndjson.proofs.bulk.append_bulk.Goals as goal

pub loop-write-preserved : goal.loop-write-preserved
loop-write-preserved c =
    one_appended _ _ _ c.args.writes.now c.loop-write.write-index c.write-item.result c.loop-write-test.true c.write-item.is c.loop-write.invariant (search rules)

pub returns-clause-ok : goal.returns-clause-ok
returns-clause-ok c = all_appended _ _ c.args.writes.now c.loop-write.write-index c.loop-write-test.false c.loop-write.invariant
