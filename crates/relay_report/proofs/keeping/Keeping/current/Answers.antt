use Rattle.std.proofs.Common.{◌<◌, length, rules}
use Rattle.relay_report.specs.Keeping.{mark_of}
use Rattle.relay_report.proofs.Noted.{alive_on}
use Rattle.relay_report.proofs.keeping.Keeping.current.Goals as goal

pub loop-place-preserved : goal.loop-place-preserved
loop-place-preserved c =
    let within : c.loop-place.place < length c.args.self.now.found.items = search rules in
    alive_on (mark_of c.args.self.now.marks) c.args.self.now.found.items c.loop-place.place c.index.result.now _ _ _ within c.index.ensures c.in_ok-add_unless_superseded.ensures c.loop-place.invariant
