use Rattle.std.proofs.Common.{◌+◌, subst, sym, arith}
use Rattle.relay_run.proofs.Writing.{StartsUpTo, starts_all, starts_more}
use Rattle.relay_run.proofs.files.starts_of.Goals as goal

pub files-preserved : goal.files-preserved
files-preserved c =
    let i = c.files.invariant in
    let k = c.files.place in
    let ok = c.files.starts.ok.0 in
    let size = i.count in
    let now = c.push.new.self.ok.0 in
    let more = c.in_ok-push.ensures.len in
    record {
      count = omega (arith, size, more);
      starts = subst (StartsUpTo (k + 1) c.args.resumed.now) (sym c.in_ok-push.ensures.items) (starts_more c.args.resumed.now k c.files.starts.items c.start_at.result (omega (arith, ok, size)) i.starts c.start_at.ensures);
    }

pub returns-clause-starts : goal.returns-clause-starts
returns-clause-starts c =
    let end = c.files-test.false in
    starts_all c.args.resumed.now c.files.place c.args.files c.files.starts.items (omega (arith, end)) c.files.invariant.starts
