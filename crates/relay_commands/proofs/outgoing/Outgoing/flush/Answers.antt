use Rattle.std.proofs.Common.{length, ap, sym, arith, append-nil}
use Rattle.relay_commands.proofs.outgoing.Outgoing.flush.Goals as goal

pub returns-in-Err-clause-err : goal.returns-in-Err-clause-err
returns-in-Err-clause-err g c =
    let sent = rw c.as_slice.ensures.value at c.in-Err.ensures.sent in record {
      cut = c.in-Err.part;
      less = sent.0;
      writes = sent.1;
      count_is = c.saturating_add.ensures;
    }

pub returns-clause-ok : goal.returns-clause-ok
returns-clause-ok g c =
    let shown = ap length c.as_slice.ensures.value in record {
      part = c.args.self.now.text.items;
      whole = rw c.clear.ensures.items (sym (append-nil c.args.self.now.text.items));
      writes = rw c.as_slice.ensures.value at c.in_default.ensures.ok;
      count_is = omega (arith, shown, c.as_slice.ensures.len, c.len.ensures, c.saturating_add-self.ensures);
    }

pub returns-clause-empty : goal.returns-clause-empty
returns-clause-empty g c = c.clear.ensures.items
