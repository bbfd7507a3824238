use Rattle.std.proofs.Common.{Ok, Err, false, refl, ap}
use Rattle.relay_wires.proofs.carrying.carry.Goals as goal

pub returns-in-Ok : goal.returns-in-Ok
returns-in-Ok g c =
    let lasts = c.requires.lasts in
    let e = c.in-Ok.ensures in
    record {
      write = Ok tt;
      writes = record { lasts = lasts; sent = e.sent lasts; phase = e.phase lasts; failed = e.failed lasts; left = e.left; held = e.held };
      late = false;
      told = refl;
    }

pub returns-in-Err : goal.returns-in-Err
returns-in-Err g c =
    let lasts = c.requires.lasts in
    let e = c.in-Err.ensures in
    record {
      write = Err c.in-Err.fault;
      writes = record { lasts = lasts; sent = e.sent lasts; phase = e.phase lasts; failed = e.failed lasts; left = e.left; held = e.held };
      late = c.has_timed_out.result;
      told = ap Err c.loss_by.ensures;
    }
