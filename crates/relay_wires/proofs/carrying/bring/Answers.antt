use Rattle.std.proofs.Common.{Ok, Err, false, refl, ap, subst, sym}
use Rattle.relay_wires.specs.Carriers.{AllFree}
use Rattle.relay_wires.proofs.Connections.{all_free_after}
use Rattle.relay_wires.proofs.carrying.bring.Goals as goal

pub returns-clause-brings : goal.returns-clause-brings
returns-clause-brings g c =
    let lasts = c.requires.lasts in
    let e = c.in-Ok.ensures in
    record {
      left = c.read_reply.new.self;
      read = Ok c.in-Ok.reply;
      reads = record {
        lasts = lasts;
        answer = e.answer lasts;
        found = λ s there at. e.found s there lasts at;
        stated = λ s f states at. e.stated s f states lasts at;
        long = λ s passes at. e.long s passes lasts at;
        phase = e.phase lasts;
        failed = e.failed lasts;
        written = e.written;
      };
      late = false;
      told = c.tell.ensures;
      free = c.release.ensures.free;
    }

pub returns-clause-free_left : goal.returns-clause-free_left
returns-clause-free_left g c =
    subst AllFree (sym c.release.ensures.free) (all_free_after c.in-Ok.reply c.read_reply.new.self c.args.free.now.items (c.in-Ok.ensures.phase c.requires.lasts) c.requires.all_free)

pub returns-in-Err-clause-brings : goal.returns-in-Err-clause-brings
returns-in-Err-clause-brings g c =
    let lasts = c.requires.lasts in
    let e = c.in-Err.ensures in
    record {
      left = c.read_reply.new.self;
      read = Err c.in-Err.fault;
      reads = record {
        lasts = lasts;
        answer = e.answer lasts;
        found = λ s there at. e.found s there lasts at;
        stated = λ s f states at. e.stated s f states lasts at;
        long = λ s passes at. e.long s passes lasts at;
        phase = e.phase lasts;
        failed = e.failed lasts;
        written = e.written;
      };
      late = c.has_timed_out.result;
      told = ap Err c.loss_by.ensures;
      free = refl;
    }
