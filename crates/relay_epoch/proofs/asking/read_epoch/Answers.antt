use Rattle.std.proofs.Common.{Ok, subst}
use Rattle.relay_epoch.specs.Answers.{Tells}
use Rattle.relay_epoch.proofs.asking.read_epoch.Goals as goal

pub returns-in-Ok : goal.returns-in-Ok
returns-in-Ok g c =
    let lasts = c.requires in
    record {
      read = Ok c.in-Ok.reply;
      reads = record {
        answer = c.in-Ok.ensures.answer lasts;
        found = λ s there at. (c.in-Ok.ensures.found s there lasts at).0;
        failed = c.in-Ok.ensures.failed lasts;
        written = c.in-Ok.ensures.written;
      };
      hears = subst (λ body. Tells c.in-Ok.reply.status body c.epoch_of.result) c.as_slice.ensures.value c.epoch_of.ensures;
    }
