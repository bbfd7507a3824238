use Rattle.std.proofs.Common.{ℕ, Ok, Err, refl, sym, subst, Vec, Global}
use Rattle.std.specs.Prelude.{option_map}
use Rattle.relay_index.specs.Serving.{under}
use Rattle.relay_stub.specs.Visits.{Handles}
use Rattle.relay_stub.proofs.connection.receive.Goals as goal

pub returns-in-Ok-Some : goal.returns-in-Ok-Some
returns-in-Ok-Some g c =
    let lasts = c.requires in
    let put = option_map (λ (v : Vec ℕ Global). v.items) c.args.put in
    record {
      between = c.read_request.new.self;
      read = Ok c.in-Ok-Some.field-0;
      reads = record {
        answer = c.in-Ok-Some.ensures.answer lasts;
        found = λ s there at. c.in-Ok-Some.ensures.found s there lasts at;
        stated = λ s f states at. c.in-Ok-Some.ensures.stated s f states lasts at;
        long = λ s passes at. c.in-Ok-Some.ensures.long s passes lasts at;
        none = λ at. c.in-Ok-Some.ensures.none lasts at;
        failed = c.in-Ok-Some.ensures.failed lasts;
        written = c.in-Ok-Some.ensures.written;
      };
      handles = subst (λ r. Handles put (Ok r) (under c.args.index.now c.args.script.now) (under c.meet.new.index c.meet.new.script) c.read_request.new.self c.meet.new.conn c.meet.result) (sym c.in-Ok-Some.field-0-is) c.meet.ensures;
    }

pub returns-in-Ok-None : goal.returns-in-Ok-None
returns-in-Ok-None g c =
    let lasts = c.requires in
    let put = option_map (λ (v : Vec ℕ Global). v.items) c.args.put in
    let server = under c.args.index.now c.args.script.now in
    record {
      between = c.read_request.new.self;
      read = Ok c.in-Ok-None.field-0;
      reads = record {
        answer = c.in-Ok-None.ensures.answer lasts;
        found = λ s there at. c.in-Ok-None.ensures.found s there lasts at;
        stated = λ s f states at. c.in-Ok-None.ensures.stated s f states lasts at;
        long = λ s passes at. c.in-Ok-None.ensures.long s passes lasts at;
        none = λ at. c.in-Ok-None.ensures.none lasts at;
        failed = c.in-Ok-None.ensures.failed lasts;
        written = c.in-Ok-None.ensures.written;
      };
      handles = subst (λ r. Handles put (Ok r) server server c.read_request.new.self c.read_request.new.self (Ok tt)) (sym c.in-Ok-None.field-0-is) (refl, refl);
    }

pub returns-in-Err : goal.returns-in-Err
returns-in-Err g c =
    let lasts = c.requires in
    let put = option_map (λ (v : Vec ℕ Global). v.items) c.args.put in
    record {
      between = c.read_request.new.self;
      read = Err c.in-Err.field-0;
      reads = record {
        answer = c.in-Err.ensures.answer lasts;
        found = λ s there at. c.in-Err.ensures.found s there lasts at;
        stated = λ s f states at. c.in-Err.ensures.stated s f states lasts at;
        long = λ s passes at. c.in-Err.ensures.long s passes lasts at;
        none = λ at. c.in-Err.ensures.none lasts at;
        failed = c.in-Err.ensures.failed lasts;
        written = c.in-Err.ensures.written;
      };
      handles = (refl, refl);
    }
