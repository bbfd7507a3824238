use Rattle.std.proofs.Common.{ℕ, Ok, Err, refl, Vec, Global}
use Rattle.std.specs.Prelude.{option_map}
use Rattle.relay_stub.proofs.connection.serve_request.Goals as goal

pub returns-in-Ok : goal.returns-in-Ok
returns-in-Ok g c =
    let lasts = c.requires in
    record {
      at = c.peek_put.new.self;
      put = Ok (option_map (λ (v : Vec ℕ Global). v.items) c.in-Ok.put);
      peeks = record {
        stays = c.in-Ok.ensures.ahead;
        found = λ s there at. c.in-Ok.ensures.found s there lasts at;
        failed = c.in-Ok.ensures.failed lasts;
        written = c.in-Ok.ensures.written;
      };
      goes_on = c.receive.ensures;
    }

pub returns-in-Err : goal.returns-in-Err
returns-in-Err g c =
    let lasts = c.requires in
    record {
      at = c.peek_put.new.self;
      put = Err c.in-Err.field-0;
      peeks = record {
        stays = tt;
        found = λ s there at. c.in-Err.ensures.found s there lasts at;
        failed = c.in-Err.ensures.failed lasts;
        written = c.in-Err.ensures.written;
      };
      goes_on = (refl, refl);
    }
