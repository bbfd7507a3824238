use Rattle.std.proofs.Common.{string_bytes}
use Rattle.relay_commands.proofs.Bodies.{ok_map}
use Rattle.relay_commands.proofs.apply.output.Goals as goal

pub returns-in-Ok : goal.returns-in-Ok
returns-in-Ok c =
    ok_map _ _ c.answer_lines.result
    (λ out e. record {
      status = c.in-Ok.status;
      text = string_bytes c.in-Ok.text;
      answer = record {
        after = c.serve_body.new.self;
        end = c.serve_body.new.script;
        answers = c.in-Ok.ensures.answered;
      };
      lines = rw c.as_bytes.ensures.value at e;
    })
    c.answer_lines.ensures
