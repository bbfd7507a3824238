use Rattle.relay_commands.proofs.apply.send.Goals as goal

pub returns-in-Err : goal.returns-in-Err
returns-in-Err g c = (c.in-Err.ensures.sent.0, c.in-Err.ensures.sent.1, c.in-Err.ensures.once)
