use Rattle.relay_http.proofs.Refusing.{cut_result}
use Rattle.relay_http.proofs.buffered.Buffered.read_body.Goals as goal

pub returns-in-Absent-clause-why : goal.returns-in-Absent-clause-why
returns-in-Absent-clause-why g c = λ stream stands. cut_result c.args.limit c.args.framing stream _ c.read_sized.ensures.why

pub returns-in-Sized-clause-why : goal.returns-in-Sized-clause-why
returns-in-Sized-clause-why g c = λ stream stands. cut_result c.args.limit c.args.framing stream _ c.read_sized-in-Sized.ensures.why
