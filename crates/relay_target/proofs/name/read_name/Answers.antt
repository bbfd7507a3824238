use Rattle.std.proofs.Common.{arith}
use Rattle.relay_target.proofs.Splitting.{named_there, no_slash, no_name}
use Rattle.relay_target.proofs.Naming.{name_by}
use Rattle.relay_target.proofs.name.read_name.Goals as goal

pub returns-in-None : goal.returns-in-None
returns-in-None c = λ index id is none.
    let whole = c.in-None.ensures.byte (omega arith) (λ w o h. h) in
    no_name c.args.name.now index id (no_slash c.args.name.now whole) is

pub returns-in-Some : goal.returns-in-Some
returns-in-Some c =
    let there = c.in-Some.ensures.byte (omega arith) (λ w o h. h) in
    let is = named_there c.args.name.now c.in-Some.index.now c.in-Some.id.now there.0 there.1 there.2 in
    name_by c.args.name.now c.in-Some.index.now c.in-Some.id.now is c.key_of.result c.key_of.ensures
