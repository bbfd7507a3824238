use Rattle.std.proofs.Common.{refl, arith}
use Rattle.json.specs.Token.{begin_array}
use Rattle.serde_json.specs.Data.{array}
use Rattle.relay_json.specs.Walks.{Opens}
use Rattle.relay_json.proofs.Rests.{left_behind}
use Rattle.relay_json.proofs.Turns.{array_read, array_refused}
use Rattle.relay_json.proofs.walk.Walk.collect.Goals as goal

pub returns-in_err-collected-clause-not_json : goal.returns-in_err-collected-clause-not_json
returns-in_err-collected-clause-not_json g c is =
    let opened : Opens begin_array c.args.self.now c.opens_array.new.self = grind arith in
    array_refused _ _ _ _ opened.1 opened.0 (c.in_err-collected.ensures.not_json (grind arith))

pub returns-clause-ok : goal.returns-clause-ok
returns-clause-ok g c =
    let opened : Opens begin_array c.args.self.now c.opens_array.new.self = grind arith in
    let found = c.in_ok-collected.ensures.ok in
    (array found.0, (refl, array_read _ _ _ _ opened.1 found.0 _ opened.0 found.1), (found.0, refl, found.3))

pub returns-in_err-collected-clause-past : goal.returns-in_err-collected-clause-past
returns-in_err-collected-clause-past g c =
    let opened : Opens begin_array c.args.self.now c.opens_array.new.self = grind arith in
    let past = c.in_err-collected.ensures.past in
    (left_behind _ _ _ _ opened.0 past.0, omega (arith, past.1, opened.1))

pub returns-clause-past : goal.returns-clause-past
returns-clause-past g c =
    let opened : Opens begin_array c.args.self.now c.opens_array.new.self = grind arith in
    (left_behind _ _ _ _ opened.0 c.in_ok-collected.ensures.past.0, omega arith)
