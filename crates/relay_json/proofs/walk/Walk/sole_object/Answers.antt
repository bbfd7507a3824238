use Rattle.std.proofs.Common.{refl, sym, subst, arith}
use Rattle.json.specs.Token.{begin_object}
use Rattle.serde_json.specs.Data.{object}
use Rattle.relay_json.specs.Sole.{IsSoleObject}
use Rattle.relay_json.specs.Walks.{Opens}
use Rattle.relay_json.proofs.Rests.{left_behind}
use Rattle.relay_json.proofs.Soles.{IsSoleObject-found_object}
use Rattle.relay_json.proofs.Turns.{object_read, object_refused}
use Rattle.relay_json.proofs.walk.Walk.sole_object.Goals as goal

pub returns-in_err-found-clause-not_json : goal.returns-in_err-found-clause-not_json
returns-in_err-found-clause-not_json g c is =
    let opened : Opens begin_object c.args.self.now c.leaf_or_object.new.self = grind arith in
    object_refused _ _ _ _ opened.1 opened.0 (c.in_err-found.ensures.not_json (grind arith))

pub returns-clause-ok : goal.returns-clause-ok
returns-clause-ok g c =
    let opened : Opens begin_object c.args.self.now c.leaf_or_object.new.self = grind arith in
    let found = c.in_ok-found.ensures.ok in
    (object found.0, (refl, object_read _ _ _ _ opened.1 found.0 _ opened.0 found.1), subst (IsSoleObject g.F.Gather.Holds (object found.0)) (sym c.object.ensures) (IsSoleObject-found_object g.F.Gather.Holds c.in_ok-found.found found.0 found.3))

pub returns-in_err-found-clause-past : goal.returns-in_err-found-clause-past
returns-in_err-found-clause-past g c =
    let opened : Opens begin_object c.args.self.now c.leaf_or_object.new.self = grind arith in
    let past = c.in_err-found.ensures.past in
    (left_behind _ _ _ _ opened.0 past.0, omega (arith, past.1, opened.1))

pub returns-clause-past : goal.returns-clause-past
returns-clause-past g c =
    let opened : Opens begin_object c.args.self.now c.leaf_or_object.new.self = grind arith in
    (left_behind _ _ _ _ opened.0 c.in_ok-found.ensures.past.0, omega arith)
