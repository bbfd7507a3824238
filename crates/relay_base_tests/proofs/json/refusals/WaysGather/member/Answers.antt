use Rattle.relay_base_tests.proofs.json.refusals.WaysGather.member.Goals as goal

pub returns-in_ok-gather_or_leaf-in-either-clause-ok :
    goal.returns-in_ok-gather_or_leaf-in-either-clause-ok
returns-in_ok-gather_or_leaf-in-either-clause-ok c =
    let read = c.in_ok-gather_or_leaf-in-either.ensures.ok in (read.0, read.1, λ ms h. tt)

pub returns-in_ok-sole_object-in-sole-clause-ok : goal.returns-in_ok-sole_object-in-sole-clause-ok
returns-in_ok-sole_object-in-sole-clause-ok c =
    let read = c.in_ok-sole_object-in-sole.ensures.ok in (read.0, read.1, λ ms h. tt)

pub returns-in_ok-leaf-in_default-clause-ok : goal.returns-in_ok-leaf-in_default-clause-ok
returns-in_ok-leaf-in_default-clause-ok c =
    let read = c.in_ok-leaf-in_default.ensures.ok in (read.0, read.1, λ ms h. tt)
