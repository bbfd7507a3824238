use Rattle.relay_base_tests.proofs.json.tests.LastGather.member.Goals as goal

pub returns-clause-ok : goal.returns-clause-ok
returns-clause-ok c = let read = c.in_ok-told.ensures.ok in (read.0, read.1, λ ms h. tt)
