use Rattle.relay_base_tests.proofs.json.tests.ListedGather.member.Goals as goal

pub returns-in_ok-leaf-clause-ok : goal.returns-in_ok-leaf-clause-ok
returns-in_ok-leaf-clause-ok c = let read = c.in_ok-leaf.ensures.ok in (read.0, read.1, λ ms h. tt)
