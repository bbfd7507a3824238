use Rattle.relay_action.proofs.key.DocKey.copy.Goals as goal

pub invariant_of-result-clause-index_utf8 : goal.invariant_of-result-clause-index_utf8
invariant_of-result-clause-index_utf8 c = rw c.in_ok-copy.ensures c.args.self.now.index_utf8

pub invariant_of-result-clause-id_utf8 : goal.invariant_of-result-clause-id_utf8
invariant_of-result-clause-id_utf8 c = rw c.in_ok-copy-2.ensures c.args.self.now.id_utf8
