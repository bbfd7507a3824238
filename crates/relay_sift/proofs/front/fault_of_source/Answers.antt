use Rattle.relay_sift.proofs.Judging.{source_valid, refused_fault}
use Rattle.relay_sift.proofs.front.fault_of_source.Goals.{in-Ok, in-Err}
use Rattle.relay_sift.proofs.front.fault_of_source.Goals as goal

pub returns : goal.returns
returns c =
    elim c.match-read_source.branch [
      | in-Ok w ↦ rw w.result-is (source_valid c.args.text.now _ w.in-Ok.ensures.ok.1)
      | in-Err w ↦ rw w.result-is (refused_fault _ _ c.args.text.now w.refusal_of.ensures w.in-Err.ensures.err)
    ]
