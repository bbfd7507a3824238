use Rattle.relay_http.specs.Fields.{same_word}
use Rattle.relay_http.proofs.FieldLists.{same_test}
use Rattle.relay_http.proofs.word.same_word.Goals as goal

pub returns : goal.returns
unfolding same_word
returns c = same_test _ _ _ c.eq_ignore_ascii_case.ensures.test
