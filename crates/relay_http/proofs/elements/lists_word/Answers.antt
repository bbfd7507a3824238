use Rattle.std.proofs.Common.{rules, tests}
use Rattle.std.proofs.lemmas.Iterator.Consumers.{YieldsList-from_first}
use Rattle.std.proofs.lemmas.Iterator.Search.{any_from_yields_List}
use Rattle.relay_http.specs.Fields.{same_word}
use Rattle.relay_http.specs.Lists.{elements_left}
use Rattle.relay_http.proofs.elements.lists_word.Goals as goal

pub returns : goal.returns
returns c =
    any_from_yields_List (λ e. same_word e c.args.word.now) _ _ _ c.any.ensures.ran
    (YieldsList-from_first (λ x. x.now) elements_left _ c.new.ensures) (λ x b q k. search (rules, tests))
