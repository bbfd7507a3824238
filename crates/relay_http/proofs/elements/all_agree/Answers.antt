use Rattle.std.proofs.Common.{rules, tests}
use Rattle.std.proofs.lemmas.Iterator.Consumers.{YieldsList-from_first}
use Rattle.std.proofs.lemmas.Iterator.Search.{all_from_yields_List}
use Rattle.relay_http.specs.Lists.{elements_left}
use Rattle.relay_http.specs.Fields.{agrees}
use Rattle.relay_http.proofs.elements.all_agree.Goals as goal

pub returns : goal.returns
returns c =
    all_from_yields_List (agrees c.args.first.now) _ _ _ c.all.ensures.ran
    (YieldsList-from_first (λ x. x.now) elements_left _ c.new.ensures) (λ x b q k. search (rules, tests))
