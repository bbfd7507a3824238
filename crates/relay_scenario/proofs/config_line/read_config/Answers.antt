use Rattle.std.proofs.Common.{◌≡◌, ℕ, List, codes, sym, subst}
use Rattle.relay_scenario.specs.Words.{Begins}
use Rattle.relay_scenario.proofs.Refusing.{differ_not, same_not, no_config, no_world}
use Rattle.relay_scenario.proofs.config_line.read_config.Goals as goal

pub returns-then-ne-clause-err : goal.returns-then-ne-clause-err
returns-then-ne-clause-err c = rw (sym c.in-Ok.ensures.cases.0) (no_world c.in-Ok.text.now c.in-Some.word.now c.in-Some.rest.now c.in-Some.ensures (differ_not _ _ c.if-ne.ensures))

pub returns-clause-err : goal.returns-clause-err
returns-clause-err c =
    let none = rw c.as_slice.ensures.value at c.in-None.ensures.none in
    rw (sym c.in-Ok.ensures.cases.0) (no_config c.in-Ok.text.now c.in-Some.word.now c.in-Some.rest.now c.in_ok-numbers.numbers.items c.in-Some.ensures c.in_ok-numbers.ensures.ok none)

pub returns-in-Some-valid_config-clause-ok : goal.returns-in-Some-valid_config-clause-ok
returns-in-Some-valid_config-clause-ok c =
    let line = c.args.line.now in
    let config = c.in-Some-valid_config.config in
    let some = rw c.as_slice.ensures.value at c.in-Some-valid_config.ensures.some in
    let same : c.in-Ok.text.now ≡ line = c.in-Ok.ensures.cases.0 in
    let begins : Begins line c.in-Some.word.now c.in-Some.rest.now = subst (λ (t : List ℕ). Begins t c.in-Some.word.now c.in-Some.rest.now) same c.in-Some.ensures in
    let world : c.in-Some.word.now ≡ codes "world" = same_not _ _ c.if-ne.ensures in
    record {
      utf8 = c.in-Ok.ensures.cases.1;
      rest = c.in-Some.rest.now;
      numbers = c.in_ok-numbers.numbers.items;
      begins = subst (λ (w : List ℕ). Begins line w c.in-Some.rest.now) world begins;
      are = c.in_ok-numbers.ensures.ok;
      of_numbers = some.0;
      valid = some.1;
    }
