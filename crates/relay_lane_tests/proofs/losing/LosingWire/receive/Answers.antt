use Rattle.std.proofs.Common.{ℕ, Option, Some, None, sym, subst, ⊎_elim}
use Rattle.std.specs.Option.{option_to_list}
use Rattle.relay_results.specs.declared.cause.Loss.TheVariants as loss
use Rattle.relay_results.specs.Words.{Mem}
use Rattle.relay_results.specs.Numbers.{from_zero}
use Rattle.relay_results.specs.Outside.{Outside, Answers, Lost, MayAnswer, after}
use Rattle.relay_lane_tests.specs.Shown.{IsOut}
use Rattle.relay_lane_tests.proofs.Losses.{lost_on}
use Rattle.relay_lane_tests.proofs.losing.LosingWire.receive.Goals as goal

it_is_out : (x : Option ℕ) (number : ℕ) (o : Outside) → Mem number (option_to_list x) → IsOut x o → MayAnswer o (from_zero number) (Lost loss.Closed)
it_is_out None number o m out = absurd m
it_is_out (Some n) number o m out = ⊎_elim {C = MayAnswer o (from_zero number) (Lost loss.Closed)} (λ e. subst (λ k. MayAnswer o (from_zero k) (Lost loss.Closed)) (sym e) out) (λ none. absurd none) m

pub returns-clause-outside : goal.returns-clause-outside
returns-clause-outside c described o out =
    let may = it_is_out c.args.self.now.flying c.args._number o c.requires out in
    (after (Answers (from_zero c.args._number) (Lost loss.Closed)) o, tt, lost_on loss.Closed o c.args._number may)
