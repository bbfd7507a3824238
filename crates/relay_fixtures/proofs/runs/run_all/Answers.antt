use Rattle.std.proofs.Common.{◌≡◌, ◌++◌, ◌∷◌, [], length, Some, refl, sym, ap, ◌∙◌, subst, arith, length-append}
use Rattle.std.specs.Prelude.{slice_get, Result, Ok, Err}
use Rattle.std.specs.Result.{IsErr}
use Rattle.std.proofs.lemmas.Option.{slice_get_read}
use Rattle.std.specs.declared.vec.Vec.{Vec}
use Rattle.relay_results.specs.declared.outcome.Outcome.{Outcome}
use Rattle.relay_fixtures.specs.Runs.{RanSome, entry_of, entries_of}
use Rattle.relay_fixtures.proofs.Items.{ran_more, ran_less}
use Rattle.relay_fixtures.proofs.runs.run_all.Goals as goal

none_found : {A E : Type 0} (r : Result (Vec Outcome A) E) → IsErr r → entries_of r ≡ []
none_found (Ok x) h = absurd (cc)
none_found (Err e) h = refl

pub returns-in_err-entry : goal.returns-in_err-entry
returns-in_err-entry c o number shows sent =
    let i = c.loop-write.invariant in
    let os = c.loop-write.entries.items in
    let ws = c.args.writes.now in
    let w = c.write-item.result in
    let count = i.count in
    let at : slice_get ws (length os) ≡ Some w = subst (λ k. slice_get ws k ≡ Some w) (sym count) (slice_get_read ws (length ws) c.loop-write.write-index w refl (omega arith) c.write-item.is) in
    let a = ran_more o number ws w c.loop-write.index c.run_one.new.index os (entry_of c.run_one.result) sent at (i.ran o number shows sent) (λ q m place x y. c.run_one.ensures q m place x y) in
    subst (RanSome number 0 c.run_one.new.index o) (sym (none_found c.from_residual-in_err-entry.result c.from_residual-in_err-entry.ensures.0)) (ran_less o number c.run_one.new.index (os ++ entry_of c.run_one.result) a)

pub loop-write-preserved : goal.loop-write-preserved
loop-write-preserved c =
    let i = c.loop-write.invariant in
    let os = c.loop-write.entries.items in
    let ws = c.args.writes.now in
    let w = c.write-item.result in
    let entry = c.in_ok-entry.entry in
    let count = i.count in
    let at : slice_get ws (length os) ≡ Some w = subst (λ k. slice_get ws k ≡ Some w) (sym count) (slice_get_read ws (length ws) c.loop-write.write-index w refl (omega arith) c.write-item.is) in
    let now : c.push_reserved.new.self.items ≡ os ++ entry ∷ [] = c.push_reserved.ensures.items ∙ ap (λ xs. xs ++ entry ∷ []) c.reserve.ensures.items in
    let one : length (entry ∷ []) ≡ 1 = refl in
    let longer = ap length now ∙ length-append os (entry ∷ []) in
    record {
      count = omega (arith, longer, one, count);
      ran = λ o number shows sent. subst (RanSome number 0 c.run_one.new.index o) (sym now)
          (ran_more o number ws w c.loop-write.index c.run_one.new.index os (entry ∷ []) sent at (i.ran o number shows sent) (λ q m place x y. c.in_ok-entry.ensures q m place x y));
    }
