use Rattle.std.proofs.Common.{refl, subst, arith}
use Rattle.relay_resume.specs.Trails.{IsOf}
use Rattle.relay_keeping.specs.Histories.{numbers_of}
use Rattle.relay_keeping.specs.Steps.{with_puts}
use Rattle.relay_keeping.proofs.Following.{differ_puts, history_at, puts_there, same_starts, trails_none, trails_set}
use Rattle.relay_keeping.proofs.trails.put_at.Goals as goal

pub returns-in_err-put_all-clause-starts : goal.returns-in_err-put_all-clause-starts
returns-in_err-put_all-clause-starts c = same_starts c.args.inputs.now.items c.args.producer c.index_mut.result.now _ c.index_mut.ensures.value refl

pub returns-in_ok-put_all-clause-trails : goal.returns-in_ok-put_all-clause-trails
returns-in_ok-put_all-clause-trails c puts names all =
    let k = c.args.producer in
    let ends = c.args.ends.now in
    let x = c.index_mut.result.now in
    trails_set k puts (with_puts puts k ends) names names c.args.inputs.now.items x (record x { trail = c.put_all.new.trail }) (omega (arith, c.if-place-len.true, c.len.ensures, c.args.inputs.now.ok.0)) c.index_mut.ensures.value refl
    (differ_puts k puts names ends)
    (λ s. subst (λ ps. IsOf (record { start = x.start; puts = ps; settled = numbers_of k names }) c.put_all.new.trail) (puts_there k puts ends) (c.in_ok-put_all.ensures (history_at puts names k x.start) s))
    all

pub returns-in_ok-put_all-clause-starts : goal.returns-in_ok-put_all-clause-starts
returns-in_ok-put_all-clause-starts c = same_starts c.args.inputs.now.items c.args.producer c.index_mut.result.now _ c.index_mut.ensures.value refl

pub returns-else-place-len-clause-trails : goal.returns-else-place-len-clause-trails
returns-else-place-len-clause-trails c puts names all =
    trails_none c.args.producer puts (with_puts puts c.args.producer c.args.ends.now) names names c.args.inputs.now.items (omega (arith, c.if-place-len.false, c.len.ensures, c.args.inputs.now.ok.0)) (differ_puts c.args.producer puts names c.args.ends.now) all
