use Rattle.std.proofs.Common.{◌∷◌, [], ◌++◌, refl, subst, arith}
use Rattle.relay_resume.specs.Trails.{IsOf}
use Rattle.relay_keeping.proofs.Following.{differ_names, history_at, names_there, same_starts, trails_none, trails_set}
use Rattle.relay_keeping.proofs.trails.settle_one.Goals as goal

pub returns-in_err-settle-clause-starts : goal.returns-in_err-settle-clause-starts
returns-in_err-settle-clause-starts c = same_starts c.args.inputs.now.items c.args.name.now.producer c.index_mut.result.now _ c.index_mut.ensures.value refl

pub returns-in_ok-settle-clause-trails : goal.returns-in_ok-settle-clause-trails
returns-in_ok-settle-clause-trails c puts names all =
    let name = c.args.name.now in
    let x = c.index_mut.result.now in
    trails_set name.producer puts puts names (names ++ name ∷ []) c.args.inputs.now.items x (record x { trail = c.settle.new.self }) (omega (arith, c.if-place-len.true, c.len.ensures, c.args.inputs.now.ok.0)) c.index_mut.ensures.value refl
    (differ_names puts names name)
    (λ s. subst (λ ns. IsOf (record { start = x.start; puts = puts name.producer; settled = ns }) c.settle.new.self) (names_there names name) (c.in_ok-settle.ensures.ok (history_at puts names name.producer x.start) s))
    all

pub returns-in_ok-settle-clause-starts : goal.returns-in_ok-settle-clause-starts
returns-in_ok-settle-clause-starts c = same_starts c.args.inputs.now.items c.args.name.now.producer c.index_mut.result.now _ c.index_mut.ensures.value refl

pub returns-else-place-len-clause-trails : goal.returns-else-place-len-clause-trails
returns-else-place-len-clause-trails c puts names all =
    trails_none c.args.name.now.producer puts puts names (names ++ c.args.name.now ∷ []) c.args.inputs.now.items (omega (arith, c.if-place-len.false, c.len.ensures, c.args.inputs.now.ok.0)) (differ_names puts names c.args.name.now) all
