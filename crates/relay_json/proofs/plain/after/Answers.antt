use Rattle.std.proofs.lemmas.Bool.Decides.{Decides-eqb}
use Rattle.std.proofs.lemmas.Slice.Eq.{strip_prefix_is}
use Rattle.relay_json.proofs.Words.{both_first, joined, none_first}
use Rattle.relay_json.proofs.plain.after.Goals as goal

pub returns-in_err-rest : goal.returns-in_err-rest
returns-in_err-rest c =
    let i = c.loop-word.invariant in
    joined c.from_residual.result (λ r. r.now) c.args.bytes.now c.args.front.now i.0 c.loop-word.rest.now c.loop-word.left.now i.1 i.2
    (rw c.from_residual.ensures (none_first c.loop-word.rest.now c.loop-word.left.now c.in-Some.word.now c.in-Some.more.now c.in-Some.ensures.cases.0 c.in-Some.ensures.cases.1 c.in_err-rest.ensures))

pub loop-word-preserved : goal.loop-word-preserved
loop-word-preserved c =
    let i = c.loop-word.invariant in
    both_first c.args.bytes.now c.args.front.now i.0 c.loop-word.rest.now c.loop-word.left.now c.in-Some.word.now c.in-Some.more.now c.in_ok-rest.rest.now c.in-Some.ensures.cases.0 c.in-Some.ensures.cases.1 i.1 i.2 c.in_ok-rest.ensures

pub returns : goal.returns
returns c =
    let i = c.loop-word.invariant in
    joined c.strip_prefix.result (λ r. r.now) c.args.bytes.now c.args.front.now i.0 c.loop-word.rest.now c.loop-word.left.now i.1 i.2
    (strip_prefix_is Decides-eqb c.loop-word.rest.now c.loop-word.left.now c.strip_prefix.result c.strip_prefix.ensures.cases)
