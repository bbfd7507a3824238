use Rattle.std.proofs.Common.{rules, refl, [], ◌≡◌, ◌-◌, ◌<◌, ◌++◌, sym, arith, true}
use Rattle.std.proofs.lemmas.Result.{err_from_is_err_and}
use Rattle.relay_http.specs.Framing.{is_interim}
use Rattle.relay_http.specs.Reply.{IsHead, IsHeads, IsHeadsWith}
use Rattle.relay_http.proofs.Stands.{prepend_known-nil}
use Rattle.relay_http.proofs.Leading.{leads_none, leads_on, fails_behind, took_behind}
use Rattle.relay_http.proofs.Replies.{interim_leads, last_is, begins_head}
use Rattle.relay_http.proofs.Passing.{stood_behind, eight}
use Rattle.relay_http.proofs.Refusing.{head_refused, none_passed, one_passed}
use Rattle.relay_http.proofs.buffered.Buffered.read_heads.Goals as goal

pub returns-in_err-info-clause-answer : goal.returns-in_err-info-clause-answer
returns-in_err-info-clause-answer g c =
    let p = err_from_is_err_and c.from_residual.result c.from_residual.ensures.1 in
    rw (p.1, p.2) (let f = c.heads.invariant.front in
    fails_behind IsHeads IsHead f.0 _ _ _ c.in_err-info.field-0.0 (λ s b. begins_head (8 - c.heads.passed) s (f.2.peel s b).0) f.1 c.in_err-info.ensures.answer)

pub returns-then-not-is_interim-clause-answer : goal.returns-then-not-is_interim-clause-answer
returns-then-not-is_interim-clause-answer g c =
    let f = c.heads.invariant.front in
    let t = c.in_ok-info.ensures.answer in
    let last : is_interim c.in_ok-info.info.status ≡ true → 8 - c.heads.passed ≡ 0 = λ i. search rules in
    took_behind IsHeads (IsHeadsWith (8 - c.heads.passed)) f.0 _ _ _ c.in_ok-info.info f.2 f.1 (record {
      front = t.front;
      ends = t.ends;
      message = last_is (8 - c.heads.passed) t.front t.ends c.in_ok-info.info t.message last;
      split = t.split;
      last = t.last;
    })

pub heads-preserved : goal.heads-preserved
heads-preserved g c =
    let f = c.heads.invariant.front in
    let t = c.in_ok-info.ensures.answer in
    let interim : is_interim c.in_ok-info.info.status ≡ true = search rules in
    let few = c.heads.invariant.few in
    let below : c.heads.passed < 8 = search rules in
    record {
      few = omega (arith, below);
      front = (f.0 ++ t.front, stood_behind f.0 t.front _ _ _ f.1 t.split, eight c.heads.passed (f.0 ++ t.front) below (leads_on IsHeads (IsHeadsWith (8 - c.heads.passed)) (IsHeadsWith (8 - c.heads.passed - 1)) f.0 t.front f.2 (interim_leads (8 - c.heads.passed) t.front t.ends c.in_ok-info.info t.message interim (omega (arith, below)))));
      behind = one_passed _ _ _ c.heads.passed c.in_ok-info.info c.heads.invariant.behind t interim;
      count = search rules;
      written = search rules;
    }

pub heads-init : goal.heads-init
heads-init g c = record {
  few = search rules;
  front = ([], sym (prepend_known-nil _), leads_none IsHeads);
  behind = none_passed _;
  count = refl;
  written = refl;
}

pub returns-in_err-info-clause-why : goal.returns-in_err-info-clause-why
returns-in_err-info-clause-why g c =
    let p = err_from_is_err_and c.from_residual.result c.from_residual.ensures.1 in
    rw (p.1, p.2) (λ stream stands.
    head_refused _ _ c.heads.passed c.in_err-info.field-0.0 c.heads.invariant.behind c.heads.invariant.few c.in_err-info.ensures.why stream stands)
