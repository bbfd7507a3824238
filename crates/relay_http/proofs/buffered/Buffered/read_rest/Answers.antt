use Rattle.std.proofs.Common.{rules, ◌<◌, ◌++◌, ◌∙◌, sym, arith, length, length-append}
use Rattle.std.proofs.lemmas.Result.{err_from_is_err_and}
use Rattle.relay_http.proofs.Bodies.{rest_never}
use Rattle.relay_http.proofs.Stands.{prepend_known-append}
use Rattle.std.proofs.Common.{inr}
use Rattle.relay_http.specs.declared.framing.Framing.TheVariants.{ToEnd}
use Rattle.relay_http.proofs.Refusing.{cut_body, rest_passed}
use Rattle.relay_http.proofs.buffered.Buffered.read_rest.Goals as goal

pub returns-clause-answer : goal.returns-clause-answer
returns-clause-answer g c =
    let items = c.reading.body in
    let window = c.reading.self.window in
    let long : c.args.limit < length c.reading.body = search rules in
    let size = length-append c.reading.body c.reading.self.window in
    record {
      read = items ++ window;
      stood = c.reading.invariant.taken ∙ sym (prepend_known-append items window (g.S.ByteStream.left c.reading.self.stream));
      never = rest_never c.args.limit (items ++ window) (omega (arith, size, long));
    }

pub returns-clause-why : goal.returns-clause-why
returns-clause-why g c = λ stream stands.
    let long : c.args.limit < length c.reading.body = search rules in
    rest_passed c.args.limit c.reading.body _ _ c.reading.invariant.taken long stream stands

pub returns-in_err-take_some-clause-why : goal.returns-in_err-take_some-clause-why
returns-in_err-take_some-clause-why g c =
    let p = err_from_is_err_and c.from_residual.result c.from_residual.ensures.1 in
    rw (p.1, p.2) (λ stream stands. cut_body c.args.limit ToEnd stream c.in_err-take_some.field-0.0 (inr c.in_err-take_some.ensures.err))
