use Rattle.std.proofs.Common.{◌≡◌, ◌≤◌, length, ap, arith, inl, true, string_bytes, ◌∙◌}
use Rattle.relay_index.specs.Serving.{under}
use Rattle.relay_http.specs.Framing.{reply_limit}
use Rattle.relay_http.specs.WrittenAnswer.{answer}
use Rattle.relay_wires.proofs.Results.{by_cases}
use Rattle.relay_loop.proofs.Hearing.{served_stops}
use Rattle.relay_loop.proofs.serving.leave.Goals as goal

pub returns : goal.returns
returns c = λ host ws good may is.
    let old = under c.args.index.now c.args.script.now in
    let new = under c.serve.new.index c.serve.new.script in
    let served = c.in_ok-status.ensures.served host ws good may is in
    let text = string_bytes c.in_ok-status.text in
    let same = ap length c.as_str.ensures.value in
    let size : length text ≤ reply_limit = omega (arith, same) in
    by_cases _ _ c.answer_bytes.result
    (λ left ok. record {
      status = c.in_ok-status.status;
      text = text;
      served = served;
      leaves = inl (record {
        status_is = c.in_ok-status.ensures.status;
        size = size;
        kept = c.if-lost.false;
        left_is = (rw ok at c.answer_bytes.ensures) ∙ ap (λ t. answer c.in_ok-status.status t true) c.as_str.ensures.value;
      });
    })
    (λ e is. served_stops ws old new c.in_ok-status.status text served)
