use Rattle.std.proofs.Common.{◌∙◌, string_bytes}
use Rattle.relay_ndjson.specs.Bulk.{text_of}
use Rattle.relay_index.specs.Serving.{under, answer_of}
use Rattle.relay_wires.proofs.Results.{by_cases, err_of, same_ok}
use Rattle.relay_loop.proofs.Running.{serves_all, answer_status, stops}
use Rattle.relay_loop.proofs.serving.serve.Goals as goal

pub returns-clause-status : goal.returns-clause-status
returns-clause-status c = by_cases _ _ c.map_err.result
    (λ answer ok.
    let was = same_ok _ c.serve_body.result c.map_err.result answer c.map_err.ensures.cases (rw ok at c.map_err.ensures.variant) ok in
    answer_status c.as_slice.result.now (under c.args.index.now c.args.script.now) (under c.serve_body.new.self c.serve_body.new.script)
    (answer_of answer.0 (string_bytes answer.1)) (rw was at c.serve_body.ensures.answered))
    (λ e is. tt)

pub returns-clause-served : goal.returns-clause-served
returns-clause-served c host ws good may is =
    let body = c.as_slice.ensures.value ∙ c.in_ok-body.ensures host (text_of ws) good may.size is in
    by_cases _ _ c.map_err.result
    (λ answer ok.
    let was = same_ok _ c.serve_body.result c.map_err.result answer c.map_err.ensures.cases (rw ok at c.map_err.ensures.variant) ok in
    serves_all ws c.as_slice.result.now (under c.args.index.now c.args.script.now) (under c.serve_body.new.self c.serve_body.new.script)
    (answer_of answer.0 (string_bytes answer.1)) may.dealt body (rw was at c.serve_body.ensures.answered))
    (λ e is.
    let was = err_of _ _ c.serve_body.result c.serve_body.ensures.stopped (rw is at c.map_err.ensures.variant) in
    stops was.0.ran ws c.as_slice.result.now (under c.args.index.now c.args.script.now) (under c.serve_body.new.self c.serve_body.new.script) may.dealt body was.2)
