use Rattle.std.proofs.Common.{◌++◌, List, ℕ, ap, ◌∙◌, codes, decimal}
use Rattle.relay_results.proofs.usual.take_place.Goals as goal

pub returns-clause-text : goal.returns-clause-text
returns-clause-text c =
    let status = c.in_ok-status.ensures ∙ ap (λ (t : List ℕ). codes ",\"status\":" ++ (decimal c.in_ok-status.status ++ t)) c.in_ok-rest.ensures in
    let term = c.in_ok-primary_term.ensures ∙ ap (λ (t : List ℕ). codes ",\"_primary_term\":" ++ (decimal c.in_ok-primary_term.primary_term ++ t)) status in
    c.in_ok-seq_no.ensures ∙ ap (λ (t : List ℕ). codes "\"_seq_no\":" ++ (decimal c.in_ok-seq_no.seq_no ++ t)) term
