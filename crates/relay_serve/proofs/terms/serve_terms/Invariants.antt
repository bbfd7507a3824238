use Rattle.std.proofs.Common.{◌≡◌, ◌≤◌, ◌+◌}
use Rattle.relay_serve.proofs.terms.serve_terms.Given as goal

-- what the terms were begun with is kept, and the next epoch is above theirs
abbrev pub invariant-terms : goal.invariant-terms
invariant-terms g l = record {
  options : l.terms.options.value ≡ l.fn.options;
  first : l.terms.first ≡ l.fn.first;
  floor : l.terms.floor ≤ l.epoch;
  epochs : l.epochs.floor ≡ l.epoch + 1;
}
