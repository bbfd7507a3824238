use Rattle.std.proofs.Common.{◌≡◌, ◌∙◌, ℕ, ◌+◌, ◌≤◌, sym, ap, arith, ⊎_elim}
use Rattle.std.specs.Prelude.{min, nat_lt, slice_get, option_map, if◌then◌else◌}
use Rattle.std.proofs.lemmas.Bool.{ltb-true, ltb-false}
use Rattle.relay_delay.specs.declared.entry.Entry.{Entry}
use Rattle.relay_held.specs.Operations.{candidate_of}
use Rattle.relay_held.specs.Queues.{Holding, candidates_kept, looked, merge_of}
use Rattle.relay_results.proofs.Lists.{true_or_false}
use Rattle.relay_held.proofs.Waiting.{is_due_at, none_due}
use Rattle.relay_held.proofs.held.Held.candidate.Goals as goal

pub returns-in_err-entry-clause-found : goal.returns-in_err-entry-clause-found
returns-in_err-entry-clause-found c =
    c.from_residual.ensures ∙ ap (option_map candidate_of) (sym (none_due c.self.inside.documents c.self.inside.count c.self.inside.waiting c.args.at c.self.invariant c.in_err-entry.ensures.found))
    ∙ ap (λ (s : Holding). option_map candidate_of (slice_get (candidates_kept s.list s.clock) c.args.at)) c.self.view_is

pub returns-clause-found : goal.returns-clause-found
returns-clause-found c =
    let x = is_due_at c.self.inside.documents c.self.inside.count c.self.inside.waiting c.args.at c.in_ok-entry.entry c.self.invariant c.in_ok-entry.ensures.found in
    c.candidate.ensures x.one.key x.one x.waits.0 (sym (ap (λ (e : Entry). e.slot) x.entry)) ∙ ap (option_map candidate_of) (sym x.here)
    ∙ ap (λ (s : Holding). option_map candidate_of (slice_get (candidates_kept s.list s.clock) c.args.at)) c.self.view_is

-- one more, of a count that is in its range
one_more : (n m : ℕ) → n ≤ 18446744073709551615 → m ≡ min (n + 1) 18446744073709551615 → m ≡ (if nat_lt n 18446744073709551615 then n + 1 else n)
one_more n m most is = ⊎_elim {C = m ≡ (if nat_lt n 18446744073709551615 then n + 1 else n)}
    (λ t. let lt = ltb-true n 18446744073709551615 t in rw t (omega (arith, is, lt)))
    (λ f. let ge = ltb-false n 18446744073709551615 f in rw f (omega (arith, is, ge, most)))
    (true_or_false (nat_lt n 18446744073709551615))

pub returns-clause-same : goal.returns-clause-same
returns-clause-same c =
    let x = is_due_at c.self.inside.documents c.self.inside.count c.self.inside.waiting c.args.at c.in_ok-entry.entry c.self.invariant c.in_ok-entry.ensures.found in
    let found = c.candidate.ensures x.one.key x.one x.waits.0 (sym (ap (λ (e : Entry). e.slot) x.entry)) in
    let added = one_more c.self.inside.looks c.saturating_add-self-inside.result (omega (arith, c.self.ranges)) c.saturating_add-self-inside.ensures in
    (λ i. record { list = merge_of c.self.inside.documents.queues; clock = (c.in_ok-entry.ensures.unchanged i).clock; looks = added i })
    ∙ ap (λ (s : Holding). record s { looks = if nat_lt s.looks 18446744073709551615 then s.looks + 1 else s.looks }) c.self.view_is
    ∙ ap (λ o. record c.args.self.now { looks = looked o c.args.self.now.looks }) (sym found)
