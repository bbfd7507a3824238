use Rattle.std.proofs.Common.{◌≡◌, ◌∙◌, [], sym, ap, rules}
use Rattle.std.specs.Prelude.{if◌then◌else◌}
use Rattle.relay_results.specs.Matching.{matches}
use Rattle.relay_results.specs.Outside.{Items}
use Rattle.relay_core.specs.State.{writes_of}
use Rattle.relay_core.proofs.Saying.{items_say, items_tell}
use Rattle.relay_core.proofs.lane.Lane.reply.Goals as goal
use Rattle.relay_core.proofs.lane.Lane.reply.Goals.{then-matched, else-matched}

pub returns-in-Some-settle-clause-ok : goal.returns-in-Some-settle-clause-ok
returns-in-Some-settle-clause-ok c =
    let ws = writes_of c.args.number c.args.self.now.state in
    let os = c.args.outcomes.items in
    let matched : matches os ws ≡ c.matches-matched.result = sym (c.matches-matched.ensures.value ∙ (λ i. matches (c.deref.ensures.value i) (c.in-Some.ensures.writes i))) in
    let given : c.if-matched.given.items ≡ (if c.matches-matched.result then os else []) = elim c.if-matched.branch [
      | then-matched w ↦ ap (λ v. v.items) w.given-is ∙ sym (ap (λ b. if b then os else []) w.if-matched.true)
      | else-matched w ↦ ap (λ v. v.items) w.given-is ∙ w.new-given.ensures.items ∙ sym (ap (λ b. if b then os else []) w.if-matched.false)
    ] in
    c.in-Some-settle.ensures.settled (Items os) (items_say ws os _ _ matched given) (items_tell ws os _ _ matched given)

pub returns-in-Some-settle-clause-counts : goal.returns-in-Some-settle-clause-counts
returns-in-Some-settle-clause-counts c =
    let ws = writes_of c.args.number c.args.self.now.state in
    let os = c.args.outcomes.items in
    let matched : matches os ws ≡ c.matches-matched.result = sym (c.matches-matched.ensures.value ∙ (λ i. matches (c.deref.ensures.value i) (c.in-Some.ensures.writes i))) in
    let given : c.if-matched.given.items ≡ (if c.matches-matched.result then os else []) = elim c.if-matched.branch [
      | then-matched w ↦ ap (λ v. v.items) w.given-is ∙ sym (ap (λ b. if b then os else []) w.if-matched.true)
      | else-matched w ↦ ap (λ v. v.items) w.given-is ∙ w.new-given.ensures.items ∙ sym (ap (λ b. if b then os else []) w.if-matched.false)
    ] in
    let counts = c.in-Some-settle.ensures.counts (Items os) (items_say ws os _ _ matched given) in
    record { applied = counts.applied; already = counts.already; reported = counts.reported; retried = counts.retried }

pub returns-in-Some-settle-clause-matched : goal.returns-in-Some-settle-clause-matched
returns-in-Some-settle-clause-matched c = search rules
