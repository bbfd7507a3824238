-- Which operations a request carries.
use Rattle.std.proofs.Common.{◌≡◌, ◌≤◌, Option, Some, None, true, refl, sym, ap, ◌∙◌, ⊎_elim}
use Rattle.std.specs.Prelude.{nat_lt, nat_le, ◌&&◌}
use borrow.Author.Tests.{ltb-false, leb-true}
use Rattle.relay_results.specs.Documents.{document_of, same_document}
use Rattle.relay_results.proofs.Lists.{true_or_false, and_left, and_right, and_both, not_true, any_false, Mem-filter, Mem-sub}
use Rattle.relay_results.proofs.Same.{same_document-self}
use Rattle.relay_delivery.specs.Machine.{Held, Place}
use Rattle.relay_delivery.specs.Lane.{held_of, waits, is_candidate, candidates}
use Rattle.relay_core.specs.State.{gathering}
use Rattle.relay_core.specs.Flights.{EarlierOnesSettled}
use Rattle.relay_core.proofs.Tying.{chosen_sub}

waits_none : (p : Option Place) → waits p ≡ true → p ≡ None
waits_none None t = refl
waits_none (Some f) t = absurd (cc)

pub earlier_ones_settled : EarlierOnesSettled
earlier_ones_settled s e m =
    let among = Mem-sub e _ (candidates s.core) (chosen_sub (candidates s.core) (gathering s)) m in
    let f = Mem-filter (is_candidate s.core) e s.core.held among in
    let t = f.1 in
    let later = not_true _ (and_right (nat_le e.due s.core.clock) _ (and_right (waits e.held.flies) _ t)) in
    record {
      held = f.0;
      waits = waits_none e.held.flies (and_left _ _ t);
      due = leb-true _ _ (and_left _ _ (and_right (waits e.held.flies) _ t));
      first = λ j mj doc.
          let no_lower = any_false (λ (x : Held). same_document (document_of x.op.key) (document_of e.held.op.key) && nat_lt x.version e.held.version) j (held_of s.core.held) later mj in
          let d : same_document (document_of j.op.key) (document_of e.held.op.key) ≡ true = ap (same_document (document_of j.op.key)) (sym doc) ∙ same_document-self (document_of j.op.key) in
          ⊎_elim {C = e.held.version ≤ j.version} (λ lt. absurd (cc (and_both _ _ d lt, no_lower))) (λ ge. ltb-false _ _ ge) (true_or_false (nat_lt j.version e.held.version));
    }
