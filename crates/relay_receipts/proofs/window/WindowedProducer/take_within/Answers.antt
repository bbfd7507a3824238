use Rattle.std.proofs.Common.{◌≡◌, [], ◌∷◌, ◌++◌, IfSome, sym, subst}
use Rattle.relay_receipts.specs.Windows.{KeepsWindow}
use Rattle.relay_receipts.proofs.Windows.{keeps_taken}
use Rattle.relay_receipts.proofs.window.WindowedProducer.take_within.Goals as goal

pub invariant_of-self-2 : goal.invariant_of-self-2
invariant_of-self-2 g c =
    let more = subst (λ o. IfSome o (λ n. c.take_within.new.self.taken ≡ c.self.inside.receipts.taken ++ n ∷ [])) c.in-Some.is c.in_ok-notice.ensures.taken in
    let kept = keeps_taken c.self.inside.producer c.self.inside.receipts c.take_within.new.self c.self.inside.window c.self.inside.pending c.in-Some.notice more c.self.invariant in
    subst (λ n. KeepsWindow (record { producer = c.self.inside.producer; receipts = c.take_within.new.self; window = c.self.inside.window; pending = n })) (sym c.left_open-self-inside.ensures) kept
