-- What a connection has received since an earlier time.
use Rattle.std.proofs.Common.{◌≡◌, ℕ, ◌+◌, ◌<◌, List, ◌++◌, length, take, ap, subst, sym, ◌∙◌, length-append, take_all, arith}
use Rattle.std.proofs.lemmas.List.{take-append-le}
use Rattle.http_server.specs.History.{History}
use Rattle.relay_clients.specs.Intake.{HasTaken}

-- nothing, if that was just now
pub taken_none : (since now : History) (taken : ℕ) → since ≡ now → taken ≡ 0 → (0 < length now.received → 0 < length now.pending) → HasTaken since now taken
taken_none since now taken same none answered = subst (λ (h : History). HasTaken h now taken) (sym same) (record {
  goes_on = take_all (length now.received) now.received (omega arith);
  counted = omega (arith, none);
  answered = answered;
})

-- so many bytes more, if these came
pub taken_more : (since old new : History) (taken after : ℕ) (got : List ℕ) → new.received ≡ old.received ++ got → after ≡ taken + length got
    → HasTaken since old taken → HasTaken since new after
taken_more since old new taken after got is long h = let n = length since.received in let c = h.counted in record {
  goes_on = ap (take n) is ∙ (take-append-le n old.received got (omega (arith, c)) ∙ h.goes_on);
  counted = ap length is ∙ (length-append old.received got ∙ omega (arith, c, long));
  answered = h.answered;
}
