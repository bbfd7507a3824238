-- No lane was found gone if the count is 0.
use Rattle.std.proofs.Common.{◌≡◌, ℕ, ◌+◌, ◌↔◌, true, false, cond, List, [], ◌∷◌, sym, refl, ◌∙◌, arith}
use Rattle.std.specs.List.{All, count_by}
use Rattle.std.proofs.lemmas.List.Sums.{sum_by-cons}
use Rattle.std.proofs.lemmas.List.Elements.{All-nil, All-cons, All-head, All-tail}
use Rattle.relay_producer.specs.declared.ends.ClosedEnd.{ClosedEnd}
use Rattle.relay_producer.specs.declared.ends.ClosedEnd.TheVariants.{Closed, Gone}
use Rattle.relay_producer.specs.Ends.{is_gone}

count-cons : (e : ClosedEnd) (es : List ClosedEnd) → count_by is_gone (e ∷ es) ≡ cond (is_gone e) 1 0 + count_by is_gone es
count-cons e es = sum_by-cons (λ (x : ClosedEnd). cond (is_gone x) 1 0) e es

none_gone : (ends : List ClosedEnd) → count_by is_gone ends ≡ 0 → All (λ e. is_gone e ≡ false) ends
none_gone [] h = All-nil (λ (e : ClosedEnd). is_gone e ≡ false)
none_gone (Closed p ∷ es) h = All-cons (λ (e : ClosedEnd). is_gone e ≡ false) (Closed p) es refl (none_gone es (let c = count-cons (Closed p) es in omega arith))
none_gone (Gone p ∷ es) h = absurd (let c = count-cons (Gone p) es in omega arith)

gone_none : (ends : List ClosedEnd) → All (λ e. is_gone e ≡ false) ends → count_by is_gone ends ≡ 0
gone_none [] h = refl
gone_none (Closed p ∷ es) h =
    let c = count-cons (Closed p) es in
    let r = gone_none es (All-tail (λ (e : ClosedEnd). is_gone e ≡ false) (Closed p) es h) in
    omega arith
gone_none (Gone p ∷ es) h = let wrong : true ≡ false = All-head (λ (e : ClosedEnd). is_gone e ≡ false) (Gone p) es h in absurd (cc)

-- both ways, of a number that is the count
pub counts_none : (ends : List ClosedEnd) (n : ℕ) → n ≡ count_by is_gone ends → (n ≡ 0) ↔ All (λ e. is_gone e ≡ false) ends
counts_none ends n is = (λ zero. none_gone ends (sym is ∙ zero), λ none. is ∙ gone_none ends none)
