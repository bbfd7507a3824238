-- The ends of a new channel, and of one whose ends have told.
use Rattle.std.proofs.Common.{◌≡◌, ℕ, zero, suc, ◌+◌, ◌<◌, List, [], ◌∷◌, ◌++◌, length, get_or, take, drop, Option, refl, sym, ap, ap₂, ◌∙◌, subst, arith}
use Rattle.std.proofs.lemmas.List.{take_more}
use Rattle.relay_resume.specs.declared.mark.Mark.{Mark}
use Rattle.relay_receipts.specs.declared.notice.Notice.{Notice}
use Rattle.relay_receipts.specs.Ends.{Channel, TellEnd, fresh, fresh_tells}
use Rattle.relay_keeping.specs.declared.told.Told.{Told}
use Rattle.relay_keeping.specs.Meeting.{AllMet, IsMet}
use Rattle.relay_keeping.specs.Met.{AllPutOnly, AllTellOnly}
use Rattle.relay_keeping.specs.Seats.{tells_from}
use Rattle.relay_keeping.specs.Tellers.{AreNewInputs, AreNewLanes, InputState, IsNewInput, LaneState, TellsOnly, new_lane, said_at}
use Rattle.relay_keeping.specs.Histories.{names_in}

-- ---- the ends of a new channel

from_more : (channel : Channel Told) (teller n : ℕ) → tells_from channel teller (suc n) ≡ tells_from channel teller n ++ fresh channel (teller + n) ∷ []
from_more channel teller zero = ap (λ k. fresh channel k ∷ []) (let e : teller ≡ teller + 0 = omega arith in e)
from_more channel teller (suc n) =
    ap (λ l. fresh channel teller ∷ l) (from_more channel (teller + 1) n ∙ ap (λ k. tells_from channel (teller + 1) n ++ fresh channel k ∷ []) (let e : teller + 1 + n ≡ teller + suc n = omega arith in e))

pub fresh_from : (channel : Channel Told) (n : ℕ) → fresh_tells channel n ≡ tells_from channel 0 n
fresh_from channel zero = refl
fresh_from channel (suc n) =
    ap (λ l. l ++ fresh channel n ∷ []) (fresh_from channel n) ∙ ap (λ k. tells_from channel 0 n ++ fresh channel k ∷ []) (let e : n ≡ 0 + n = omega arith in e) ∙ sym (from_more channel 0 n)

pub first_from : (channel : Channel Told) (teller n m : ℕ) → take n (tells_from channel teller (n + m)) ≡ tells_from channel teller n
first_from channel teller zero m = refl
first_from channel teller (suc n) m =
    ap (λ k. take (suc n) (tells_from channel teller k)) (let e : suc n + m ≡ suc (n + m) = omega arith in e) ∙ ap (λ l. fresh channel teller ∷ l) (first_from channel (teller + 1) n m)

pub others_from : (channel : Channel Told) (teller n m : ℕ) → drop n (tells_from channel teller (n + m)) ≡ tells_from channel (teller + n) m
others_from channel teller zero m = ap₂ (tells_from channel) (let e : teller ≡ teller + 0 = omega arith in e) (let e : 0 + m ≡ m = omega arith in e)
others_from channel teller (suc n) m =
    ap (λ k. drop (suc n) (tells_from channel teller k)) (let e : suc n + m ≡ suc (n + m) = omega arith in e) ∙ others_from channel (teller + 1) n m ∙ ap (λ k. tells_from channel k m) (let e : teller + 1 + n ≡ teller + suc n = omega arith in e)

-- the next of them
pub record NextFrom (channel : Channel Told) (teller m : ℕ) (x : TellEnd Told) (xs : List (TellEnd Told)) : Type 0 where
  pub here : x ≡ fresh channel teller
  pub there : xs ≡ tells_from channel (teller + 1) m
  pub told : x.told ≡ []

pub from_next : (channel : Channel Told) (teller n m : ℕ) (x : TellEnd Told) (xs : List (TellEnd Told)) → x ∷ xs ≡ tells_from channel teller n → n ≡ m + 1 → NextFrom channel teller m x xs
from_next channel teller zero m x xs e at = absurd (omega (arith, at))
from_next channel teller (suc n) m x xs e at =
    let head : x ≡ fresh channel teller = cc in
    let tail : xs ≡ tells_from channel (teller + 1) n = cc in
    let same : n ≡ m = omega (arith, at) in
    record { here = head; there = tail ∙ ap (tells_from channel (teller + 1)) same; told = ap (λ (t : TellEnd Told). t.told) head }

-- the first ends of a new channel, and the others
pub split_first : (channel : Channel Told) (ends firsts : List (TellEnd Told)) (n m all k : ℕ) → ends ≡ fresh_tells channel all → all ≡ n + m → firsts ≡ take n ends → k ≡ n → firsts ≡ tells_from channel 0 k
split_first channel ends firsts n m all k e sum is len =
    is ∙ ap (take n) (e ∙ ap (fresh_tells channel) sum ∙ fresh_from channel (n + m)) ∙ first_from channel 0 n m ∙ ap (tells_from channel 0) (sym len)

pub split_others : (channel : Channel Told) (ends others : List (TellEnd Told)) (n m all k : ℕ) → ends ≡ fresh_tells channel all → all ≡ n + m → others ≡ drop n ends → k ≡ m → others ≡ tells_from channel n k
split_others channel ends others n m all k e sum is len =
    is ∙ ap (drop n) (e ∙ ap (fresh_tells channel) sum ∙ fresh_from channel (n + m)) ∙ others_from channel 0 n m ∙ ap (λ j. tells_from channel j m) (let z : 0 + n ≡ n = omega arith in z) ∙ ap (tells_from channel n) (sym len)

-- ---- one more new one

same_len : (channel : Channel Told) (p : ℕ) (ms : List Mark) (vs : List InputState) → AreNewInputs channel p ms vs → length ms ≡ length vs
same_len channel p [] [] all = refl
same_len channel p [] (v ∷ vs) all = absurd all
same_len channel p (m ∷ ms) [] all = absurd all
same_len channel p (m ∷ ms) (v ∷ vs) all = ap suc (same_len channel (p + 1) ms vs all.1)

pub inputs_push : (channel : Channel Told) (p : ℕ) (ms : List Mark) (vs : List InputState) (m : Mark) (v : InputState) → AreNewInputs channel p ms vs → IsNewInput channel (p + length ms) m v → AreNewInputs channel p (ms ++ m ∷ []) (vs ++ v ∷ [])
inputs_push channel p [] [] m v all one = (subst (λ k. IsNewInput channel k m v) (let e : p + 0 ≡ p = omega arith in e) one, tt)
inputs_push channel p [] (x ∷ vs) m v all one = absurd all
inputs_push channel p (k ∷ ms) [] m v all one = absurd all
inputs_push channel p (k ∷ ms) (x ∷ vs) m v all one = (all.0, inputs_push channel (p + 1) ms vs m v all.1 (subst (λ j. IsNewInput channel j m v) (let e : p + suc (length ms) ≡ p + 1 + length ms = omega arith in e) one))

pub inputs_next : (channel : Channel Told) (starts : List Mark) (vs gs : List InputState) (j k k' : ℕ) (d : Mark) (v : InputState) → gs ≡ vs ++ v ∷ [] → k ≡ length vs → j ≡ k → k' ≡ k + 1 → k < length starts → IsNewInput channel k (get_or starts j d) v
    → AreNewInputs channel 0 (take k starts) vs → AreNewInputs channel 0 (take k' starts) gs
inputs_next channel starts vs gs j k k' d v e len at next l new all =
    let same = same_len channel 0 (take k starts) vs all in
    let pushed = inputs_push channel 0 (take k starts) vs (get_or starts k d) v all (subst (λ n. IsNewInput channel n (get_or starts k d) v) (let z : k ≡ 0 + length (take k starts) = omega (arith, same, len) in z) (subst (λ n. IsNewInput channel k (get_or starts n d) v) at new)) in
    subst (λ g. AreNewInputs channel 0 (take k' starts) g) (sym e) (subst (λ ms. AreNewInputs channel 0 ms (vs ++ v ∷ [])) (sym (take_more starts k d l) ∙ ap (λ n. take n starts) (sym next)) pushed)

pub lanes_push : (channel : Channel Told) (p : ℕ) (vs : List LaneState) (v : LaneState) → AreNewLanes channel p vs → v ≡ new_lane channel (p + length vs) → AreNewLanes channel p (vs ++ v ∷ [])
lanes_push channel p [] v all one = (one ∙ ap (new_lane channel) (let e : p + 0 ≡ p = omega arith in e), tt)
lanes_push channel p (x ∷ vs) v all one = (all.0, lanes_push channel (p + 1) vs v all.1 (one ∙ ap (new_lane channel) (let e : p + suc (length vs) ≡ p + 1 + length vs = omega arith in e)))

-- ---- one more that is met

pub met_push : (taken : List (Notice Told)) (es : List (Option (TellEnd Told))) (e : Option (TellEnd Told)) → AllMet taken es → IsMet taken e → AllMet taken (es ++ e ∷ [])
met_push taken [] e all one = (one, tt)
met_push taken (x ∷ es) e all one = (all.0, met_push taken es e all.1 one)

pub puts_push : (vs : List InputState) (v : InputState) → AllPutOnly vs → names_in (said_at v.end) ≡ [] → AllPutOnly (vs ++ v ∷ [])
puts_push [] v all one = (one, tt)
puts_push (x ∷ vs) v all one = (all.0, puts_push vs v all.1 one)

pub tells_push : (vs : List LaneState) (v : LaneState) → AllTellOnly vs → TellsOnly v → AllTellOnly (vs ++ v ∷ [])
tells_push [] v all one = (one, tt)
tells_push (x ∷ vs) v all one = (all.0, tells_push vs v all.1 one)
