-- The lines of writes, appended write by write.
use Rattle.std.proofs.Common.{◌≡◌, ℕ, ◌+◌, ◌<◌, ◌≤◌, List, ◌++◌, length, take, get_or, ap, sym, ◌∙◌, arith, append_assoc}
use Rattle.std.proofs.lemmas.Grind.{common_steps}
use Rattle.relay_action.specs.declared.write.Write.{Write}
use Rattle.relay_ndjson.specs.Bulk.{write_text, text_of}

lines_more : (ws : List Write) (i : ℕ) (w : Write) → i < length ws → w ≡ get_or ws i w → text_of (take (i + 1) ws) ≡ text_of (take i ws) ++ write_text w
lines_more ws i w h is = grind (arith, common_steps)

-- those of one more write
pub one_appended : (before text after : List ℕ) (ws : List Write) (i : ℕ) (w : Write) → i < length ws → w ≡ get_or ws i w
    → text ≡ before ++ text_of (take i ws) → after ≡ text ++ write_text w → after ≡ before ++ text_of (take (i + 1) ws)
one_appended before text after ws i w h is e f =
    f ∙ ap (λ t. t ++ write_text w) e ∙ append_assoc before (text_of (take i ws)) (write_text w) ∙ ap (λ t. before ++ t) (sym (lines_more ws i w h is))

-- and of all
pub all_appended : (before text : List ℕ) (ws : List Write) (i : ℕ) → length ws ≤ i → text ≡ before ++ text_of (take i ws) → text ≡ before ++ text_of ws
all_appended before text ws i h e =
    let all : take i ws ≡ ws = grind (arith, common_steps) in
    e ∙ ap (λ t. before ++ text_of t) all
