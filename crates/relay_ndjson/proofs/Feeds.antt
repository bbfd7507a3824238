-- The position of the last line feed of a piece.
use Rattle.std.proofs.Common.{◌≡◌, ◌↔◌, ℕ, ◌+◌, ◌-◌, ◌<◌, ◌≤◌, List, length, take, drop, get_or, ap, sym, ◌∙◌, arith, inl, inr}
use Rattle.std.proofs.lemmas.Grind.{common_steps}
use Rattle.std.proofs.lemmas.List.{get_or-take, get_or-drop}
use Rattle.relay_ndjson.specs.Lines.{EndsLinesAt, HoldsFeedFrom}
use Rattle.relay_ndjson.proofs.Totality.{decide_le}

-- a byte of a range
at_range : (bytes : List ℕ) (from to k : ℕ) → k < to - from → get_or (take (to - from) (drop from bytes)) k 0 ≡ get_or bytes (from + k) 0
at_range bytes from to k h = get_or-take (to - from) (drop from bytes) k 0 h ∙ get_or-drop from bytes k 0

length-range : (bytes : List ℕ) (from to : ℕ) → to ≤ length bytes → length (take (to - from) (drop from bytes)) ≡ to - from
length-range bytes from to h = grind (arith, common_steps, h)

-- a line feed is in the rest of a range exactly if the last one is
pub feed_from : (bytes : List ℕ) (from to ends start : ℕ) → to ≤ length bytes → EndsLinesAt ends to bytes → (start < ends - from) ↔ HoldsFeedFrom start (take (to - from) (drop from bytes))
feed_from bytes from to ends start h e =
    let count = length-range bytes from to h in (
      λ low.
          let inside : ends - 1 - from < to - from = omega (arith, low, e.0) in
          let back : from + (ends - 1 - from) ≡ ends - 1 = omega (arith, low) in (
            ends - 1 - from,
            omega (arith, low),
            omega (arith, inside, count),
            at_range bytes from to (ends - 1 - from) inside ∙ (ap (λ k. get_or bytes k 0) back ∙ e.1 (omega (arith, low))),
          ),
      λ f.
          let inside : f.0 < to - from = omega (arith, f.2, count) in
          elim (decide_le ends (from + f.0)) [
            | inl past ↦ absurd (e.2 (from + f.0) past (omega (arith, inside)) (sym (at_range bytes from to f.0 inside) ∙ f.3))
            | inr before ↦ omega (arith, before, f.1)
          ],
    )
