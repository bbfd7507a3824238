-- A request looks at no more than one operation of each document held.
use Rattle.std.proofs.Common.{◌≡◌, ℕ, ◌+◌, ◌≤◌, List, [], ◌∷◌, refl, sym, ap, ◌∙◌, arith}
use Rattle.std.specs.Prelude.{map}
use Rattle.relay_action.specs.declared.write.Write.{Write}
use Rattle.relay_results.specs.Documents.{document_of}
use Rattle.relay_delivery.specs.Machine.{Held}
use Rattle.relay_delivery.specs.Lane.{held_of}
use Rattle.relay_held.specs.declared.kept.Kept.{Kept}
use Rattle.relay_held.specs.Queues.{distinct, documents}
use Rattle.relay_core.specs.declared.lane.Lane.TheInside.{Inside}
use Rattle.relay_core.specs.State.{Seen, looks_after}
use Rattle.relay_core.specs.Memory.{entries, writes_in}
use Rattle.relay_core.specs.View.{view_of}

documents_seen : (f : ℕ → List Write) (hs : List Kept) → map (λ (h : Held). document_of h.op.key) (held_of (entries hs f)) ≡ documents hs
documents_seen f [] = refl
documents_seen f (h ∷ hs) = ap (λ ds. document_of h.key ∷ ds) (documents_seen f hs)

-- at most one more look at each
pub looked_most : (i : Inside) (now : Seen) (looks : ℕ) → view_of i ≡ now → looks ≤ i.held.looks + distinct (documents i.held.list) → looks ≤ looks_after now
looked_most i now looks view le =
    let same : i.held.looks + distinct (documents i.held.list) ≡ looks_after now = ap (λ ds. i.held.looks + distinct ds) (sym (documents_seen (writes_in i.flight.requests) i.held.list)) ∙ ap looks_after view in
    omega (arith, le, same)
