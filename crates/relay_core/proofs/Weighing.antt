-- What is gathered is within the limits of a batch, and its bytes are those of the text that is sent.
use Rattle.std.proofs.Common.{◌≡◌, List, [], ◌∷◌, length, refl, ap, ◌∙◌, inl, inr, arith, length-append}
use Rattle.std.specs.Prelude.{map}
use Rattle.std.proofs.lemmas.List.Sums.{sum_by-cons}
use Rattle.relay_ndjson.specs.Bulk.{write_text, text_of}
use Rattle.relay_batch.specs.declared.item.BatchItem.{BatchItem}
use Rattle.relay_batch.specs.Batches.{bytes_of}
use Rattle.relay_results.specs.Words.{Mem}
use Rattle.relay_delivery.specs.Machine.{write_of}
use Rattle.relay_delivery.specs.Lane.{Entry, writes_of_all}
use Rattle.relay_core.specs.Rule.{item_of}
use Rattle.relay_core.specs.State.{next_entries}
use Rattle.relay_core.specs.Flights.{RequestsKeepLimits}
use Rattle.relay_core.proofs.Flights.{earlier_ones_settled}
use Rattle.relay_core.proofs.Forming.{items_of_operations}
use Rattle.relay_core.proofs.Batched.{batch_kept}

-- ---- the bytes

bytes_are : (es : List Entry) → ((e : Entry) → Mem e es → e.bytes ≡ length (write_text (write_of e.held))) → bytes_of (map item_of es) ≡ length (text_of (writes_of_all es))
bytes_are [] h = refl
bytes_are (e ∷ es) h =
    let first = h e (inl refl) in
    let rest = bytes_are es (λ x m. h x (inr m)) in
    let sum = sum_by-cons (λ (x : BatchItem). x.bytes) (item_of e) (map item_of es) in
    let n = length-append (write_text (write_of e.held)) (text_of (writes_of_all es)) in
    omega (arith, first, rest, sum, n)

pub requests_keep_limits : RequestsKeepLimits
requests_keep_limits s items lane e = record {
  batch = batch_kept s items e;
  bytes = ap bytes_of (items_of_operations s items e) ∙ bytes_are (next_entries s) (λ x m. let may = earlier_ones_settled s x m in lane.weighed x may.held may.waits);
}
