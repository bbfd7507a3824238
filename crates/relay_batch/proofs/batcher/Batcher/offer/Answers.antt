use Rattle.std.proofs.Common.{◌≡◌, ◌∙◌, ap, sym, subst}
use Rattle.std.specs.Prelude.{map, nat_eq}
use Rattle.relay_batch.specs.declared.item.BatchItem.{BatchItem}
use Rattle.relay_batch.specs.declared.item.Limits.{Limits}
use Rattle.relay_batch.specs.declared.tally.Tally.{Tally}
use Rattle.relay_batch.specs.Batches.{IsBatch}
use Rattle.indexmap.specs.IndexSet.{insert_key}
use Rattle.relay_batch.specs.Gathering.{Gathering, holds_document, passes_count, passes_bytes}
use Rattle.relay_batch.specs.Tallies.{tally_of, is_closed_to, bytes_with, with_tallied}
use Rattle.relay_batch.proofs.Documents.{set_of_more}
use Rattle.relay_batch.proofs.Added.{batch_more, fits_then, or_none}
use Rattle.relay_batch.proofs.Tallying.{tally_more}
use Rattle.relay_batch.proofs.batcher.Batcher.offer.Goals as goal

pub invariant_of-self-2 : goal.invariant_of-self-2
invariant_of-self-2 c =
    let i = c.self.inside in
    let item = c.args.item in
    let g : Gathering = record { limits = i.tally.limits; items = i.held.items } in
    let pushed = c.in_ok-push.ensures.items in
    let absent = ap (λ (x : Gathering). holds_document item.doc x.items) c.self.view_is ∙ sym c.holds.ensures ∙ c.if-holds.false in
    let fits = fits_then (is_closed_to item i.tally) (bytes_with item.bytes i.tally) c.in-Some.total c.fits.result c.fits.ensures c.in-Some.is in
    let few = or_none (passes_count g item.cap) (passes_bytes g item.bytes) (ap (is_closed_to item) (sym c.self.invariant.tally) ∙ fits.0) in
    let added = c.add.ensures ∙ ap (with_tallied item) c.self.invariant.tally ∙ sym (tally_more g item) in
    let limits : c.add.new.self.limits ≡ i.tally.limits = ap (λ (t : Tally). t.limits) added in
    record {
      batch = subst (λ (l : Limits). IsBatch l c.push.new.self.items) (sym limits) (subst (IsBatch i.tally.limits) (sym pushed) (batch_more g item absent few.0 few.1 c.self.invariant.batch));
      tally = added ∙ (let back = sym limits in let same = sym pushed in λ j. tally_of (record { limits = back j; items = same j }));
      documents = c.note.ensures ∙ ap (λ ks. insert_key nat_eq ks item.doc) c.in_ok-reserve.ensures.keys ∙ set_of_more i.held.items item i.documents.keys c.self.invariant.documents absent ∙ ap (map (λ (x : BatchItem). x.doc)) (sym pushed);
    }
