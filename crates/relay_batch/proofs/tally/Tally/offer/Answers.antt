use Rattle.std.proofs.Common.{◌∙◌, sym, ap}
use Rattle.std.specs.Prelude.{if◌then◌else◌}
use Rattle.relay_batch.specs.declared.offer.Offer.TheVariants.{Closed, Added}
use Rattle.relay_batch.specs.Tallies.{is_closed_to, bytes_with, with_tallied}
use Rattle.relay_batch.proofs.Added.{fits_then}
use Rattle.relay_batch.proofs.Tallying.{offered, closed_then}
use Rattle.relay_batch.proofs.tally.Tally.offer.Goals as goal

pub returns-clause-as_batch : goal.returns-clause-as_batch
returns-clause-as_batch c =
    let item = c.args.item in
    let old = c.args.self.now in
    let fits = fits_then (is_closed_to item old) (bytes_with item.bytes old) c.in-Some.total c.fits.result c.fits.ensures c.in-Some.is in
    offered item old c.add.new.self Added
    (sym (ap (λ b. if b then Closed else Added) fits.0))
    (sym (ap (λ b. if b then old else c.add.new.self) fits.0) ∙ ap (λ t. if is_closed_to item old then old else t) c.add.ensures)

pub returns-in_default-clause-as_batch : goal.returns-in_default-clause-as_batch
returns-in_default-clause-as_batch c =
    let item = c.args.item in
    let old = c.args.self.now in
    let closed = closed_then (is_closed_to item old) (bytes_with item.bytes old) c.fits.result c.fits.ensures c.in_default.is in
    offered item old old Closed
    (sym (ap (λ b. if b then Closed else Added) closed))
    (sym (ap (λ b. if b then old else with_tallied item old) closed))
