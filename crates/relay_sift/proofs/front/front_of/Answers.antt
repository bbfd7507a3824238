use Rattle.std.proofs.Common.{subst, sym}
use Rattle.relay_ndjson.specs.Metadata.{bytes_given}
use Rattle.relay_sift.specs.Fronts.{IsFront}
use Rattle.relay_sift.proofs.Portions.{front_long, front_lost, front_alone, first_within, taken_length}
use Rattle.relay_sift.proofs.front.front_of.Goals as goal

pub returns-in-Long : goal.returns-in-Long
returns-in-Long c =
    let d = bytes_given c.args.default_index in
    subst (IsFront d c.args.count c.args.bytes.now c.args.ended) (sym c.long.ensures)
    (front_long d c.args.count c.args.bytes.now c.args.ended (rw c.in-Long.is at c.first_line.ensures))

pub slice_bounds-line_text-end : goal.slice_bounds-line_text-end
slice_bounds-line_text-end c =
    taken_length c.in-Whole.end c.args.bytes.now (first_within c.args.bytes.now c.args.ended c.in-Whole.end (rw c.in-Whole.is at c.first_line.ensures))

pub with_source-requires-clause-bound : goal.with_source-requires-clause-bound
with_source-requires-clause-bound c = first_within c.args.bytes.now c.args.ended c.in-Whole.end (rw c.in-Whole.is at c.first_line.ensures)

pub returns-in-Lost : goal.returns-in-Lost
returns-in-Lost c =
    let first = rw c.in-Whole.is at c.first_line.ensures in
    let judged = rw c.in-Lost.is at c.in_ok-kind.ensures in
    let text = rw c.line_text.ensures at judged in
    let d = bytes_given c.args.default_index in
    subst (IsFront d c.args.count c.args.bytes.now c.args.ended) (sym c.lost.ensures) (front_lost d c.args.count c.args.bytes.now c.args.ended c.in-Whole.end c.in-Lost.kind first text)

pub returns-in-Alone : goal.returns-in-Alone
returns-in-Alone c =
    let d = bytes_given c.args.default_index in
    let first = rw c.in-Whole.is at c.first_line.ensures in
    let judged = rw c.in-Alone.is at c.in_ok-kind.ensures in
    let text = rw c.line_text.ensures at judged in
    subst (IsFront d c.args.count c.args.bytes.now c.args.ended) (sym c.alone.ensures) (front_alone d c.args.count c.args.bytes.now c.args.ended c.in-Whole.end c.in-Alone.own first text)
