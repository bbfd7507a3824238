use Rattle.std.proofs.Common.{subst, sym, refl}
use Rattle.relay_ndjson.specs.Metadata.{bytes_given}
use Rattle.relay_sift.specs.declared.lines.FirstLine.TheVariants as first
use Rattle.relay_sift.specs.Fronts.{IsFront}
use Rattle.relay_sift.proofs.Portions.{front_source_long, front_open, second_within, at_rest}
use Rattle.relay_sift.proofs.front.with_source.Goals as goal

pub returns-in-Long : goal.returns-in-Long
returns-in-Long c =
    let second = at_rest c.args.bytes.now c.args.ended c.args.end first.Long c.requires.bound (rw c.in-Long.is at c.first_line.ensures) in
    let d = bytes_given c.args.default_index in
    subst (IsFront d c.args.count c.args.bytes.now c.args.ended) (sym c.source_long.ensures)
    (front_source_long d c.args.count c.args.bytes.now c.args.ended c.args.end c.args.own c.requires.first c.requires.judged second)

pub returns-in-Absent : goal.returns-in-Absent
returns-in-Absent c =
    let second = at_rest c.args.bytes.now c.args.ended c.args.end first.Absent c.requires.bound (rw c.in-Absent.is at c.first_line.ensures) in
    let d = bytes_given c.args.default_index in
    subst (IsFront d c.args.count c.args.bytes.now c.args.ended) (sym c.unfinished.ensures)
    (front_open d c.args.count c.args.bytes.now c.args.ended c.args.end c.args.own _ c.requires.first c.requires.judged second refl)

pub with_whole-requires-clause-bound : goal.with_whole-requires-clause-bound
with_whole-requires-clause-bound c =
    let second = at_rest c.args.bytes.now c.args.ended c.args.end (first.Whole c.in-Whole.source) c.requires.bound (rw c.in-Whole.is at c.first_line.ensures) in
    second_within c.args.bytes.now c.args.ended c.args.end c.in-Whole.source c.requires.bound second

pub with_whole-requires-clause-second : goal.with_whole-requires-clause-second
with_whole-requires-clause-second c =
    at_rest c.args.bytes.now c.args.ended c.args.end (first.Whole c.in-Whole.source) c.requires.bound (rw c.in-Whole.is at c.first_line.ensures)
