use Rattle.std.proofs.Common.{inr, arith, length, ◌≡◌}
use Rattle.std.proofs.lemmas.Grind.{common_steps}
use Rattle.relay_ndjson.specs.Metadata.{bytes_given}
use Rattle.relay_front.proofs.Reading.{nothing_read, part_read, counted, broken_after, empty, nil_of, none_of}
use Rattle.relay_front.proofs.lines.read_operations.Goals as goal

pub parts-init : goal.parts-init
parts-init g c = rw (c.new.ensures.items, c.new-2.ensures.items) (let none = nothing_read (bytes_given c.args.default) c.args.body.now in record { read = none.0; counted = none.1 })

pub parts-preserved : goal.parts-preserved
parts-preserved g c =
    let more = part_read (bytes_given c.args.default) c.args.body.now c.parts.rest.now c.in-Ok.taken.0.now c.in-Ok.taken.1 c.parts.operations c.take_part-part.new.operations c.parts.invariant.read c.in-Ok.ensures.ok in
    record { read = more.0; counted = rw c.saturating_add-lines.ensures (counted c.parts.lines c.in-Ok.taken.1 (length c.parts.invariant.read.lines) (length more.0.lines) c.parts.invariant.counted more.1) }

pub returns-in-Err-clause-err : goal.returns-in-Err-clause-err
returns-in-Err-clause-err g c =
    broken_after (bytes_given c.args.default) c.args.body.now c.parts.rest.now c.parts.operations.items.items c.parts.operations.writes.items c.parts.lines c.in-Err.unread c.after_lines.result c.parts.invariant.read c.parts.invariant.counted c.in-Err.ensures.err
    c.after_lines.ensures

pub returns-then-is_empty-clause-err : goal.returns-then-is_empty-clause-err
returns-then-is_empty-clause-err g c =
    let ended : length c.parts.rest.now ≡ 0 = grind (arith, common_steps, c.parts-test.false, c.is_empty.ensures) in
    let none : length c.parts.operations.items.items ≡ 0 = grind (arith, common_steps, c.if-is_empty.true, c.is_empty-2.ensures) in
    inr (_, c.fault_at.ensures, empty (bytes_given c.args.default) c.args.body.now c.parts.rest.now c.parts.operations.items.items c.parts.operations.writes.items c.parts.lines c.parts.invariant.read c.parts.invariant.counted (nil_of c.parts.rest.now ended) (none_of c.parts.operations.items.items none))
