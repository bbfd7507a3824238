use Rattle.std.proofs.Common.{◌≡◌, length, arith, inl, inr, subst, sym, List, ℕ}
use Rattle.std.proofs.lemmas.Grind.{common_steps}
use Rattle.relay_ndjson.specs.Bodies.{IsBulk}
use Rattle.relay_ndjson.proofs.Bodies.{lines_within, nothing_read, read_more, all_read, read_broken}
use Rattle.relay_ndjson.proofs.Fronts.{nil_of}
use Rattle.relay_ndjson.proofs.OneBody.{one_bulk, no_fault_in_bulk}
use Rattle.relay_ndjson.proofs.Written.{bulk_text_is_bulk}
use Rattle.relay_ndjson.proofs.body.read_bulk.Goals as goal

pub prove-unreachable-requires : goal.prove-unreachable-requires
prove-unreachable-requires c =
    let within = lines_within c.args.body.now c.writes.rest.now c.writes.writes.items c.writes.lines c.writes.invariant in
    grind (arith, common_steps, within, c.writes-test.true, c.is_empty.ensures, c.if-prove.true)

pub writes-preserved : goal.writes-preserved
writes-preserved c =
    let more = read_more c.args.body.now c.writes.rest.now c.in-Ok.taken.1.now c.writes.writes.items c.in-Ok.taken.0 c.writes.lines c.writes.invariant c.in-Ok.ensures.ok in
    rw (c.in-Ok-push.ensures.items, c.line_count-count.ensures) more

pub returns-in-Err-clause-round_trip : goal.returns-in-Err-clause-round_trip
returns-in-Err-clause-round_trip c =
    λ ws dealt same.
    elim c.in-Err.ensures.err [
      | inl memory ↦ memory
      | inr breaks ↦
          absurd (no_fault_in_bulk c.args.body.now ws _ c.in-Err.fault.kind (subst (λ (bytes : List ℕ). IsBulk bytes ws) (sym same) (bulk_text_is_bulk ws dealt)) (read_broken c.args.body.now c.writes.rest.now c.writes.writes.items c.writes.lines c.in-Err.fault.line c.in-Err.fault.kind c.writes.invariant breaks))
    ]

pub returns-clause-round_trip : goal.returns-clause-round_trip
returns-clause-round_trip c =
    let none : length c.writes.rest.now ≡ 0 = grind (arith, common_steps, c.writes-test.false, c.is_empty.ensures) in
    let all = all_read c.args.body.now c.writes.rest.now c.writes.writes.items c.writes.lines c.writes.invariant (nil_of c.writes.rest.now none) in
    λ ws dealt same.
    one_bulk c.args.body.now c.writes.writes.items ws all (subst (λ (bytes : List ℕ). IsBulk bytes ws) (sym same) (bulk_text_is_bulk ws dealt))

pub writes-init : goal.writes-init
writes-init c = rw c.new-writes.ensures.items (nothing_read c.args.body.now)

pub returns-in-Err-clause-err : goal.returns-in-Err-clause-err
returns-in-Err-clause-err c =
    elim c.in-Err.ensures.err [
      | inl memory ↦ inl memory
      | inr breaks ↦ inr (read_broken c.args.body.now c.writes.rest.now c.writes.writes.items c.writes.lines c.in-Err.fault.line c.in-Err.fault.kind c.writes.invariant breaks)
    ]
