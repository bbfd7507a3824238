use Rattle.std.proofs.Common.{◌≡◌, ◌+◌, length, ap, sym, inl, ◌∙◌, arith, vec_len}
use Rattle.std.proofs.lemmas.List.{with_items_is}
use Rattle.relay_serve.specs.Batches.{each_noted, only_of}
use Rattle.relay_serve.proofs.Noting.{only_none}
use Rattle.relay_serve.proofs.batch.Batch.note.Goals as goal

pub returns-then-note_at-clause-noted : goal.returns-then-note_at-clause-noted
returns-then-note_at-clause-noted c =
    let batch = c.args.self.now in
    let a = c.in-Some.ensures in
    let b = c.in-Ok.ensures in
    let e : batch.first + c.in-Ok.place ≡ c.args.number = omega (arith, a.0, a.1, b.1) in
    let len : length c.note_at.new.items ≡ vec_len batch.items = omega (arith, c.note_at.auto.items, c.as_mut_slice.ensures.len) in
    with_items_is batch.items c.note_at.new.items len ∙ c.note_at.ensures batch.first
    ∙ ap (λ m. each_noted (only_of m c.args.end) batch.first c.as_mut_slice.result.now) e ∙ ap (each_noted (only_of c.args.number c.args.end) batch.first) c.as_mut_slice.ensures.value

pub returns-else-note_at-clause-noted : goal.returns-else-note_at-clause-noted
returns-else-note_at-clause-noted c =
    let batch = c.args.self.now in
    let a = c.in-Some.ensures in
    let b = c.in-Ok.ensures in
    let e : batch.first + c.in-Ok.place ≡ c.args.number = omega (arith, a.0, a.1, b.1) in
    let len : length c.note_at.new.items ≡ vec_len batch.items = omega (arith, c.note_at.auto.items, c.as_mut_slice.ensures.len) in
    with_items_is batch.items c.note_at.new.items len ∙ c.note_at.ensures batch.first
    ∙ ap (λ m. each_noted (only_of m c.args.end) batch.first c.as_mut_slice.result.now) e ∙ ap (each_noted (only_of c.args.number c.args.end) batch.first) c.as_mut_slice.ensures.value

pub returns-in_default-clause-noted : goal.returns-in_default-clause-noted
returns-in_default-clause-noted c =
    let batch = c.args.self.now in
    sym (only_none c.args.number c.args.end batch.first batch.items.items (inl (omega (arith, c.in_default.ensures))))
