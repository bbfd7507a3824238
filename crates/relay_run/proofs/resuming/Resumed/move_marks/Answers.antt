use Rattle.std.proofs.Common.{map, refl, subst, sym, ◌∙◌}
use Rattle.std.specs.Prelude.{string_bytes}
use Rattle.relay_run.specs.Written.{GoesBy, Resuming, StillRead}
use Rattle.relay_run.proofs.Writing.{goes_moved, still_same}
use Rattle.relay_run.proofs.resuming.Resumed.move_marks.Goals as goal

pub returns-clause-goes : goal.returns-clause-goes
returns-clause-goes c =
    let old = c.args.marks.now in
    let new = c.move_all-stay.new.marks in
    let i = c.self.inside in
    let r : Resuming = record { reads = record { producers = i.producers.items; files = map string_bytes i.files.value.items }; inputs = i.state.inputs; starts = i.starts.items; written = i.file } in
    let h : GoesBy old r = subst (GoesBy old) (sym c.self.view_is) c.requires in
    let still : StillRead r.reads.producers old new r.inputs c.of.result =
    still_same c.deref.result.now i.producers.items old new c.into_vec-inputs.result.items i.state.inputs c.move_all-stay.new.inputs.items c.of.result c.deref.ensures.value (c.into_vec-inputs.ensures ∙ c.replace.ensures.value) (sym c.of.ensures)
    c.move_all-stay.ensures.read in
    goes_moved old new r (record r { inputs = c.of.result }) c.move_all-stay.ensures.marks still refl h
