use Rattle.std.proofs.Common.{map, refl, subst, sym}
use Rattle.std.specs.Prelude.{string_bytes}
use Rattle.relay_resume.specs.Texts.{state_text}
use Rattle.relay_keeping.specs.Keepers.{Keeping}
use Rattle.relay_run.specs.Written.{GoesBy, MayWrite, Resuming, past_of}
use Rattle.relay_run.proofs.Writing.{goes_may}
use Rattle.relay_run.proofs.resuming.Resumed.write.Goals as goal

pub returns-in_err-replace-clause-goes : goal.returns-in_err-replace-clause-goes
returns-in_err-replace-clause-goes c =
    let k = c.args.marks.now in
    let i = c.self.inside in
    let r : Resuming = record { reads = record { producers = i.producers.items; files = map string_bytes i.files.value.items }; inputs = i.state.inputs; starts = i.starts.items; written = i.file } in
    let h : GoesBy k r = subst (GoesBy k) (sym c.self.view_is) c.requires in
    let may : MayWrite (state_text i.state) (past_of k) i.file c.replace.new.self = subst (λ (m : Keeping). MayWrite (state_text i.state) (past_of m) i.file c.replace.new.self) c.of.ensures c.replace.ensures.may in
    goes_may k r (record r { written = c.replace.new.self }) i.state refl may refl h

pub returns-clause-goes : goal.returns-clause-goes
returns-clause-goes c =
    let k = c.args.marks.now in
    let i = c.self.inside in
    let r : Resuming = record { reads = record { producers = i.producers.items; files = map string_bytes i.files.value.items }; inputs = i.state.inputs; starts = i.starts.items; written = i.file } in
    let h : GoesBy k r = subst (GoesBy k) (sym c.self.view_is) c.requires in
    let may : MayWrite (state_text i.state) (past_of k) i.file c.replace.new.self = subst (λ (m : Keeping). MayWrite (state_text i.state) (past_of m) i.file c.replace.new.self) c.of.ensures c.replace.ensures.may in
    goes_may k r (record r { written = c.replace.new.self }) i.state refl may refl h
