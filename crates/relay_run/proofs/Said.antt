-- What was written is said, or a call failed.
use Rattle.std.proofs.Common.{◌≡◌, ℕ, List, [], Bool, true, false, IsTrue, Result, Ok, Err, IfOk, inl, inr, refl, sym, ap, subst, ◌∙◌}
use Rattle.std.specs.Io.KnownBytes.{append_known}
use Rattle.std.specs.declared.alloc.AllocError.{AllocError}
use Rattle.relay_action.specs.Streams.{FailedSince}
use Rattle.relay_words.specs.declared.exit.Exit.{Exit}
use Rattle.relay_core.specs.declared.report.Report.{Report}
use Rattle.relay_threads.specs.declared.fault.FinishFault.{FinishFault}
use Rattle.relay_threads.specs.declared.summary.Summary.{Summary}
use Rattle.relay_run.specs.Faults.{worse}
use Rattle.relay_run.specs.Outcomes.{finish_fault_text}
use Rattle.relay_run.specs.Saying.{Written, IsSaid, exit_of_finish, SaysSummary, Concludes}

pub is_said : (text : List ℕ) (old new : Written) (b : Bool) → (IsTrue b → (new.0 ≡ append_known old.0 text) × (new.1 ≡ old.1)) → (b ≡ false → FailedSince old.1 new.1) → IsSaid text old new
is_said text old new true all failed = inr (all refl)
is_said text old new false all failed = inl (failed refl)

-- the faults of the files, and then that of the relay
pub concludes_fault : {W : Type 0} (done : List ℕ) (text : List ℕ) (before other : Exit) (r : Result (Summary W) FinishFault) (f : FinishFault) (reports : List Report) (out now err mid after : Written) (end : Exit)
    → r ≡ Err f → IsSaid text err mid → other ≡ before → now ≡ out → IsSaid (finish_fault_text f) mid after → end ≡ worse other (exit_of_finish f.kind) → reports ≡ []
    → Concludes done text before r reports out now err after end
concludes_fault done text before other r f reports out now err mid after end is first b same second e none =
    subst (λ x. Concludes done text before x reports out now err after end) (sym is) (mid, first, second, same, e ∙ ap (λ x. worse x (exit_of_finish f.kind)) b, none)

-- the faults of the files, and then the summary
pub concludes_summary : {W V : Type 0} (items : V → List Report) (done : List ℕ) (text : List ℕ) (before other : Exit) (e : Result (Summary W) FinishFault) (summary : Summary W) (out now err mid after : Written) (r : Result (Exit × V) AllocError)
    → e ≡ Ok summary → IsSaid text err mid → other ≡ before → IfOk r (λ x. SaysSummary done summary.lanes.items (items x.1) other out now mid after x.0)
    → IfOk r (λ x. Concludes done text before e (items x.1) out now err after x.0)
concludes_summary items done text before other e summary out now err mid after (Err x) is first b second = tt
concludes_summary items done text before other e summary out now err mid after (Ok x) is first b second =
    subst (λ y. Concludes done text before y (items x.1) out now err after x.0) (sym is)
    (mid, first, subst (λ y. SaysSummary done summary.lanes.items (items x.1) y out now mid after x.0) b second)
