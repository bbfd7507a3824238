-- What the definitions rule out.
use Rattle.std.proofs.Common.{◌≡◌, ◌∙◌, ℕ, arith, inl, inr, [], Option, Some, None, Bool, true, false, refl, ap, sym}
use Rattle.std.specs.Prelude.{is_some, not, ◌&&◌, nat_le, nat_lt, if◌then◌else◌}
use Rattle.relay_action.specs.declared.write.Write.{Write}
use Rattle.relay_results.specs.Documents.{document_of}
use Rattle.relay_results.specs.Outside.{RunOutcome, IsRefusal, IsOutcomeOf, is_above, is_applied, stored_in}
use Rattle.relay_results.specs.Laws.{RefusedWhateverSent, MayAlwaysRun, NotAppliedAgain, StatesWhatIsStored}
use Rattle.relay_results.specs.declared.outcome.ErrorDetail.{ErrorDetail}
use Rattle.relay_results.specs.declared.decide.ItemVerdict.{ItemVerdict}
use Rattle.relay_results.specs.declared.decide.ItemVerdict.TheVariants as verdict
use Rattle.relay_results.specs.Verdicts.{is_2xx, is_absent, is_conflict, is_retried_item}
use Rattle.relay_results.proofs.Lists.{apart_tests}

-- the table, by its tests
abbrev pub by_lines : Bool → Bool → Bool → Bool → Bool → Bool → ItemVerdict
by_lines success absent conflict busy repeated left =
    if success then verdict.Applied else if absent then verdict.Applied
    else if conflict && repeated then verdict.Already else if conflict then verdict.Conflict
    else if busy && left then verdict.Retry else if busy then verdict.GaveUp else verdict.Refused

by_tests : (success absent conflict busy r l s t : Bool) → by_lines success absent conflict busy r l ≡ verdict.Refused → by_lines success absent conflict busy s t ≡ verdict.Refused
by_tests true absent conflict busy r l s t e = cc
by_tests false true conflict busy r l s t e = cc
by_tests false false true busy true l s t e = cc
by_tests false false true busy false l s t e = cc
by_tests false false false true r true s t e = cc
by_tests false false false true r false s t e = cc
by_tests false false false false r l s t e = refl

pub refused_whatever : RefusedWhateverSent
refused_whatever kind status has_error own sends attempts max e o s a m =
    by_tests (not has_error && is_2xx status) (not has_error && is_absent kind status) (is_conflict status) (is_retried_item status)
    (nat_le 2 sends && own) (nat_lt attempts max) (nat_le 2 s && o) (nat_lt a m) e

-- ---- runs

pub with_error : (w : Write) (o : RunOutcome) → is_some o.error ≡ true → is_applied w o ≡ false
with_error w o e = rw e refl

refusals_differ : (o : RunOutcome) → o.error ≡ None → IsRefusal o → ⊥
refusals_differ o e r = apart_tests (sym (ap is_some e) ∙ r.has_error)

succeeds : (w : Write) → is_applied w (record { status = 200; error = None }) ≡ true
succeeds w = refl

stated_error : (error : Option ErrorDetail) (version : ℕ) → stored_in error ≡ Some version → is_some error ≡ true
stated_error None version e = absurd (cc)
stated_error (Some d) version e = refl

pub states_stored : StatesWhatIsStored
states_stored stored w o (inl refused) conflict version e = absurd (refused.no_conflict conflict)
states_stored stored w o (inr (inl applied)) conflict version e = absurd (apart_tests (sym (with_error w o (stated_error o.error version e)) ∙ applied.1))
states_stored stored w o (inr (inr met)) conflict version e = met.1.stated version e

-- an error of which nothing is said
abbrev nothing_said : ErrorDetail
nothing_said = record { kind = []; reason = None; stored = None }

open_run : (stored : Option ℕ) (w : Write) (above : Bool) → is_above stored w.version ≡ above → (o : RunOutcome) × IsOutcomeOf stored w o × (IsRefusal o → ⊥)
open_run stored w true e = (record { status = 200; error = None }, inr (inl (e, succeeds w)), λ r. apart_tests r.has_error)
open_run stored w false e = (
  record { status = 409; error = Some nothing_said },
  inr (inr (e, record { status = refl; has_error = refl; stated = λ version is. absurd (cc) })),
  λ r. r.no_conflict refl,
)

pub may_always_run : MayAlwaysRun
may_always_run s number place w h =
    let run = open_run (s.stored (document_of w.key)) w (is_above (s.stored (document_of w.key)) w.version) refl in
    (run.0, record { write = w; sent = h; outcome = run.1 }, run.2)

pub not_applied_again : NotAppliedAgain
not_applied_again w stored o h run =
    let low : nat_lt stored w.version ≡ false = grind (arith, h) in
    elim run [
      | inl refused ↦ with_error w o refused.has_error
      | inr rest ↦ elim rest [
        | inl applied ↦ absurd (apart_tests (sym low ∙ applied.0))
        | inr conflict ↦ with_error w o conflict.1.has_error
      ]
    ]
