-- What is written for a report names its operation.
use Rattle.std.proofs.Common.{◌≡◌, ◌^◌, ℕ, List, Bool, true, false, Some, None, refl, sym, ap, ◌∙◌, ◌==◌, arith, eqb-true}
use Rattle.std.specs.Prelude.{nat_lt}
use Rattle.serde_json.specs.Data.{object}
use Rattle.serde_json.proofs.OnLiterals.{serde_json_on_literals}
use Rattle.relay_results.specs.declared.cause.Cause.{Cause}
use Rattle.relay_results.specs.declared.cause.Cause.TheVariants as cause
use Rattle.relay_core.specs.declared.report.Report.{Report}
use Rattle.relay_report.specs.Reports.{report_data}
use Rattle.relay_report.specs.Laws.{CauseFits, ReportFits}
use Rattle.relay_report.specs.Naming.{name_of}
use Rattle.relay_report.proofs.Lines.{chain}

-- with no member for the epoch
read_back_bare : (epoch producer n : ℕ) (index id : List ℕ) (c : Cause) → nat_lt producer (2 ^ 32) ≡ true → CauseFits c → name_of (object (chain true epoch producer n index id c)) ≡ Some (record { epoch = 0; producer = producer; number = n })
unfolding serde_json_on_literals
read_back_bare epoch producer n index id (cause.Refused status kind None) p f = rw (f, p) refl
read_back_bare epoch producer n index id (cause.Refused status kind (Some reason)) p f = rw (f, p) refl
read_back_bare epoch producer n index id (cause.Request status None) p f = rw (f, p) refl
read_back_bare epoch producer n index id (cause.Request status (Some reason)) p f = rw (f, p) refl
read_back_bare epoch producer n index id (cause.Conflict None None) p f = rw p refl
read_back_bare epoch producer n index id (cause.Conflict None (Some reason)) p f = rw p refl
read_back_bare epoch producer n index id (cause.Conflict (Some stored) None) p f = rw p refl
read_back_bare epoch producer n index id (cause.Conflict (Some stored) (Some reason)) p f = rw p refl
read_back_bare epoch producer n index id (cause.GaveUp sends tried) p f = rw (f, p) refl
read_back_bare epoch producer n index id cause.Spent p f = rw p refl

read_back_epoch : (epoch producer n : ℕ) (index id : List ℕ) (c : Cause) → nat_lt epoch (2 ^ 32) ≡ true → nat_lt producer (2 ^ 32) ≡ true → CauseFits c → name_of (object (chain false epoch producer n index id c)) ≡ Some (record { epoch = epoch; producer = producer; number = n })
unfolding serde_json_on_literals
read_back_epoch epoch producer n index id (cause.Refused status kind None) e p f = rw (f, e, p) refl
read_back_epoch epoch producer n index id (cause.Refused status kind (Some reason)) e p f = rw (f, e, p) refl
read_back_epoch epoch producer n index id (cause.Request status None) e p f = rw (f, e, p) refl
read_back_epoch epoch producer n index id (cause.Request status (Some reason)) e p f = rw (f, e, p) refl
read_back_epoch epoch producer n index id (cause.Conflict None None) e p f = rw (e, p) refl
read_back_epoch epoch producer n index id (cause.Conflict None (Some reason)) e p f = rw (e, p) refl
read_back_epoch epoch producer n index id (cause.Conflict (Some stored) None) e p f = rw (e, p) refl
read_back_epoch epoch producer n index id (cause.Conflict (Some stored) (Some reason)) e p f = rw (e, p) refl
read_back_epoch epoch producer n index id (cause.GaveUp sends tried) e p f = rw (f, e, p) refl
read_back_epoch epoch producer n index id cause.Spent e p f = rw (e, p) refl

read_back_by : (zero : Bool) (epoch producer n : ℕ) (index id : List ℕ) (c : Cause) → (epoch == 0) ≡ zero → nat_lt epoch (2 ^ 32) ≡ true → nat_lt producer (2 ^ 32) ≡ true → CauseFits c → name_of (object (chain zero epoch producer n index id c)) ≡ Some (record { epoch = epoch; producer = producer; number = n })
read_back_by true epoch producer n index id c z e p f =
    let none : epoch ≡ 0 = omega (arith, eqb-true epoch 0 z) in
    read_back_bare epoch producer n index id c p f ∙ ap (λ (k : ℕ). Some (record { epoch = k; producer = producer; number = n })) (sym none)
read_back_by false epoch producer n index id c z e p f = read_back_epoch epoch producer n index id c e p f

pub name_read_back : (r : Report) → ReportFits r → name_of (report_data r) ≡ Some r.name
name_read_back r f = read_back_by (r.name.epoch == 0) r.name.epoch r.name.producer r.name.number r.key.index r.key.id r.cause refl f.0 f.1 f.2
