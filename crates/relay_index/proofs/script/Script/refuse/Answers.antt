use Rattle.std.proofs.Common.{◌≡◌, ◌∙◌, ◌==◌, Some, Option, option_map, Bool, true, false, refl, ap, cond}
use Rattle.std.specs.Prelude.{if◌then◌else◌}
use Rattle.relay_index.specs.declared.refusal.Refusal.{Refusal}
use Rattle.relay_index.proofs.script.Script.refuse.Goals as goal

-- the status of the one or the other
status_of_choice : (b : Bool) (r : Refusal) (other : Option Refusal)
    → option_map (λ (x : Refusal). x.status) (cond b (Some r) other) ≡ (if b then Some r.status else option_map (λ (x : Refusal). x.status) other)
status_of_choice true r other = refl
status_of_choice false r other = refl

pub returns-clause-refused : goal.returns-clause-refused
returns-clause-refused c = λ p.
    rw (← c.self.view_is)
    (ap (option_map (λ (x : Refusal). x.status)) (c.in_ok-insert.ensures.updates.0 p) ∙ status_of_choice (c.args.place == p) _ _)
