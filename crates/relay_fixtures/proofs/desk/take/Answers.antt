use Rattle.std.proofs.Common.{◌≡◌, ℕ, refl, ap, ◌∙◌}
use Rattle.relay_action.specs.declared.mail.Body.{Body}
use Rattle.relay_action.specs.declared.mail.Body.TheVariants as body
use Rattle.relay_core.specs.State.{State, Seen, after_take}
use Rattle.relay_lane.specs.Out.{out_of}
use Rattle.relay_lane.proofs.Out.{take_keeps_out}
use Rattle.relay_fixtures.proofs.desk.take.Goals as goal

take_config : (s : State) (sender : ℕ) (b : Body) → (after_take s sender b).config ≡ s.config
take_config s sender (body.Put o) = refl
take_config s sender body.Tick = refl
take_config s sender body.Flush = refl
take_config s sender body.Done = refl

pub returns-in-Err-clause-out : goal.returns-in-Err-clause-out
returns-in-Err-clause-out c = ap (λ (v : Seen). out_of v.state) c.in-Err.ensures.unchanged

pub returns-clause-out : goal.returns-clause-out
returns-clause-out c = ap out_of c.in_default.ensures.ok ∙ take_keeps_out c.args.lane.now.state c.args.mail.sender c.args.mail.body

pub returns-clause-config : goal.returns-clause-config
returns-clause-config c = ap (λ (x : State). x.config) c.in_default.ensures.ok ∙ take_config c.args.lane.now.state c.args.mail.sender c.args.mail.body
