use Rattle.std.proofs.Common.{◌≡◌, ℕ, List, Bool, false, None, refl, sym, ap, ◌∙◌, arith, rules, get_or}
use Rattle.std.specs.Prelude.{slice_index_or}
use Rattle.std.proofs.lemmas.Grind.{common_steps}
use Rattle.relay_action.specs.declared.mail.Body.{Body}
use Rattle.relay_action.specs.declared.mail.Body.TheVariants as body
use Rattle.relay_results.proofs.Lists.{apart_tests}
use Rattle.relay_core.specs.Quiet.{is_roomy}
use Rattle.relay_core.specs.State.{State, Seen, after_take, is_full, take_fault}
use Rattle.relay_core.proofs.lane.Lane.take.Goals as goal

-- a sender that has not closed
is_open : (closed : List Bool) (sender : ℕ) (b : Bool) → b ≡ get_or closed sender b → b ≡ false → slice_index_or closed sender false ≡ false
is_open closed sender b at is = ap (λ x. slice_index_or closed sender x) (sym is) ∙ sym at ∙ is

no_fault : (s : State) (sender : ℕ) (b : Body) → slice_index_or s.closed sender false ≡ false → is_full s b ≡ false → take_fault s sender b ≡ None
no_fault s sender b unclosed room = rw (unclosed, room) refl

pub returns-then-index-clause-refused : goal.returns-then-index-clause-refused
returns-then-index-clause-refused c = grind (arith, common_steps)

pub returns-in-Tick-clause-room : goal.returns-in-Tick-clause-room
returns-in-Tick-clause-room c = search rules

pub invariant_of-self : goal.invariant_of-self
invariant_of-self c =
    let v = c.self.invariant in
    record {
      readable = v.readable;
      under = v.under;
      flight = v.flight;
      most = v.most;
      room = v.room;
      places = v.places;
      few = v.few;
      limit = v.limit;
      tries = v.tries;
      senders = v.senders;
      first = v.first;
      versions = v.versions;
      dealt = v.dealt;
      counted = v.counted;
      done = v.done;
      left = v.left;
      config = v.config;
      begins = v.begins;
      quiet = λ roomy. absurd (apart_tests (ap is_roomy (sym c.no_room-self-inside.ensures) ∙ roomy));
    }

pub returns-in-Done-clause-ok : goal.returns-in-Done-clause-ok
returns-in-Done-clause-ok c =
    ap (λ (v : Seen). after_take v.state c.args.mail.sender body.Done) c.self.view_is ∙ ap (after_take c.args.self.now.state c.args.mail.sender) (sym c.in-Done.is)

pub returns-in-Done-clause-accepted : goal.returns-in-Done-clause-accepted
returns-in-Done-clause-accepted c =
    let unclosed = is_open c.self.inside.closed.items c.args.mail.sender c.index.result.now c.index.ensures c.if-index.false in
    no_fault c.args.self.now.state c.args.mail.sender c.args.mail.body (ap (λ (v : Seen). slice_index_or v.state.closed c.args.mail.sender false) (sym c.self.view_is) ∙ unclosed) (ap (is_full c.args.self.now.state) c.in-Done.is)

pub returns-in-Ok-clause-ok : goal.returns-in-Ok-clause-ok
returns-in-Ok-clause-ok c = c.in-Ok.ensures.ok ∙ ap (after_take c.args.self.now.state c.args.mail.sender) (sym c.in-Put.is)
