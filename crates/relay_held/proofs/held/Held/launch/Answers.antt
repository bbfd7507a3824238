use Rattle.std.proofs.Common.{◌∙◌, ◌<◌, sym, ap, subst, length}
use Rattle.std.specs.Prelude.{slice_get}
use Rattle.relay_delay.specs.declared.entry.Entry.{Entry}
use Rattle.relay_results.proofs.Lists.{some_same}
use Rattle.relay_held.specs.declared.kept.Kept.{Kept}
use Rattle.relay_held.specs.Operations.{launch_one}
use Rattle.relay_held.specs.Queues.{Holding, with_first, candidates_kept, merge_of}
use Rattle.relay_held.specs.Shelf.{IsHeld}
use Rattle.relay_held.proofs.Waiting.{is_due_at, none_due, none_there}
use Rattle.relay_held.proofs.Calls.{launched}
use Rattle.relay_held.proofs.held.Held.launch.Goals as goal

pub invariant_of-self : goal.invariant_of-self
invariant_of-self c =
    let x = is_due_at c.self.inside.documents c.self.inside.count c.self.inside.waiting 0 c.in-Some.entry c.self.invariant c.in-Some.ensures.first in
    subst (IsHeld c.launch.new.self c.self.inside.count) (sym c.in-Some.ensures.left)
    (launched c.self.inside.documents c.launch.new.self c.self.inside.count c.self.inside.waiting c.in-Some.entry c.clock-now.result c.args.number c.args.place c.self.invariant x
    (c.launch.ensures.sent x.one.key x.one x.waits.0 (sym (ap (λ (e : Entry). e.slot) x.entry))) c.launch.ensures.slots c.launch.ensures.keys c.launch.ensures.unique).held

pub unreachable-requires : goal.unreachable-requires
unreachable-requires c =
    none_there _ (none_due c.self.inside.documents c.self.inside.count c.self.inside.waiting 0 c.self.invariant c.in-None.ensures.first)
    (subst (λ (s : Holding). 0 < length (candidates_kept s.list s.clock)) (sym c.self.view_is) c.requires.some)

pub returns-clause-list : goal.returns-clause-list
returns-clause-list c = λ h e.
    let x = is_due_at c.self.inside.documents c.self.inside.count c.self.inside.waiting 0 c.in-Some.entry c.self.invariant c.in-Some.ensures.first in
    let is = some_same x.one h (sym x.here ∙ ap (λ (s : Holding). slice_get (candidates_kept s.list s.clock) 0) c.self.view_is ∙ e) in
    (launched c.self.inside.documents c.launch.new.self c.self.inside.count c.self.inside.waiting c.in-Some.entry c.clock-now.result c.args.number c.args.place c.self.invariant x
    (c.launch.ensures.sent x.one.key x.one x.waits.0 (sym (ap (λ (e : Entry). e.slot) x.entry))) c.launch.ensures.slots c.launch.ensures.keys c.launch.ensures.unique).becomes.list
    ∙ ap (λ (y : Kept). with_first y.key (launch_one c.clock-now.result c.args.number c.args.place) (merge_of c.self.inside.documents.queues)) is
    ∙ ap (λ t. with_first h.key (launch_one t c.args.number c.args.place) (merge_of c.self.inside.documents.queues)) c.clock-now.ensures
    ∙ ap (λ (s : Holding). with_first h.key (launch_one s.clock c.args.number c.args.place) s.list) c.self.view_is

pub returns-clause-write : goal.returns-clause-write
returns-clause-write c = λ h e.
    let x = is_due_at c.self.inside.documents c.self.inside.count c.self.inside.waiting 0 c.in-Some.entry c.self.invariant c.in-Some.ensures.first in
    let is = some_same x.one h (sym x.here ∙ ap (λ (s : Holding). slice_get (candidates_kept s.list s.clock) 0) c.self.view_is ∙ e) in
    c.launch.ensures.write x.one.key x.one x.waits.0 (sym (ap (λ (e : Entry). e.slot) x.entry)) ∙ ap (λ (y : Kept). y.write) is
