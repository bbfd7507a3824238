use Rattle.std.proofs.Common.{sym, subst}
use Rattle.relay_queue.specs.Ends.{TakerEnd}
use Rattle.relay_queue.specs.Messages.{mail_of, HasDone}
use Rattle.relay_lane.specs.Turns.{collects}
use Rattle.relay_threads.specs.Course.{EndsAs}
use Rattle.relay_threads.specs.Told.{EndsTold}
use Rattle.relay_threads.proofs.Ending.{all_closed_there, ends_collected, ends_forgotten, ends_told_as, finished_as, told_at_the_end}
use Rattle.relay_threads.proofs.ToldOnce.{works_told, tells_nothing, goes_on_by, goes_on_there, told_on}
use Rattle.relay_threads.proofs.run.run_lane.Goals as goal

pub returns-clause-ends : goal.returns-clause-ends
returns-clause-ends g c =
    let w = c.work-kind.new in
    let d = g.W.Wire.describes c.args.wire in
    let v = c.collect.new.wire in
    subst (λ (t : TakerEnd). EndsAs d g.W.Wire.fits g.W.Wire.carries c.args.wire v c.args.lane.state.config t.taken c.kind_after-kind.result c.tell_all.new.lane.state) (sym c.end.ensures.same)
    (ends_told_as d g.W.Wire.fits g.W.Wire.carries c.args.wire v c.args.lane.state.config w.take.taken c.work-kind.result c.kind_after-kind.result c.tell_all.new.lane.state c.tell_all.result c.kind_after-kind.ensures.told c.kind_after-kind.ensures.not_told c.kind_after-kind.ensures.memory
    (ends_forgotten d g.W.Wire.fits g.W.Wire.carries c.args.wire v c.args.lane.state.config w.take.taken c.work-kind.result c.collect.new.lane.state c.tell_all.new.lane.state c.tell_all.ensures.state
    (ends_collected d g.W.Wire.fits g.W.Wire.carries c.args.wire w.wire v c.args.lane.state.config w.take.taken c.work-kind.result w.lane.state c.collect.new.lane.state (g.W.Wire.describes w.wire) c.work-kind.ensures.describes c.work-kind.ensures.ends c.collect.ensures.worked c.collect.ensures.stays)))

pub returns-clause-closed : goal.returns-clause-closed
returns-clause-closed g c = λ finished sender lt.
    let w = c.work-kind.new in
    subst (λ (t : TakerEnd). HasDone (mail_of sender t.taken)) (sym c.end.ensures.same)
    (all_closed_there (g.W.Wire.describes c.args.wire) g.W.Wire.fits g.W.Wire.carries c.args.wire w.wire c.args.lane.state.config w.take.taken c.work-kind.result w.lane.state c.args.take.senders c.work-kind.ensures.ends c.requires.senders (finished_as c.work-kind.result c.kind_after-kind.result c.tell_all.result c.kind_after-kind.ensures.told c.kind_after-kind.ensures.not_told finished) sender lt)

pub returns-clause-told : goal.returns-clause-told
returns-clause-told g c =
    let w = c.work-kind.new in
    let x = c.work-kind.ensures.told in
    let d = g.W.Wire.describes in
    let fits = g.W.Wire.fits in
    let carries = g.W.Wire.carries in
    let config = c.args.lane.state.config in
    let u = c.args.wire in
    let v = c.collect.new.wire in
    let first = g.T.Tell.told c.args.tell.now in
    let y = g.T.Tell.told w.tell in
    let z = g.T.Tell.told c.tell_all.new.tell in
    let s = c.collect.new.lane.state in
    let t = c.tell_all.new.lane.state in
    let last = g.T.Tell.told c.ended.new.self in
    let k = w.told in
    let l = c.tell_all.new.told in
    let same = c.work-kind.ensures.describes in
    let collected = told_on (d u) (d w.wire) fits carries u w.wire v config first y y k k w.lane.state s x.0 x.0 same x.2 (works_told (d w.wire) fits carries collects w.wire v w.lane.state s c.collect.ensures.worked c.collect.ensures.stays y k x.0) in
    let told = goes_on_by (d u) fits carries v y z k l s t x.0 c.tell_all.ensures.state c.tell_all.ensures.told u config first collected in
    let ended = goes_on_there (d u) fits carries v z last l l t x.0 (tells_nothing z last l t c.ended.ensures.told) u config first told in
    subst (λ (e : TakerEnd). EndsTold (d u) fits carries u v first last config e.taken c.kind_after-kind.result t) (sym c.end.ensures.same)
    (told_at_the_end (d u) fits carries u v config first last l s t w.take.taken x.0 c.work-kind.result c.kind_after-kind.result c.tell_all.result c.tell_all.ensures.state x.1 ended c.kind_after-kind.ensures.not_told c.kind_after-kind.ensures.memory c.tell_all.ensures.all)
