use Rattle.std.proofs.Common.{refl, subst, sym, ap, ◌∙◌}
use Rattle.relay_action.specs.declared.action.Action.{Action}
use Rattle.relay_action.specs.declared.key.DocKey.{DocKey}
use Rattle.relay_receipts.specs.Windows.{WindowState}
use Rattle.relay_serve.specs.Putting.{Hears, IsPut, FindsEnd}
use Rattle.relay_serve.proofs.Staying.{stays_on, keeps_on}
use Rattle.relay_serve.proofs.Putting.{hears_on, refused_full, refused_final}
use Rattle.relay_serve.proofs.settler.Settler.put.Goals as goal

pub returns-in-Ok-clause-became : goal.returns-in-Ok-clause-became
returns-in-Ok-clause-became g c =
    let s = c.tries.self.producer in
    let t = c.try_put.new.self.producer in
    let i = c.tries.invariant in
    (s, i.hears, subst (λ (x : DocKey × Action). IsPut x.0 x.1 c.in-Ok.receipt s t) (λ j. (i.key j, i.action j)) c.in-Ok.ensures.tries)

pub returns-then-is_final-clause-became : goal.returns-then-is_final-clause-became
returns-then-is_final-clause-became g c =
    let s = c.tries.self.producer in
    let t = c.try_put.new.self.producer in
    let end = refused_final s t c.tries.key c.in-Err.fault.kind (sym c.is_final.ensures ∙ c.if-is_final.true) c.in-Err.ensures.tries.2 in
    (s, c.tries.invariant.hears, subst (λ k. FindsEnd k s t) c.tries.invariant.key end)

pub returns-then-not-hear-clause-became : goal.returns-then-not-hear-clause-became
returns-then-not-hear-clause-became g c =
    let s = c.tries.self.producer in
    let t = c.try_put.new.self.producer in
    let u = c.hear.new.self.producer in
    let full = refused_full s t c.tries.key c.in-Err.fault.kind (sym c.is_final.ensures ∙ c.if-is_final.false) c.in-Err.ensures.tries.2 in
    let heard = subst (λ (w : WindowState _). Hears w u c.tries.batch c.hear.new.batch) full.0 c.hear.ensures.hears in
    let same = c.hear.ensures.none c.if-not-hear.true ∙ full.0 in (
      u,
      hears_on c.args.self.now.producer s u c.args.batch.now c.tries.batch c.hear.new.batch c.tries.invariant.hears heard,
      (refl, ap (λ (w : WindowState _). w.pending) same ∙ full.1 ∙ ap (λ (w : WindowState _). w.window) (sym same)),
    )

pub tries-preserved : goal.tries-preserved
tries-preserved g c =
    let s = c.tries.self.producer in
    let t = c.try_put.new.self.producer in
    let full = refused_full s t c.tries.key c.in-Err.fault.kind (sym c.is_final.ensures ∙ c.if-is_final.false) c.in-Err.ensures.tries.2 in
    let heard = subst (λ (w : WindowState _). Hears w c.hear.new.self.producer c.tries.batch c.hear.new.batch) full.0 c.hear.ensures.hears in
    record {
      stays = stays_on _ _ _ (stays_on _ _ _ c.tries.invariant.stays c.in-Err.ensures.stays) c.hear.ensures.stays;
      keeps = keeps_on _ _ _ c.tries.invariant.keeps c.hear.ensures.keeps;
      hears = hears_on c.args.self.now.producer s c.hear.new.self.producer c.args.batch.now c.tries.batch c.hear.new.batch c.tries.invariant.hears heard;
      key = c.in-Err.ensures.tries.0 ∙ c.tries.invariant.key;
      action = c.in-Err.ensures.tries.1 ∙ c.tries.invariant.action;
    }
