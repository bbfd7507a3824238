-- What settling leaves of a worker's producer, step by step.
use Rattle.std.proofs.Common.{◌≡◌, ◌≢◌, ◌+◌, refl, ap, ◌∙◌}
use Rattle.std.specs.Prelude.{Result, Ok, Err, OnOk, IfErr}
use Rattle.relay_action.specs.declared.action.Action.{Action}
use Rattle.relay_action.specs.declared.key.DocKey.{DocKey}
use Rattle.relay_producer.specs.declared.fault.PutFaultKind.TheVariants as fault
use Rattle.relay_producer.specs.declared.producer.Receipt.{Receipt}
use Rattle.relay_producer.specs.Ends.{identities, open_puts}
use Rattle.relay_producer.specs.States.{after_put, after_gone}
use Rattle.relay_receipts.specs.Windows.{WindowState}
use Rattle.relay_receipts.specs.declared.window.WindowFault.{WindowFault}
use Rattle.relay_receipts.specs.declared.window.WindowFaultKind.{WindowFaultKind}
use Rattle.relay_receipts.specs.declared.window.WindowFaultKind.TheVariants as kind
use Rattle.relay_telling.specs.declared.ending.Ending.{Ending}
use Rattle.relay_serve.specs.declared.batch.Batch.{Batch}
use Rattle.relay_serve.specs.Batches.{KeepsPlaces}
use Rattle.relay_serve.specs.Settling.{Stays}

pub stays_same : (s : WindowState Ending) → Stays s s
stays_same s = record { epoch = refl; producer = refl; ends = refl; window = refl; channel = refl; lanes = refl }

pub stays_on : (a b c : WindowState Ending) → Stays a b → Stays b c → Stays a c
stays_on a b c h k = record {
  epoch = k.epoch ∙ h.epoch;
  producer = k.producer ∙ h.producer;
  ends = k.ends ∙ h.ends;
  window = k.window ∙ h.window;
  channel = k.channel ∙ h.channel;
  lanes = k.lanes ∙ h.lanes;
}

pub keeps_on : (a b c : Batch) → KeepsPlaces a b → KeepsPlaces b c → KeepsPlaces a c
keeps_on a b c h k = record { first = k.first ∙ h.first; len = k.len ∙ h.len; room = k.room ∙ h.room }

-- a notice was taken, or none
pub stays_taken : (old new : WindowState Ending) → new.producer ≡ old.producer → new.window ≡ old.window → (new.receipts.channel ≡ old.receipts.channel) × (new.receipts.lanes ≡ old.receipts.lanes) → Stays old new
stays_taken old new producer window same = record {
  epoch = ap (λ p. p.epoch) producer;
  producer = ap (λ p. p.producer) producer;
  ends = ap (λ p. identities (open_puts p.ends)) producer;
  window = window;
  channel = same.0;
  lanes = same.1;
}

-- ---- a put

-- only the producer and the number of open operations changed
stays_put_as : (old new to : WindowState Ending) → new ≡ to → to.producer.epoch ≡ old.producer.epoch → to.producer.producer ≡ old.producer.producer → to.window ≡ old.window → to.receipts ≡ old.receipts → identities (open_puts new.producer.ends) ≡ identities (open_puts old.producer.ends) → Stays old new
stays_put_as old new to is epoch producer window receipts same = record {
  epoch = ap (λ (w : WindowState Ending). w.producer.epoch) is ∙ epoch;
  producer = ap (λ (w : WindowState Ending). w.producer.producer) is ∙ producer;
  ends = same;
  window = ap (λ (w : WindowState Ending). w.window) is ∙ window;
  channel = ap (λ (w : WindowState Ending). w.receipts.channel) is ∙ ap (λ r. r.channel) receipts;
  lanes = ap (λ (w : WindowState Ending). w.receipts.lanes) is ∙ ap (λ r. r.lanes) receipts;
}

stays_refused : (old new : WindowState Ending) (key : DocKey) (k : WindowFaultKind) → (k ≡ kind.Put fault.LaneGone → new ≡ record old { producer = after_gone key old.producer }) → (k ≢ kind.Put fault.LaneGone → new ≡ old)
    → identities (open_puts new.producer.ends) ≡ identities (open_puts old.producer.ends) → Stays old new
stays_refused old new key kind.WindowFull gone unchanged same = stays_put_as old new old (unchanged (λ e. cc)) refl refl refl refl same
stays_refused old new key (kind.Put fault.LaneGone) gone unchanged same =
    stays_put_as old new (record old { producer = after_gone key old.producer }) (gone refl) refl refl refl refl same
stays_refused old new key (kind.Put fault.NumbersSpent) gone unchanged same = stays_put_as old new old (unchanged (λ e. cc)) refl refl refl refl same

-- an operation was put, or refused
pub stays_put : (old new : WindowState Ending) (key : DocKey) (action : Action) (result : Result Receipt WindowFault) → OnOk result (new ≡ record old { producer = after_put key action old.producer; pending = old.pending + 1 })
    → IfErr result (λ e. e.kind ≡ kind.Put fault.LaneGone → new ≡ record old { producer = after_gone key old.producer }) → IfErr result (λ e. e.kind ≢ kind.Put fault.LaneGone → new ≡ old)
    → identities (open_puts new.producer.ends) ≡ identities (open_puts old.producer.ends) → Stays old new
stays_put old new key action (Ok r) added gone unchanged same =
    stays_put_as old new (record old { producer = after_put key action old.producer; pending = old.pending + 1 }) added refl refl refl refl same
stays_put old new key action (Err e) added gone unchanged same = stays_refused old new key e.kind gone unchanged same
