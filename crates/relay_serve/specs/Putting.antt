-- What the steps of settling do, for private clauses.
use Rattle.std.specs.Prelude.{◌≡◌, ◌⊎◌, ℕ, ◌+◌, ◌^◌, Bool, true, false, List, [], ◌∷◌, ◌++◌, length, map, Result, Ok, Err, vec_len}
use Rattle.relay_action.specs.declared.action.Action.{Action}
use Rattle.relay_action.specs.declared.key.DocKey.{DocKey}
use Rattle.relay_producer.specs.declared.producer.Receipt.{Receipt}
use Rattle.relay_producer.specs.States.{after_put, after_gone, lane_for}
use Rattle.relay_receipts.specs.Windows.{WindowState}
use Rattle.relay_receipts.specs.declared.notice.Notice.{Notice}
use Rattle.relay_receipts.specs.declared.window.WindowFault.{WindowFault}
use Rattle.relay_receipts.specs.declared.window.WindowFaultKind.{WindowFaultKind}
use Rattle.relay_receipts.specs.declared.window.WindowFaultKind.TheVariants as kind
use Rattle.relay_common.specs.Putting.{after_puts}
use Rattle.relay_front.specs.declared.ending.End.{End}
use Rattle.relay_front.specs.declared.ending.End.TheVariants as end
use Rattle.relay_front.specs.Operations.{Write}
use Rattle.relay_telling.specs.declared.ending.Ending.{Ending}
use Rattle.relay_serve.specs.declared.batch.Batch.{Batch}
use Rattle.relay_serve.specs.declared.settler.Put.{Put}
use Rattle.relay_serve.specs.declared.settler.Put.TheVariants as put
use Rattle.relay_serve.specs.Batches.{FitsFrom}
use Rattle.relay_serve.specs.Settling.{Event, WasHeard, WasFull, puts_in, heard_in, open_after}

-- notices were taken and noted, and nothing was put
pub record Hears (old new : WindowState Ending) (before after : Batch) : Type 0 where
  pub same : new.producer ≡ old.producer
  pub window : new.window ≡ old.window
  pub heard : List (Notice Ending)
  pub taken : new.receipts.taken ≡ old.receipts.taken ++ heard
  pub open_now : new.pending ≡ open_after old.pending (map WasHeard heard)
  pub fits : (lanes number : ℕ) (events : List Event) → FitsFrom lanes number events before → FitsFrom lanes number (events ++ map WasHeard heard) after

-- the write was put, and this is its receipt
pub record IsPut (key : DocKey) (action : Action) (r : Receipt) (old new : WindowState Ending) : Type 0 where
  pub added : new ≡ record old { producer = after_put key action old.producer; pending = old.pending + 1 }
  pub number : r.name.number ≡ old.producer.put + 1
  pub lane : r.lane ≡ lane_for key old.producer

-- the window was full
abbrev pub FindsFull : WindowState Ending → WindowState Ending → Type 0
FindsFull old new = (new ≡ old) × (old.pending ≡ old.window)

-- no write on this document can be put any more: its lane is gone, or no number is left
abbrev pub FindsEnd : DocKey → WindowState Ending → WindowState Ending → Type 0
FindsEnd key old new = (new ≡ record old { producer = after_gone key old.producer }) ⊎ ((new ≡ old) × (old.producer.put ≡ 2 ^ 40))

-- a write that was refused so can never be put
abbrev pub is_final : WindowFaultKind → Bool
is_final kind.WindowFull = false
is_final (kind.Put why) = true

abbrev pub IsRefused : DocKey → WindowFaultKind → WindowState Ending → WindowState Ending → Type 0
IsRefused key kind.WindowFull old new = FindsFull old new
IsRefused key (kind.Put why) old new = FindsEnd key old new

-- one try to put a write
abbrev pub Tries : DocKey → Action → WindowState Ending → Result Receipt WindowFault → WindowState Ending → Type 0
Tries key action old (Ok r) new = IsPut key action r old new
Tries key action old (Err e) new = (e.key ≡ key) × (e.action ≡ action) × IsRefused key e.kind old new

-- what became of a write, after what was heard
abbrev pub Becomes : DocKey → Action → WindowState Ending → Put → WindowState Ending → Type 0
Becomes key action old (put.Done r) new = IsPut key action r old new
Becomes key action old put.Late new = FindsFull old new
Becomes key action old put.Gone new = FindsEnd key old new

-- by these events writes were put and notices taken, the batch has those that were put, and the producer has put no others
pub record CameBy (old : WindowState Ending) (events : List Event) (new : WindowState Ending) (after : Batch) : Type 0 where
  pub puts : new.producer ≡ after_puts old.producer (puts_in events)
  pub taken : new.receipts.taken ≡ old.receipts.taken ++ heard_in events
  pub fits : FitsFrom (length old.producer.ends) (old.producer.put + 1) events after
  pub count : vec_len after.items ≡ length (puts_in events)
  pub open_now : new.pending ≡ open_after old.pending events

-- after the writes that were put, this is why these others were not, and how they end
abbrev pub IsWhy : WindowState Ending → List Event → List Write → End → WindowState Ending → Type 0
IsWhy old events [] e new = new.producer ≡ after_puts old.producer (puts_in events)
IsWhy old events (w ∷ ws) e new =
    ((e ≡ end.Unput) × (new.producer ≡ after_puts old.producer (puts_in events)) × WasFull old events)
    ⊎ ((e ≡ end.Gone) × (new.producer ≡ after_gone w.0 (after_puts old.producer (puts_in events))))
    ⊎ ((e ≡ end.Gone) × (new.producer.put ≡ 2 ^ 40) × (new.producer ≡ after_puts old.producer (puts_in events)))

-- the first of these writes were put and noted
pub record PutsSome (old : WindowState Ending) (ws : List Write) (e : End) (new : WindowState Ending) (after : Batch) : Type 0 where
  pub events : List Event
  pub others : List Write
  pub writes : ws ≡ puts_in events ++ others
  pub taken : new.receipts.taken ≡ old.receipts.taken ++ heard_in events
  pub fits : FitsFrom (length old.producer.ends) (old.producer.put + 1) events after
  pub count : vec_len after.items ≡ length (puts_in events)
  pub why : IsWhy old events others e new
