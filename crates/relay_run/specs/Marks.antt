-- The marks of a run: who tells the keeper of them, and what is before each.
use Rattle.std.specs.Prelude.{◌≡◌, ℕ, zero, suc, ◌+◌, List, [], ◌∷◌, length, Option, Some, None}
use Rattle.relay_resume.specs.declared.mark.Mark.{Mark}
use Rattle.relay_receipts.specs.Ends.{Channel}
use Rattle.relay_keeping.specs.declared.told.Told.{Told}
use Rattle.relay_keeping.specs.Keepers.{Keeping}
use Rattle.relay_run.specs.declared.keeping.Keeper.{Keeper}
use Rattle.relay_run.specs.Settling.{Seat}
use Rattle.relay_run.specs.Written.{GoesBy, Reads, Resuming, StateKeeping}

-- what a keeper is bound to: its channel, the number of its tellers, and where each input is read from
abbrev pub Bounds : Type 0
Bounds = Channel Told × ℕ × List Mark

abbrev pub bound : Keeping → Bounds
bound k = (k.channel, k.tellers, k.starts)

abbrev pub bounds_of : Option Keeping → Option Bounds
bounds_of None = None
bounds_of (Some k) = Some (bound k)

-- what a state that is kept is bound to: its keeper, and who reads its inputs
abbrev pub Fixed : Type 0
Fixed = Bounds × Reads

abbrev pub fixed : StateKeeping → Fixed
fixed k = (bound k.marks, k.reads)

abbrev pub fixed_of : Option StateKeeping → Option Fixed
fixed_of None = None
fixed_of (Some k) = Some (fixed k)

-- that of what a thread is to do, if it is to keep a state
abbrev pub keeper_fixed : Option Keeper → Option Fixed
keeper_fixed None = None
keeper_fixed (Some k) = fixed_of k.kept

-- that of a thread, if there is one, and it keeps a state
abbrev pub held_by : Option (Option Fixed) → Option Fixed
held_by None = None
held_by (Some f) = f

-- the files that its inputs are, by producer, have these paths
abbrev pub HasFiles : List (List ℕ) → Option Fixed → Type 0
HasFiles files None = Unit {0}
HasFiles files (Some f) = f.1.files ≡ files

-- the keeper there
abbrev pub bounds_in : Option Fixed → Option Bounds
bounds_in None = None
bounds_in (Some f) = Some f.0

-- the producers that tell by the ends of this channel from this one on, and whose inputs are read from these marks on
abbrev pub tellers_from : Channel Told → ℕ → List Mark → List (Seat × Mark)
tellers_from channel teller [] = []
tellers_from channel teller (m ∷ ms) = (Some (channel, teller), m) ∷ tellers_from channel (teller + 1) ms

-- so many ends of this channel from this one on
abbrev pub seats_from : Channel Told → ℕ → ℕ → List Seat
seats_from channel teller zero = []
seats_from channel teller (suc n) = Some (channel, teller) ∷ seats_from channel (teller + 1) n

-- A keeper is told by these producers and lanes, by all ends of its channel: first the producers, and then the lanes.
pub record IsToldBy (b : Bounds) (producers : List (Seat × Mark)) (seats : List Seat) : Type 0 where
  pub inputs : producers ≡ tellers_from b.0 0 b.2
  pub lanes : seats ≡ seats_from b.0 (length b.2) (length seats)
  pub all : b.1 ≡ length b.2 + length seats

-- if there is one
abbrev pub IsToldIf : Option Bounds → List (Seat × Mark) → List Seat → Type 0
IsToldIf None inputs lanes = Unit {0}
IsToldIf (Some b) inputs lanes = IsToldBy b inputs lanes

-- The thread that kept a state ends with a run that goes on and its keeper, which are bound as they were; or there was none.
abbrev pub EndsBy : Option Fixed → Option Resuming → Option Keeping → Type 0
EndsBy None r k = (r ≡ None) × (k ≡ None)
EndsBy (Some f) r k = (run : Resuming) × (marks : Keeping) × (r ≡ Some run) × (k ≡ Some marks) × ((bound marks, run.reads) ≡ f) × GoesBy marks run
