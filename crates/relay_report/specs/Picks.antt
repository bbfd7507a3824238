-- What `pick` reads of an input, and what it writes.
use Rattle.std.specs.Prelude.{◌≡◌, ◌≢◌, ℕ, ◌+◌, ◌≤◌, ◌⊎◌, ◌==◌, ◌&&◌, suc, List, [], ◌∷◌, ◌++◌, length, Bool, IsTrue, if◌then◌else◌, Option, Result, Ok, Err}
use Rattle.std.specs.List.{list_any}
use Rattle.std.specs.Io.KnownBytes.{append_known}
use Rattle.relay_action.specs.Streams.{FailedSince, one_more}
use Rattle.relay_ndjson.specs.Lines.{is_read}
use Rattle.relay_ndjson.specs.Operations.{HoldsNoMore, IsFault, saturating_count}
use Rattle.relay_ndjson.specs.declared.kind.LineKind.TheVariants as kind
use Rattle.relay_report.specs.Operations.{TakesLines}
use Rattle.relay_report.specs.declared.names.Named.{Named}
use Rattle.relay_report.specs.declared.picking.PickFault.{PickFault}
use Rattle.relay_report.specs.declared.picking.PickFault.TheVariants as fault

-- the operation of the producer with this number is named
abbrev pub is_named : List Named → ℕ → ℕ → Bool
is_named names producer k = list_any (λ n. (n.producer == producer) && (n.number == k)) names

-- operations were taken one after another, from this many lines in all; these are the lines of each
abbrev pub TakesAll : Option (List ℕ) → Option (List ℕ) → Option (List ℕ) → ℕ → List (List ℕ) → Type 0
TakesAll default old new count [] = (new ≡ old) × (count ≡ 0)
TakesAll default old new count (lines ∷ more) =
    (mid : Option (List ℕ)) × (n : ℕ) × (m : ℕ) × TakesLines default old mid n lines × TakesAll default mid new m more × (count ≡ n + m)

-- the lines of the operations that are wanted; the first one has this number
abbrev pub picked_lines : (ℕ → Bool) → ℕ → List (List ℕ) → List ℕ
picked_lines wanted k [] = []
picked_lines wanted k (lines ∷ more) = (if wanted k then lines else []) ++ picked_lines wanted (suc k) more

-- no operation above this number is wanted
abbrev pub NoneAfter : (ℕ → Bool) → ℕ → Type 0
NoneAfter wanted n = (k : ℕ) → IsTrue (wanted k) → k ≤ n

-- why no more operations were taken: no later one is wanted, or only blank lines are left; or what follows has a
-- fault
abbrev pub Stops : (ℕ → Bool) → Option (List ℕ) → Option (List ℕ) → ℕ → List (List ℕ) → Result ℕ PickFault → Type 0
Stops wanted default rest count items (Ok n) = (n ≡ length items) × (NoneAfter wanted n ⊎ HoldsNoMore rest)
Stops wanted default rest count items (Err (fault.Input e)) = IsFault default rest (saturating_count count) e × (e.kind ≢ kind.Memory)
Stops wanted default rest count items (Err fault.Write) = Unit {0}
Stops wanted default rest count items (Err fault.Memory) = Unit {0}

-- what was written of a text: some prefix of it
abbrev pub WritesFront : Option (List ℕ) → Option (List ℕ) → List ℕ → Type 0
WritesFront before after text = (gone : List ℕ) × (more : List ℕ) × (text ≡ gone ++ more) × (after ≡ append_known before gone)

-- all of it; or after a failed write or allocation, a prefix of it
abbrev pub Writes : Option (List ℕ) → Option (List ℕ) → List ℕ → Result ℕ PickFault → Type 0
Writes before after text (Err fault.Write) = WritesFront before after text
Writes before after text (Err fault.Memory) = WritesFront before after text
Writes before after text other = after ≡ append_known before text

-- operations were taken from the front of the input, and the lines of those that are named were written
pub record Picks (names : List Named) (producer : ℕ) (default old before after : Option (List ℕ)) (result : Result ℕ PickFault) : Type 0 where
  pub items : List (List ℕ)
  pub rest : Option (List ℕ)
  pub count : ℕ
  pub taken : TakesAll default old rest count items
  pub stops : Stops (is_named names producer) default rest count items result
  pub written : Writes before after (picked_lines (is_named names producer) 1 items) result

-- the number of failed calls of the input; nothing is promised about it after a failed write or allocation
abbrev pub ReadsFail : {U : Type 0} → ℕ → ℕ → Result U PickFault → Type 0
ReadsFail old new (Ok _) = new ≡ old
ReadsFail old new (Err (fault.Input e)) = new ≡ (if is_read e.kind then one_more old else old)
ReadsFail old new (Err fault.Write) = Unit {0}
ReadsFail old new (Err fault.Memory) = Unit {0}

-- a write fault is returned exactly if a call of the writer failed
abbrev pub WritesFail : {U : Type 0} → ℕ → ℕ → Result U PickFault → Type 0
WritesFail old new (Err fault.Write) = FailedSince old new
WritesFail old new other = new ≡ old
