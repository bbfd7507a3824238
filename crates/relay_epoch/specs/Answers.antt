-- What an answer to the write of the counter says: the epoch, or why there is none.
use Rattle.std.specs.Prelude.{◌≡◌, ◌⊎◌, ℕ, ◌<◌, ◌≤◌, ◌==◌, ◌||◌, Bool, List, [], codes, Option, Some, None, option_and_then, unwrap_or, Result, Ok, Err, IsUtf8, IsTrue, IsFalse}
use Rattle.serde_json.specs.Data.{Data}
use Rattle.serde_json.specs.Find.{as_number, as_str, as_u64, get}
use Rattle.serde_json.specs.Read.{read}
use Rattle.relay_epoch.specs.declared.fault.EpochFault.{EpochFault}
use Rattle.relay_epoch.specs.declared.fault.EpochFault.TheVariants as fault

-- the last epoch
abbrev pub last_epoch : ℕ
last_epoch = 4194303

-- the statuses after which the document is written (OpenSearch, index document API)
abbrev pub is_written : ℕ → Bool
is_written status = status == 200 || status == 201

-- the version in a JSON value: the number of its member `_version`, if that is an integer from 0 to 2^64 - 1
abbrev pub version_in : Data → Option ℕ
version_in d = option_and_then as_u64 (option_and_then as_number (get (codes "_version") d))

-- the type of the error in a JSON value, or the empty text
abbrev pub kind_in : Data → List ℕ
kind_in d = unwrap_or (option_and_then as_str (option_and_then (get (codes "type")) (get (codes "error") d))) []

-- what a body is as JSON in UTF-8
abbrev pub IsValue : List ℕ → Option Data → Type 0
IsValue body (Some d) = IsUtf8 body × (read body ≡ Some d)
IsValue body None = IsUtf8 body → read body ≡ None

-- the version in a body, if it is a JSON value that has one
abbrev pub stated_version : Option Data → Option ℕ
stated_version o = option_and_then version_in o

abbrev pub stated_kind : Option Data → List ℕ
stated_kind None = []
stated_kind (Some d) = kind_in d

-- an epoch is exactly the version from 1 to the last epoch
abbrev pub Gives : Option ℕ → Result ℕ EpochFault → Type 0
Gives version (Ok epoch) = (version ≡ Some epoch) × (1 ≤ epoch) × (epoch ≤ last_epoch)
Gives version (Err fault.Unreachable) = ⊥
Gives version (Err (fault.Status status kind)) = ⊥
Gives version (Err fault.NoVersion) = (version ≡ None) ⊎ (version ≡ Some 0)
Gives version (Err fault.Spent) = (n : ℕ) × (version ≡ Some n) × (last_epoch < n)
Gives version (Err fault.Memory) = ⊥

-- for any other status there is no epoch, but the status and the type of the error
abbrev pub Fails : ℕ → List ℕ → Result ℕ EpochFault → Type 0
Fails status kind r = r ≡ Err (fault.Status status kind)

-- what the answer with this status and this JSON value says
abbrev pub Says : ℕ → Option Data → Result ℕ EpochFault → Type 0
Says status value r = (IsTrue (is_written status) × Gives (stated_version value) r) ⊎ (IsFalse (is_written status) × Fails status (stated_kind value) r)

-- what the answer with this status and this body says; or an allocation failed
abbrev pub Tells : ℕ → List ℕ → Result ℕ EpochFault → Type 0
Tells status body r = ((value : Option Data) × IsValue body value × Says status value r) ⊎ (r ≡ Err fault.Memory)
