-- How one of the addresses of a name is reached.
use Rattle.std.specs.Prelude.{◌≡◌, ℕ, List, [], ◌∷◌, ◌++◌, map, Option, Some, None, option_map, Result, Ok, Err}
use Rattle.std.specs.Net.ToAddrs.{HostAddrs, host_addrs}
use Rattle.std.specs.declared.net.socket_addr.SocketAddr.{SocketAddr}
use Rattle.std.specs.declared.io.ErrorKind.{ErrorKind}
use Rattle.std.specs.declared.io.ErrorKind.TheVariants.{InvalidInput}

-- What a network does for a dial: it looks up the addresses of a name, or fails for this reason; and it tries to connect to an
-- address, within a limit in nanoseconds if it is not 0, and fails if there is a reason.
pub data Deed : Type 0 where
  LooksUp : List ℕ → Result (List SocketAddr) ErrorKind → Deed
  Connects : SocketAddr → ℕ → Option ErrorKind → Deed

-- what was done, if it is known, and then this
abbrev pub and_then_did : Option (List Deed) → List Deed → Option (List Deed)
and_then_did known more = option_map (λ deeds. deeds ++ more) known

-- the addresses that a look-up returned, or why it failed
abbrev pub addresses_of : Result HostAddrs ErrorKind → Result (List SocketAddr) ErrorKind
addresses_of (Ok found) = Ok (host_addrs found)
addresses_of (Err why) = Err why

-- why a call failed, if it did
abbrev pub failure_of : {A : Type 0} → Result A ErrorKind → Option ErrorKind
failure_of (Ok x) = None
failure_of (Err why) = Some why

-- an address that was tried, and why it failed
pub record Failure : Type 0 where
  pub address : SocketAddr
  pub why : ErrorKind

abbrev pub failed_within : ℕ → Failure → Deed
failed_within limit f = Connects f.address limit (Some f.why)

-- the last of these reasons
abbrev pub last_why : ErrorKind → List Failure → ErrorKind
last_why first [] = first
last_why first (f ∷ fs) = last_why f.why fs

-- the name was looked up, and its addresses were tried in turn, each within the limit; this one, after those that failed, connected
pub record Connected (name : List ℕ) (limit : ℕ) (deeds : List Deed) : Type 0 where
  pub failures : List Failure
  pub address : SocketAddr
  pub untried : List SocketAddr
  pub are : deeds ≡ LooksUp name (Ok (map (λ f. f.address) failures ++ (address ∷ untried)))
      ∷ (map (failed_within limit) failures ++ (Connects address limit None ∷ []))

-- the name could not be looked up; or each of its addresses was tried in turn, and the last failed for this reason
pub data GaveUp (name : List ℕ) (limit : ℕ) (deeds : List Deed) (why : ErrorKind) : Type 0 where
  IsUnknown : deeds ≡ LooksUp name (Err why) ∷ [] → GaveUp name limit deeds why
  AllFailed : (failures : List Failure)
      → deeds ≡ LooksUp name (Ok (map (λ f. f.address) failures)) ∷ map (failed_within limit) failures
      → why ≡ last_why InvalidInput failures → GaveUp name limit deeds why

abbrev pub Reaches : List ℕ → ℕ → List Deed → Option ErrorKind → Type 0
Reaches name limit deeds None = Connected name limit deeds
Reaches name limit deeds (Some why) = GaveUp name limit deeds why

-- what was done since then reached an address of the name, or failed for this reason
pub record Reached (name : List ℕ) (limit : ℕ) (old new : Option (List Deed)) (failure : Option ErrorKind) : Type 0 where
  pub deeds : List Deed
  pub did : new ≡ and_then_did old deeds
  pub reaches : Reaches name limit deeds failure
