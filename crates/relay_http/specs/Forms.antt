-- Messages at the front of a stream, and what the result of reading one says about the bytes there.
use Rattle.std.specs.Prelude.{◌≡◌, ◌⊎◌, ℕ, List, [], ◌++◌, Bool, true, false, Option}
use Rattle.std.specs.Io.KnownBytes.{IsAtEnd}
use Rattle.std.specs.Io.KnownBytes.{prepend_known}
use Rattle.relay_http.specs.declared.fault.HttpFault.{HttpFault}
use Rattle.relay_http.specs.declared.fault.HttpFault.TheVariants as fault

-- M bytes ends value: the bytes, with or without the end of the stream after them, are a message with this value
abbrev pub Form : Type 0 → Type 1
Form A = List ℕ → Bool → A → Type 0

-- a stream of these bytes begins with a message
pub record Begins {A : Type 0} (M : Form A) (stream : List ℕ) : Type 0 where
  pub front : List ℕ
  pub ends : Bool
  pub value : A
  pub rest : List ℕ
  pub message : M front ends value
  pub split : stream ≡ front ++ rest
  pub last : ends ≡ true → rest ≡ []

-- the message at the front has this value, and this is the rest
pub record Gives {A : Type 0} {M : Form A} {s : List ℕ} (value : A) (rest : List ℕ) (b : Begins M s) : Type 0 where
  pub value_is : value ≡ b.value
  pub rest_is : rest ≡ b.rest

-- no stream begins with two messages, or with the same one at two lengths
pub record IsUnique {A : Type 0} (M : Form A) : Type 0 where
  pub same : (stream : List ℕ) (b c : Begins M stream) → Gives b.value b.rest c

-- a head, and what the head leads to
pub record IsHeadThen {I A : Type 0} (H : Form I) (T : I → Form A) (bytes : List ℕ) (ends : Bool) (value : A) : Type 0 where
  pub info : I
  pub head : List ℕ
  pub head_is : H head false info
  pub text : List ℕ
  pub text_is : T info text ends value
  pub bytes_are : bytes ≡ head ++ text

-- the message was taken from the front
pub record Took {A : Type 0} (M : Form A) (old new : Option (List ℕ)) (value : A) : Type 0 where
  pub front : List ℕ
  pub ends : Bool
  pub message : M front ends value
  pub split : old ≡ prepend_known front new
  pub last : ends ≡ true → IsAtEnd new

-- the stream ended, and what was read does not begin with a message
pub record Stopped {A : Type 0} (M : Form A) (old left : Option (List ℕ)) : Type 0 where
  pub read : List ℕ
  pub stood : old ≡ prepend_known read left
  pub end : IsAtEnd left
  pub none : ¬ (Begins M read)

-- what was read does not begin with a message, whatever follows it
pub record Refused {A : Type 0} (M : Form A) (old left : Option (List ℕ)) : Type 0 where
  pub read : List ℕ
  pub stood : old ≡ prepend_known read left
  pub never : (more : List ℕ) → ¬ (Begins M (read ++ more))

-- a read or an allocation failed
abbrev pub IsOutside : HttpFault → Type 0
IsOutside f = (f ≡ fault.Read) ⊎ (f ≡ fault.Memory)

-- this fault, unless a read or an allocation failed
abbrev pub IsThatOrOutside : HttpFault → HttpFault → Type 0
IsThatOrOutside f answer = (answer ≡ f) ⊎ IsOutside answer

-- what each fault of reading a message says about the bytes that were read
abbrev pub Fails : {A : Type 0} → Form A → Option (List ℕ) → Option (List ℕ) → HttpFault → Type 0
Fails M old left fault.Malformed = Refused M old left
Fails M old left fault.HeadLong = Refused M old left
Fails M old left fault.BodyLong = Refused M old left
Fails M old left fault.CodedBody = Refused M old left
Fails M old left fault.BothLengths = Refused M old left
Fails M old left fault.Ended = Stopped M old left
Fails M old left fault.Read = Unit {0}
Fails M old left fault.Write = ⊥
Fails M old left fault.TooManyInterim = Refused M old left
Fails M old left fault.Memory = Unit {0}
Fails M old left fault.Broken = ⊥
