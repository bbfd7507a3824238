-- Answers that are given once more, to requests that ask for the same.
use Rattle.std.specs.Prelude.{◌≡◌, ◌≢◌, ◌⊎◌, ℕ, List, [], ◌∷◌, ◌++◌}
use Rattle.http.specs.declared.request.Request.{Request}
use Rattle.http_server.specs.declared.response.Response.{Response}
use Rattle.relay_results.specs.Words.{Mem}
use Rattle.relay_ndjson.specs.Metadata.{bytes_given}
use Rattle.relay_receipts.specs.Windows.{WindowState}
use Rattle.relay_telling.specs.declared.ending.Ending.{Ending}
use Rattle.relay_front.specs.declared.service.Front.{Front}
use Rattle.relay_front.specs.Again.{asking}
use Rattle.relay_front.specs.Fields.{HasFields}
use Rattle.relay_front.specs.Service.{Answers, Settles as SettlesFor, target_asked}
use Rattle.relay_serve.specs.declared.entry.Entry.{Entry}
use Rattle.relay_serve.specs.declared.entry.Spoken.{Spoken}
use Rattle.relay_serve.specs.declared.producing.Producing.{Producing}
use Rattle.relay_serve.specs.Settling.{Settles}

-- what a request asked for, and what was answered to it
abbrev pub entry_of : Request (List ℕ) → Response → Entry
entry_of request response = record { asked = asking request; status = response.status; text = response.body.items }

-- how far a worker has come: its producer, what it has given to the memory, and what it has answered from it
pub record Reached : Type 0 where
  pub producer : WindowState Ending
  pub given : List Entry
  pub repeated : List Entry

-- ---- a call

-- how far a worker has come whose front is this, and that has spoken so
abbrev pub reached : {R I : Type 0} → Front (Producing R) I → Spoken → Reached
reached front spoken = record { producer = front.relay.settler.producer; given = spoken.given.items; repeated = spoken.repeated.items }

-- what a worker's settler does
abbrev pub settles_in : {R : Type 0} → SettlesFor (Producing R)
settles_in old writes ends new = Settles old.settler.producer writes ends new.settler.producer

-- A worker's front answered the request. Nothing was answered from the memory; and given to it was no more than what was asked and
-- answered here, and that only if something was settled for it.
pub record AnswersItself {R I : Type 0} (old : Front (Producing R) I) (said : Spoken) (request : Request (List ℕ)) (response : Response) (new : Front (Producing R) I) (says : Spoken) : Type 0 where
  pub kept : (new.index ≡ old.index) × (new.face ≡ old.face)
  pub answers : Answers settles_in old.face (bytes_given old.index) old.relay request response new.relay
  pub repeated : says.repeated.items ≡ said.repeated.items
  pub given : (e : Entry) → Mem e says.given.items → Mem e said.given.items ⊎ ((e ≡ entry_of request response) × (new.relay.marks.number ≢ old.relay.marks.number))

-- The request was answered from the memory: nothing was settled for it, and its answer is noted as such.
pub record AnswersAgain {R I : Type 0} (old : Front (Producing R) I) (said : Spoken) (request : Request (List ℕ)) (response : Response) (new : Front (Producing R) I) (says : Spoken) : Type 0 where
  pub kept : new ≡ old
  pub fields : HasFields old.face (target_asked request) response
  pub repeated : says.repeated.items ≡ said.repeated.items ++ entry_of request response ∷ []
  pub given : says.given.items ≡ said.given.items

-- ---- a term

-- some worker gave this
abbrev pub WasGiven : List Spoken → Entry → Type 0
WasGiven spoken e = (one : Spoken) × Mem one spoken × Mem e one.given.items

-- each of these was given
abbrev pub AreGiven : List Spoken → List Entry → Type 0
AreGiven spoken es = (e : Entry) → Mem e es → WasGiven spoken e

-- each that a worker answered from the memory was given
abbrev pub AllGiven : List Spoken → Type 0
AllGiven spoken = (one : Spoken) → Mem one spoken → AreGiven spoken one.repeated.items
