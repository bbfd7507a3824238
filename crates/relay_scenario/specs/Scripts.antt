-- A script: the lines that are taken, the events that are played, and what is written.
use Rattle.std.specs.Prelude.{◌≡◌, ◌⊎◌, ℕ, ◌+◌, ◌≤◌, List, [], ◌∷◌, ◌++◌, length, Bool, true, false, Option, None, Some, Result, Ok, Err}
use Rattle.std.specs.Io.KnownBytes.{append_known, prepend_known, IsAtEnd}
use Rattle.relay_action.specs.Streams.{one_more}
use Rattle.relay_ndjson.specs.Lines.{IsLong, IsOfOneLine, TakesText, line_limit, piece_limit}
use Rattle.relay_ndjson.specs.declared.kind.InputFault.{InputFault}
use Rattle.relay_ndjson.specs.declared.kind.LineKind.{LineKind}
use Rattle.relay_ndjson.specs.declared.kind.LineKind.TheVariants as kind
use Rattle.relay_index.specs.States as index
use Rattle.relay_core.specs.declared.config.RelayConfig.{RelayConfig}
use Rattle.relay_commands.specs.Calls.{NoneFails, OneAtMost, OneFails}
use Rattle.relay_commands.specs.declared.outgoing.Outgoing.{Outgoing}
use Rattle.relay_world.specs.declared.event.Event.{Event}
use Rattle.relay_world.specs.declared.event.StepAnswer.{StepAnswer}
use Rattle.relay_world.specs.State.{World, fresh}
use Rattle.relay_world.specs.Steps.{Steps}
use Rattle.relay_scenario.specs.Config.{IsConfigLine}
use Rattle.relay_scenario.specs.Events.{IsEventLine}
use Rattle.relay_scenario.specs.Answers.{IsAnswerLine}
use Rattle.relay_scenario.specs.Flows.{Breaks, Flows, IsWrittenInPart, IsFront, Sink, fresh_sink, sink}
use Rattle.relay_scenario.specs.declared.event_line.LineFault.{LineFault}
use Rattle.relay_scenario.specs.declared.event_line.LineFault.TheVariants as bad
use Rattle.relay_scenario.specs.declared.playing.Next.{Next}
use Rattle.relay_scenario.specs.declared.playing.Next.TheVariants.{Played, Ended}
use Rattle.relay_scenario.specs.declared.script.ScriptFault.{ScriptFault}
use Rattle.relay_scenario.specs.declared.script.ScriptFault.TheVariants as fault

-- the maximum number of lines of a script
abbrev pub line_count : ℕ
line_count = 1000000

-- ---- lines

-- events were taken from the front of a stream, one line each
abbrev pub TakesEvents : Option (List ℕ) → Option (List ℕ) → List Event → Type 0
TakesEvents old new [] = new ≡ old
TakesEvents old new (e ∷ es) =
    (mid : Option (List ℕ)) × (text : List ℕ) × TakesText old mid text × IsEventLine text e × TakesEvents mid new es

-- the next line is too long, or one more than a script may have
abbrev pub IsNoLine : ℕ → Option (List ℕ) → Type 0
IsNoLine count front =
    IsLong front ⊎ ((text : List ℕ) × (rest : Option (List ℕ)) × TakesText front rest text × (line_count ≤ count))

-- the next line is too long, or one more than a script may have, or no event has it
abbrev pub IsNoEvent : ℕ → Option (List ℕ) → Type 0
IsNoEvent count front =
    IsNoLine count front
    ⊎ ((text : List ℕ) × (rest : Option (List ℕ)) × TakesText front rest text × ((e : Event) → IsEventLine text e → ⊥))

-- there is no first line, or it is too long, or no config has it
abbrev pub IsNoConfig : Option (List ℕ) → Type 0
IsNoConfig front =
    IsAtEnd front ⊎ IsNoLine 0 front
    ⊎ ((text : List ℕ) × (rest : Option (List ℕ)) × TakesText front rest text × ((c : RelayConfig) → IsConfigLine text c → ⊥))

-- at most one line was used of what was at the front
pub record UsesOneLine (old new : Option (List ℕ)) : Type 0 where
  pub bytes : List ℕ
  pub rest : old ≡ prepend_known bytes new
  pub part : IsOfOneLine bytes
  pub short : length bytes ≤ line_limit + 2

-- The same, given what the reader has left: and at most one piece was read beyond the line.
pub record ReadsOn (front left : Option (List ℕ)) : Type 0 where
  pub held : List ℕ
  pub one_piece : length held ≤ piece_limit
  pub uses : UsesOneLine front (prepend_known held left)

-- ---- playing

-- events were played one after another, and these lines answer them
abbrev pub Answers : World → List Event → World → List ℕ → Type 0
Answers w [] new out = (new ≡ w) × (out ≡ [])
Answers w (e ∷ es) new out =
    (x : StepAnswer) × (next : World) × (line : List ℕ) × (rest : List ℕ) × Steps w e x next × IsAnswerLine next x line
    × Answers next es new rest × (out ≡ line ++ rest)

-- ---- the whole

-- Why no more events were played, given how many were and what is at the front of the stream. For a failed read or
-- write and a failed allocation, the counts of failed calls say more.
abbrev pub Stops : ℕ → Option (List ℕ) → Result Unit ScriptFault → Type 0
Stops events front (Ok x) = IsAtEnd front
Stops events front (Err (fault.BadLine line)) = (line ≡ events + 2) × IsNoEvent (events + 1) front
Stops events front (Err other) = Unit {0}

-- there are lines at the end if no line of the script is left, otherwise none
abbrev pub MayEnd : Option (List ℕ) → List ℕ → Type 0
MayEnd rest ending = IsAtEnd rest ⊎ (ending ≡ [])

-- What was written, given the lines that answer the events and what is at the front of the stream: all of them, and
-- at the end the lines that say how it ended; after a failed write exactly the first `sent` bytes of these, fewer
-- than all; after a failed allocation some prefix.
abbrev pub Writes : Option (List ℕ) → Option (List ℕ) → Option (List ℕ) → List ℕ → Result Unit ScriptFault → Type 0
Writes rest before after out (Ok x) = (ending : List ℕ) × (after ≡ append_known before (out ++ ending))
Writes rest before after out (Err (fault.BadLine line)) = after ≡ append_known before out
Writes rest before after out (Err fault.Read) = after ≡ append_known before out
Writes rest before after out (Err (fault.Write sent)) =
    (ending : List ℕ) × MayEnd rest ending × IsWrittenInPart (fresh_sink before) (record { shown = after; sent = sent }) (out ++ ending)
Writes rest before after out (Err fault.Memory) = (ending : List ℕ) × MayEnd rest ending × IsFront before after (out ++ ending)

-- The first line is that of a config, and events follow, one line each. They are played on a fresh world over the index,
-- and these lines answer them; this is why there were no more, and this was written.
pub record Runs (start : index.State) (front left before after : Option (List ℕ)) (result : Result Unit ScriptFault) : Type 0 where
  pub text : List ℕ
  pub first : Option (List ℕ)
  pub config : RelayConfig
  pub takes_text : TakesText front first text
  pub is_config : IsConfigLine text config
  pub events : List Event
  pub rest : Option (List ℕ)
  pub takes : TakesEvents first rest events
  pub world : World
  pub out : List ℕ
  pub answers : Answers (fresh config start) events world out
  pub stops : Stops (length events) rest result
  pub reads : ReadsOn rest left
  pub writes : Writes rest before after out result

-- No world was made, and nothing was written: the first line is bad, or could not be read, or an allocation failed.
abbrev pub HasNoWorld : Option (List ℕ) → Option (List ℕ) → Option (List ℕ) → Result Unit ScriptFault → Type 0
HasNoWorld front before after (Err (fault.BadLine line)) = (line ≡ 1) × IsNoConfig front × (after ≡ before)
HasNoWorld front before after (Err fault.Read) = after ≡ before
HasNoWorld front before after (Err fault.Memory) = after ≡ before
HasNoWorld front before after other = ⊥

abbrev pub IsScript : index.State → Option (List ℕ) → Option (List ℕ) → Option (List ℕ) → Option (List ℕ) → Result Unit ScriptFault → Type 0
IsScript start front left before after result =
    Runs start front left before after result ⊎ (HasNoWorld front before after result × ReadsOn front left)

-- Which calls failed: one of the reader if the result is a failed read, one of the writer if it is a failed write; a
-- failed write may follow a failed read or allocation.
abbrev pub FailsOnce : ℕ → ℕ → ℕ → ℕ → Result Unit ScriptFault → Type 0
FailsOnce old new before after (Err fault.Read) = OneFails old new × NoneFails before after
FailsOnce old new before after (Err (fault.Write sent)) = OneAtMost old new × OneFails before after
FailsOnce old new before after (Err fault.Memory) = NoneFails old new × OneAtMost before after
FailsOnce old new before after other = NoneFails old new × NoneFails before after

-- ---- for the steps

-- the number of failed calls of a reader after this result
abbrev pub failed_by : {T : Type 0} → Result T ScriptFault → ℕ → ℕ
failed_by (Err fault.Read) n = one_more n
failed_by other n = n

-- a fault of a line
abbrev pub line_fault_by : InputFault → LineKind → ScriptFault
line_fault_by e kind.Read = fault.Read
line_fault_by e kind.Memory = fault.Memory
line_fault_by e other = fault.BadLine e.line

abbrev pub line_fault : InputFault → ScriptFault
line_fault e = line_fault_by e e.kind

-- the next line was taken; or there is none; or this is why none was taken
abbrev pub TakesLine : Option (List ℕ) → Option (List ℕ) → ℕ → ℕ → List ℕ → Result Bool ScriptFault → Type 0
TakesLine old new count after text (Ok true) = TakesText old new text × (after ≡ count + 1) × (after ≤ line_count)
TakesLine old new count after text (Ok false) = IsAtEnd old × (new ≡ old) × (after ≡ count)
TakesLine old new count after text (Err (fault.BadLine line)) = (line ≡ count + 1) × IsNoLine count old
TakesLine old new count after text (Err (fault.Write sent)) = ⊥
TakesLine old new count after text (Err other) = Unit {0}

-- the config of the first line was taken; or this is why it was not
abbrev pub TakesConfig : Option (List ℕ) → Option (List ℕ) → ℕ → Result RelayConfig ScriptFault → Type 0
TakesConfig old new after (Ok config) =
    (text : List ℕ) × TakesText old new text × IsConfigLine text config × (after ≡ 1)
TakesConfig old new after (Err (fault.BadLine line)) = (line ≡ 1) × IsNoConfig old
TakesConfig old new after (Err (fault.Write sent)) = ⊥
TakesConfig old new after (Err other) = Unit {0}

-- why there is no event
abbrev pub HasNoEvent : Option (List ℕ) → ℕ → ScriptFault → Type 0
HasNoEvent old count (fault.BadLine line) = (line ≡ count + 1) × IsNoEvent count old
HasNoEvent old count (fault.Write sent) = ⊥
HasNoEvent old count other = Unit {0}

-- the event of the next line was taken; or there is no line; or this is why none was taken
abbrev pub TakesEvent : Option (List ℕ) → Option (List ℕ) → ℕ → ℕ → Result (Option Event) ScriptFault → Type 0
TakesEvent old new count after (Ok (Some e)) =
    (text : List ℕ) × TakesText old new text × IsEventLine text e × (after ≡ count + 1) × (after ≤ line_count)
TakesEvent old new count after (Ok None) = IsAtEnd old × (new ≡ old) × (after ≡ count)
TakesEvent old new count after (Err e) = HasNoEvent old count e

-- an event was played, and this line answers it
pub record PlaysOne (w : World) (e : Event) (new : World) (line : List ℕ) : Type 0 where
  pub answer : StepAnswer
  pub steps : Steps w e answer new
  pub says : IsAnswerLine new answer line

-- an event was played, and its answer was added to a text; or an allocation failed
abbrev pub PlaysEvent : World → Event → World → List ℕ → List ℕ → Result Unit ScriptFault → Type 0
PlaysEvent w e next text longer (Ok x) = (line : List ℕ) × PlaysOne w e next line × (longer ≡ text ++ line)
PlaysEvent w e next text longer (Err f) = (f ≡ fault.Memory) × (longer ≡ text)

-- the fault of a line
abbrev pub fault_at : LineFault → ℕ → ScriptFault
fault_at bad.Bad line = fault.BadLine line
fault_at bad.Memory line = fault.Memory

-- the event of the next line was taken and played, and its answer was added to a text; or there is no line; or this is
-- why none was played
abbrev pub PlaysNext : Option (List ℕ) → Option (List ℕ) → ℕ → ℕ → World → World → List ℕ → List ℕ → Result Next ScriptFault → Type 0
PlaysNext old new count after w next text longer (Ok Played) =
    (e : Event) × (line : List ℕ) × TakesEvent old new count after (Ok (Some e)) × PlaysOne w e next line × (longer ≡ text ++ line)
PlaysNext old new count after w next text longer (Ok Ended) =
    TakesEvent old new count after (Ok None) × (next ≡ w) × (longer ≡ text)
PlaysNext old new count after w next text longer (Err e) = HasNoEvent old count e × (longer ≡ text)

-- the lines that were taken, the world, and what was to be written, so far
pub record Underway (first now : Option (List ℕ)) (start world : World) (count : ℕ) (before : Sink) (text : List ℕ) (after : Sink) : Type 0 where
  pub events : List Event
  pub out : List ℕ
  pub takes : TakesEvents first now events
  pub answers : Answers start events world out
  pub count_is : count ≡ length events + 1
  pub flows : Flows out [] before text after

-- what is left of the answers, by how it ended
abbrev pub Leaves : Option (List ℕ) → Sink → List ℕ → Sink → List ℕ → Result Unit ScriptFault → Type 0
Leaves rest before text after out (Ok x) = (ending : List ℕ) × Flows (out ++ ending) [] before text after
Leaves rest before text after out (Err (fault.Write sent)) = (ending : List ℕ) × MayEnd rest ending × IsWrittenInPart before (record after { sent = sent }) (out ++ ending)
Leaves rest before text after out (Err fault.Memory) = (ending : List ℕ) × MayEnd rest ending × Flows (out ++ ending) [] before text after
Leaves rest before text after out (Err other) = Flows out [] before text after

-- the number of failed calls of a writer after this result
abbrev pub failed_writes_by : {T : Type 0} → Result T ScriptFault → ℕ → ℕ
failed_writes_by (Err (fault.Write sent)) n = one_more n
failed_writes_by other n = n

-- what was done with a text, and with more that was added, by how it ended
abbrev pub PassesText : List ℕ → Sink → List ℕ → Sink → Result Unit ScriptFault → Type 0
PassesText text before rest after (Ok x) = (more : List ℕ) × Flows more text before rest after
PassesText text before rest after (Err (fault.Write sent)) = Breaks text before (record after { sent = sent })
PassesText text before rest after (Err fault.Memory) = (more : List ℕ) × Flows more text before rest after
PassesText text before rest after (Err other) = ⊥

-- the same for what was gathered and what its writer shows, and which calls of the writer failed
pub record Passes (old : Outgoing) (before : Option (List ℕ)) (failed : ℕ) (new : Outgoing) (after : Option (List ℕ)) (count : ℕ) (result : Result Unit ScriptFault) : Type 0 where
  pub text : PassesText old.text.items (sink before old.sent) new.text.items (sink after new.sent) result
  pub calls : count ≡ failed_writes_by result failed

-- events were taken and played up to this result: what is left of their answers is still to be written, unless a
-- write failed
pub record Halts (first last : Option (List ℕ)) (start : World) (before : Sink) (text : List ℕ) (after : Sink) (result : Result Unit ScriptFault) : Type 0 where
  pub events : List Event
  pub rest : Option (List ℕ)
  pub takes : TakesEvents first rest events
  pub world : World
  pub out : List ℕ
  pub answers : Answers start events world out
  pub stops : Stops (length events) rest result
  pub uses : UsesOneLine rest last
  pub leaves : Leaves rest before text after out result

-- no config was taken
abbrev pub HasNoConfig : Option (List ℕ) → Result Unit ScriptFault → Type 0
HasNoConfig front (Err (fault.BadLine line)) = (line ≡ 1) × IsNoConfig front
HasNoConfig front (Err fault.Read) = Unit {0}
HasNoConfig front (Err fault.Memory) = Unit {0}
HasNoConfig front other = ⊥

-- a config was taken, and then events were played on its fresh world over the index
pub record Begins (start : index.State) (front last : Option (List ℕ)) (before : Sink) (text : List ℕ) (after : Sink) (result : Result Unit ScriptFault) : Type 0 where
  pub line : List ℕ
  pub first : Option (List ℕ)
  pub config : RelayConfig
  pub takes_text : TakesText front first line
  pub is_config : IsConfigLine line config
  pub halts : Halts first last (fresh config start) before text after result

-- the same, or no config was taken and nothing is to be written
abbrev pub PlaysScript : index.State → Option (List ℕ) → Option (List ℕ) → Sink → List ℕ → Sink → Result Unit ScriptFault → Type 0
PlaysScript start front last before text after result =
    Begins start front last before text after result
    ⊎ (HasNoConfig front result × UsesOneLine front last × (text ≡ []) × (after ≡ before))

-- The text that was left was written, and the result is unchanged; or a write failed, with this many bytes written in
-- all, and that is the result.
abbrev pub ClosesOr : Result Unit ScriptFault → (ℕ → Result Unit ScriptFault) → List ℕ → Sink → ℕ → Option (List ℕ) → ℕ → Result Unit ScriptFault → Type 0
ClosesOr answer broken text before failed after count result =
    ((result ≡ answer) × (after ≡ append_known before.shown text) × NoneFails failed count)
    ⊎ ((sent : ℕ) × (result ≡ broken sent) × IsWrittenInPart before (record { shown = after; sent = sent }) text × OneFails failed count)

-- a failed write, and a failed allocation, which takes precedence
abbrev pub failed_write : ℕ → Result Unit ScriptFault
failed_write sent = Err (fault.Write sent)

abbrev pub no_memory : ℕ → Result Unit ScriptFault
no_memory sent = Err fault.Memory

-- whether a result is a failed write, and the result if a write fails after it
abbrev pub is_failed_write : Result Unit ScriptFault → Bool
is_failed_write (Err (fault.Write sent)) = true
is_failed_write other = false

abbrev pub cut_short : Result Unit ScriptFault → ℕ → Result Unit ScriptFault
cut_short (Err fault.Memory) sent = Err fault.Memory
cut_short other sent = Err (fault.Write sent)

-- The result if text is still to be written: after a failed write nothing more is written; a failed allocation
-- remains the result even if a write fails.
abbrev pub Closes : Result Unit ScriptFault → List ℕ → Sink → ℕ → Option (List ℕ) → ℕ → Result Unit ScriptFault → Type 0
Closes (Err (fault.Write sent)) text before failed after count result =
    (result ≡ Err (fault.Write sent)) × (after ≡ before.shown) × NoneFails failed count
Closes (Err fault.Memory) text before failed after count result = ClosesOr (Err fault.Memory) no_memory text before failed after count result
Closes answer text before failed after count result = ClosesOr answer failed_write text before failed after count result
