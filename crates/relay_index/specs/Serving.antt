-- What an index does with the writes of a request, under a script.
use Rattle.std.specs.Prelude.{◌≡◌, ◌≢◌, ◌⊎◌, ℕ, ◌≤◌, List, [], ◌∷◌, take, length, codes, true, false}
use Rattle.serde_json.specs.Data.{Data, number, string, object, unsigned, member, no_members}
use Rattle.serde_json.specs.Written.{compact_text}
use Rattle.relay_action.specs.declared.write.Write.{Write}
use Rattle.relay_ndjson.specs.declared.kind.BulkFault.{BulkFault}
use Rattle.relay_ndjson.specs.declared.kind.LineKind.{LineKind}
use Rattle.relay_ndjson.specs.declared.kind.LineKind.TheVariants as kind
use Rattle.relay_ndjson.specs.Kinds.{name_of}
use Rattle.relay_ndjson.specs.Bodies.{IsBulk, BreaksBulk}
use Rattle.relay_results.specs.declared.done.ItemDone.{ItemDone}
use Rattle.relay_results.specs.Done.{outcomes_of, reply_text}
use Rattle.relay_results.specs.Replies.{IsBulkReply}
use Rattle.relay_index.specs.States.{State}
use Rattle.relay_index.specs.Runs.{RunsOne}
use Rattle.relay_index.specs.Plans.{Plan, choice_at, takes, after_item}

-- An index and the script under which it runs items.
pub record Server : Type 0 where
  pub index : State
  pub script : Plan

abbrev pub under : State → Plan → Server
under index script = record { index = index; script = script }

-- the answer to a request: a status and a text
pub record Answer : Type 0 where
  pub status : ℕ
  pub text : List ℕ

abbrev pub answer_of : ℕ → List ℕ → Answer
answer_of status text = record { status = status; text = text }

-- The writes are run once each, in order, each as the script says for its place, with these results, and this is the
-- server afterwards.
abbrev pub RunsAll : Server → List Write → List ItemDone → Server → Type 0
RunsAll old [] items new = (items ≡ []) × (new ≡ old)
RunsAll old (w ∷ ws) items new =
    (item : ItemDone) × (rest : List ItemDone) × (next : State) × RunsOne old.index w (choice_at old.script) item next
    × RunsAll (under next (after_item old.script)) ws rest new × (items ≡ item ∷ rest)

-- exactly the first `ran` writes were run
pub record RunsFirst (ran : ℕ) (old : Server) (ws : List Write) (new : Server) : Type 0 where
  pub within : ran ≤ length ws
  pub items : List ItemDone
  pub runs : RunsAll old (take ran ws) items new

-- All writes were run, and this is the text of the reply, which reads back as the results.
pub record Replies (old : Server) (ws : List Write) (text : List ℕ) (new : Server) : Type 0 where
  pub items : List ItemDone
  pub runs : RunsAll old ws items new
  pub text_of : text ≡ reply_text 0 items
  pub reads_back : IsBulkReply text (outcomes_of items)

-- ---- a body that is not a bulk request

-- the text that names the bad line of a body and its fault, with its keys in byte order
abbrev pub fault_data : ℕ → List ℕ → Data
fault_data line kind =
    object (member (codes "error")
    (object (member (codes "line") (number (unsigned line)) (member (codes "type") (string kind) no_members)))
    (member (codes "status") (number (unsigned 400)) no_members))

unfoldable pub fault_text : ℕ → List ℕ → List ℕ
fault_text line kind = compact_text (fault_data line kind)

-- the answer to a fault other than a failed allocation
pub record IsRejection (fault : BulkFault) (answer : Answer) : Type 0 where
  pub cause : fault.kind ≢ kind.Memory
  pub failure : answer.status ≡ 400
  pub text_of : answer.text ≡ fault_text fault.line (name_of fault.kind)

-- ---- a body that is too large

-- the text that says that a body is too large, with its keys in byte order
abbrev pub too_large_data : Data
too_large_data =
    object (member (codes "error") (object (member (codes "type") (string (codes "TooLarge")) no_members))
    (member (codes "status") (number (unsigned 413)) no_members))

unfoldable pub too_large_text : List ℕ
too_large_text = compact_text too_large_data

-- the answer to a body that is too large
pub record IsTooLarge (answer : Answer) : Type 0 where
  pub failure : answer.status ≡ 413
  pub text_of : answer.text ≡ too_large_text

-- ---- the body of a request

-- the body is a bulk request: 200, and the reply once all its writes were run
pub record Serves (body : List ℕ) (old : Server) (answer : Answer) (new : Server) : Type 0 where
  pub within : takes old.script (length body) ≡ true
  pub writes : List Write
  pub reads : IsBulk body writes
  pub success : answer.status ≡ 200
  pub replies : Replies old writes answer.text new

-- the body is not a bulk request: 400, and the text that names the first bad line; nothing is run
pub record Rejects (body : List ℕ) (old : Server) (answer : Answer) (new : Server) : Type 0 where
  pub within : takes old.script (length body) ≡ true
  pub line : ℕ
  pub kind : LineKind
  pub breaks : BreaksBulk body line kind
  pub failure : answer.status ≡ 400
  pub text_of : answer.text ≡ fault_text line (name_of kind)
  pub stays : new ≡ old

-- the body is longer than the script's limit: 413; nothing is read or run
pub record RefusesLength (body : List ℕ) (old : Server) (answer : Answer) (new : Server) : Type 0 where
  pub over : takes old.script (length body) ≡ false
  pub too_large : IsTooLarge answer
  pub stays : new ≡ old

abbrev pub Answers : List ℕ → Server → Answer → Server → Type 0
Answers body old answer new = Serves body old answer new ⊎ (Rejects body old answer new ⊎ RefusesLength body old answer new)

-- an allocation failed while the body was read or its fault was written: nothing is run
pub record RunsNone (ran : ℕ) (old new : Server) : Type 0 where
  pub none : ran ≡ 0
  pub stays : new ≡ old

-- an allocation failed later: exactly the first `ran` writes were run
pub record RunsSome (ran : ℕ) (body : List ℕ) (old new : Server) : Type 0 where
  pub writes : List Write
  pub reads : IsBulk body writes
  pub first : RunsFirst ran old writes new

abbrev pub StopsAfter : ℕ → List ℕ → Server → Server → Type 0
StopsAfter ran body old new = RunsNone ran old new ⊎ RunsSome ran body old new
