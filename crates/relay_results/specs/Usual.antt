-- Replies in the usual form: what OpenSearch returns if it has applied every action of a request, without blanks and
-- escapes, and with the members in its order.
use Rattle.std.specs.Prelude.{◌≡◌, ℕ, ◌<◌, ◌≤◌, ◌^◌, List, [], ◌∷◌, ◌++◌, codes, decimal, map, Option, None, Some}
use denote.Ref.{Bor}
use Rattle.relay_action.specs.declared.action.ActionKind.{ActionKind}
use Rattle.relay_action.specs.declared.action.ActionKind.TheVariants as action
use Rattle.relay_json.specs.Plain.{IsPlain}
use Rattle.relay_results.specs.declared.outcome.Outcome.{Outcome}
use Rattle.relay_results.specs.declared.usual.Document.{Document}
use Rattle.relay_results.specs.declared.usual.Applied.{Applied}
use Rattle.relay_results.specs.declared.usual.Shards.{Shards}
use Rattle.relay_results.specs.declared.usual.Place.{Place}
use Rattle.relay_results.specs.declared.usual.Entry.{Entry}

-- ---- the parts of an entry, each with what follows it

abbrev pub start_text : ActionKind → List ℕ
start_text action.Index = codes "{\"index\":{\"_index\":\""
start_text action.Delete = codes "{\"delete\":{\"_index\":\""

-- the member `_type` if it is given, as it was for indexes with types
abbrev pub type_text : Option (Bor (List ℕ)) → List ℕ → List ℕ
type_text None rest = rest
type_text (Some t) rest = codes "\"_type\":\"" ++ (t.now ++ (codes "\"," ++ rest))

abbrev pub id_text : List ℕ → List ℕ → List ℕ
id_text id rest = codes "\"_id\":\"" ++ (id ++ (codes "\"," ++ rest))

abbrev pub document_text : Document → List ℕ → List ℕ
document_text d rest = start_text d.kind ++ (d.index.now ++ (codes "\"," ++ type_text d.type_name (id_text d.id.now rest)))

abbrev pub applied_text : Applied → List ℕ → List ℕ
applied_text a rest = codes "\"_version\":" ++ (decimal a.version ++ (codes ",\"result\":\"" ++ (a.result.now ++ (codes "\"," ++ rest))))

abbrev pub shards_text : Shards → List ℕ → List ℕ
shards_text s rest =
    codes "\"_shards\":{\"total\":" ++ (decimal s.total ++ (codes ",\"successful\":" ++ (decimal s.successful ++ (codes ",\"failed\":" ++ (decimal s.failed ++ (codes "}," ++ rest))))))

abbrev pub place_text : Place → List ℕ → List ℕ
place_text p rest =
    codes "\"_seq_no\":" ++ (decimal p.seq_no ++ (codes ",\"_primary_term\":" ++ (decimal p.primary_term ++ (codes ",\"status\":" ++ (decimal p.status ++ (codes "}}" ++ rest))))))

abbrev pub entry_text : Entry → List ℕ → List ℕ
entry_text e rest = document_text e.document (applied_text e.applied (shards_text e.shards (place_text e.place rest)))

-- ---- what holds of the parts

abbrev pub IsPlainType : Option (Bor (List ℕ)) → Type 0
IsPlainType None = Unit {0}
IsPlainType (Some t) = IsPlain t.now

abbrev pub IsDocument : Document → Type 0
IsDocument d = IsPlain d.index.now × IsPlainType d.type_name × IsPlain d.id.now

abbrev pub IsApplied : Applied → Type 0
IsApplied a = (a.version < 2 ^ 64) × IsPlain a.result.now

abbrev pub AreShards : Shards → Type 0
AreShards s = (s.total < 2 ^ 64) × (s.successful < 2 ^ 64) × (s.failed < 2 ^ 64)

abbrev pub IsPlace : Place → Type 0
IsPlace p = (p.seq_no < 2 ^ 64) × (p.primary_term < 2 ^ 64) × (p.status < 2 ^ 64)

pub record IsUsual (e : Entry) : Type 0 where
  pub document : IsDocument e.document
  pub applied : IsApplied e.applied
  pub shards : AreShards e.shards
  pub place : IsPlace e.place
  pub least : 100 ≤ e.place.status
  pub most : e.place.status ≤ 599

-- ---- entries one after another, and what they say

abbrev pub more_text : List Entry → List ℕ → List ℕ
more_text [] rest = rest
more_text (e ∷ es) rest = codes "," ++ entry_text e (more_text es rest)

abbrev pub AreUsual : List Entry → Type 0
AreUsual [] = Unit {0}
AreUsual (e ∷ es) = IsUsual e × AreUsual es

abbrev pub outcome_of : Entry → Outcome
outcome_of e = record { kind = e.document.kind; id = e.document.id.now; status = e.place.status; error = None }

abbrev pub head_text : ℕ → List ℕ → List ℕ
head_text took rest = codes "{\"took\":" ++ (decimal took ++ (codes ",\"errors\":false,\"items\":[" ++ rest))

-- the bytes begin with the head of a reply and at least one entry, with these outcomes, and this follows
pub record HasRead (bytes : List ℕ) (os : List Outcome) (rest : List ℕ) : Type 0 where
  pub took : ℕ
  pub took_fits : took < 2 ^ 64
  pub first : Entry
  pub more : List Entry
  pub first_is : IsUsual first
  pub more_are : AreUsual more
  pub text : bytes ≡ head_text took (entry_text first (more_text more rest))
  pub says : os ≡ map outcome_of (first ∷ more)
