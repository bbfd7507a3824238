-- Lines and writes at the front of a body, and how far it was read.
use Rattle.std.proofs.Common.{◌≡◌, ◌≢◌, ◌⊎◌, ℕ, ◌+◌, ◌-◌, ◌<◌, ◌≤◌, List, [], ◌∷◌, ◌++◌, length, take, drop, None, Some, refl, ap, sym, ◌∙◌, subst, arith, inl, inr, append_assoc, append-nil, length-append}
use Rattle.std.proofs.lemmas.List.{take_rest}
use Rattle.memchr.specs.Find.{IsFirstByte, is_byte}
use Rattle.relay_action.specs.declared.key.DocKey.{DocKey}
use Rattle.relay_action.specs.declared.action.Action.{Action}
use Rattle.relay_action.specs.declared.action.Action.TheVariants.{Index, Delete}
use Rattle.relay_action.specs.declared.action.ActionKind.TheVariants as action
use Rattle.relay_action.specs.declared.write.Write.{Write}
use Rattle.relay_ndjson.specs.declared.kind.LineKind.{LineKind}
use Rattle.relay_ndjson.specs.declared.kind.LineKind.TheVariants as kind
use Rattle.relay_ndjson.specs.Lines.{IsRaw, IsLine, line_limit}
use Rattle.relay_ndjson.specs.Operations.{line_count}
use Rattle.relay_ndjson.specs.VersionedLines.{SaysVersioned}
use Rattle.relay_ndjson.specs.Bodies.{IsLinesOf, IsBulk, lines_of, BeginsWithLine, LacksLine, IsNoSource, BreaksWriteAt, BreaksBulk}
use Rattle.relay_ndjson.specs.Steps.{BeginsWithWrite, BeginsWithSource}
use Rattle.relay_ndjson.proofs.Deciding.{key_none}
use Rattle.relay_ndjson.proofs.Pieces.{first_feed, nowhere_unbroken}
use Rattle.relay_ndjson.proofs.Totality.{past_limit}

-- ---- the line at the front

pub open_too_long : (bytes : List ℕ) → IsFirstByte (is_byte 10) bytes None → line_limit < length bytes → LacksLine bytes kind.LineLong
open_too_long bytes f h =
    inl (record { raw = bytes; rest = Some []; unbroken = nowhere_unbroken bytes f; taken = ap Some (sym (append-nil bytes)); past = inr (h, refl) }, refl)

pub end_missing : (bytes : List ℕ) → bytes ≢ [] → IsFirstByte (is_byte 10) bytes None → length bytes ≤ line_limit → LacksLine bytes kind.NoFinalNewline
end_missing bytes ne f h = inr ((nowhere_unbroken bytes f, ne, h), refl)

pub ended_too_long : (bytes text : List ℕ) (end : ℕ) → IsFirstByte (is_byte 10) bytes (Some end) → IsRaw text (take end bytes) → line_limit < length text → LacksLine bytes kind.LineLong
ended_too_long bytes text end f r h =
    let s = first_feed bytes end f in
    inl (record { raw = take end bytes; rest = Some (10 ∷ drop (end + 1) bytes); unbroken = s.0; taken = ap Some s.1; past = inl (past_limit text (take end bytes) r h) }, refl)

pub line_taken : (bytes text : List ℕ) (end : ℕ) → IsFirstByte (is_byte 10) bytes (Some end) → IsRaw text (take end bytes) → length text ≤ line_limit → BeginsWithLine bytes (take (length bytes - (end + 1)) (drop (end + 1) bytes)) text
line_taken bytes text end f r h =
    let s = first_feed bytes end f in
    let raw = take end bytes in (
      raw ++ 10 ∷ [],
      (raw, s.0, r, h, refl),
      s.1 ∙ (sym (append_assoc raw (10 ∷ []) (drop (end + 1) bytes)) ∙ ap (λ x. (raw ++ 10 ∷ []) ++ x) (sym (take_rest bytes (end + 1)))),
    )

-- ---- the write at the front

pub delete_taken : (bytes rest text : List ℕ) (key : DocKey) (version : ℕ) (a : Action) → a ≡ Delete → BeginsWithLine bytes rest text → SaysVersioned text action.Delete key.index key.id version → BeginsWithWrite bytes rest (record { key = key; version = version; action = a })
delete_taken bytes rest text key version a e b s = rw e (b.0, (text, b.0, [], b.1, s, refl, sym (append-nil b.0)), b.2)

pub index_taken : (bytes mid rest text : List ℕ) (key : DocKey) (version : ℕ) (a : Action) → BeginsWithLine bytes mid text → SaysVersioned text action.Index key.index key.id version → BeginsWithSource mid rest a → BeginsWithWrite bytes rest (record { key = key; version = version; action = a })
index_taken bytes mid rest text key version Delete b s t = absurd t.2
index_taken bytes mid rest text key version (Index source) b s t =
    let line = t.1 in (
      b.0 ++ line.0,
      (text, b.0, line.0, b.1, s, subst (λ (x : List ℕ). IsLine x line.0) (sym t.2) line.1, refl),
      b.2 ∙ (ap (λ x. b.0 ++ x) line.2 ∙ sym (append_assoc b.0 line.0 rest)),
    )

pub source_lost : (bytes mid text : List ℕ) (key : DocKey) (version place : ℕ) (k : LineKind) → BeginsWithLine bytes mid text → SaysVersioned text action.Index key.index key.id version → (k ≡ kind.Memory) ⊎ IsNoSource mid place k → (k ≡ kind.Memory) ⊎ BreaksWriteAt bytes place k
source_lost bytes mid text key version place k b s (inl m) = inl m
source_lost bytes mid text key version place k b s (inr l) =
    inr (inr (text, mid, key.index, key.id, version, b, s, key_none key.index key.id key.index_ok key.id_ok, l))

-- ---- how far a body was read

-- these writes precede the rest, in this many lines
pub record HasRead (body rest : List ℕ) (ws : List Write) (lines : ℕ) : Type 0 where
  pub front : List ℕ
  pub writes : IsBulk front ws
  pub split : body ≡ front ++ rest
  pub count : lines ≡ lines_of ws

pub nothing_read : (body : List ℕ) → HasRead body body [] 0
nothing_read body = record { front = []; writes = refl; split = refl; count = refl }

bulk_more : (front lines : List ℕ) (ws : List Write) (w : Write) → IsBulk front ws → IsLinesOf lines w → IsBulk (front ++ lines) (ws ++ w ∷ [])
bulk_more front lines [] w b l = (lines, [], l, refl, ap (λ f. f ++ lines) b ∙ sym (append-nil lines))
bulk_more front lines (v ∷ ws) w b l =
    (b.0, b.1 ++ lines, b.2, bulk_more b.1 lines ws w b.3 l, ap (λ f. f ++ lines) b.4 ∙ append_assoc b.0 b.1 lines)

lines_more : (ws : List Write) (w : Write) → lines_of (ws ++ w ∷ []) ≡ lines_of ws + line_count w.action
lines_more [] w = omega arith
lines_more (v ∷ ws) w = let rec = lines_more ws w in omega (arith, rec)

pub read_more : (body rest behind : List ℕ) (ws : List Write) (w : Write) (lines : ℕ) → HasRead body rest ws lines → BeginsWithWrite rest behind w → HasRead body behind (ws ++ w ∷ []) (lines + line_count w.action)
read_more body rest behind ws w lines h b = record {
  front = h.front ++ b.0;
  writes = bulk_more h.front b.0 ws w h.writes b.1;
  split = h.split ∙ (ap (λ r. h.front ++ r) b.2 ∙ sym (append_assoc h.front b.0 behind));
  count = ap (λ n. n + line_count w.action) h.count ∙ sym (lines_more ws w);
}

pub all_read : (body rest : List ℕ) (ws : List Write) (lines : ℕ) → HasRead body rest ws lines → rest ≡ [] → IsBulk body ws
all_read body rest ws lines h e =
    subst (λ (b : List ℕ). IsBulk b ws) (sym (h.split ∙ (ap (λ r. h.front ++ r) e ∙ append-nil h.front))) h.writes

pub read_broken : (body rest : List ℕ) (ws : List Write) (lines place : ℕ) (k : LineKind) → HasRead body rest ws lines → BreaksWriteAt rest place k → BreaksBulk body (lines + place) k
read_broken body rest ws lines place k h b = (ws, h.front, rest, place, h.writes, h.split, b, ap (λ n. n + place) h.count)

-- ---- each line has at least one byte

line_some : (text line : List ℕ) → IsLine text line → 1 ≤ length line
line_some text line l = let n : length line ≡ length l.0 + 1 = ap length l.4 ∙ length-append l.0 (10 ∷ []) in omega (arith, n)

action_lines : (bytes : List ℕ) (w : Write) → IsLinesOf bytes w → line_count w.action ≤ length bytes
action_lines bytes w l = lines_at w.action bytes l.1 l.2 (line_some l.0 l.1 l.3) l.5 l.6
  where
    lines_at : (a : Action) (bytes front rest : List ℕ) → 1 ≤ length front → Rattle.relay_ndjson.specs.Bodies.IsSourceOf a rest → bytes ≡ front ++ rest → line_count a ≤ length bytes
    lines_at (Index source) bytes front rest h s e =
        let n : length bytes ≡ length front + length rest = ap length e ∙ length-append front rest in
        let m = line_some source.text rest s in omega (arith, n, m, h)
    lines_at Delete bytes front rest h s e = let n : length bytes ≡ length front + length rest = ap length e ∙ length-append front rest in omega (arith, n, h)

bulk_lines : (front : List ℕ) (ws : List Write) → IsBulk front ws → lines_of ws ≤ length front
bulk_lines front [] b = omega arith
bulk_lines front (w ∷ ws) b =
    let n : length front ≡ length b.0 + length b.1 = ap length b.4 ∙ length-append b.0 b.1 in
    let rec = bulk_lines b.1 ws b.3 in
    let here = action_lines b.0 w b.2 in omega (arith, n, rec, here)

pub lines_within : (body rest : List ℕ) (ws : List Write) (lines : ℕ) → HasRead body rest ws lines → lines + length rest ≤ length body
lines_within body rest ws lines h =
    let n : length body ≡ length h.front + length rest = ap length h.split ∙ length-append h.front rest in
    let m = bulk_lines h.front ws h.writes in let c = h.count in omega (arith, n, m, c)

pub read_on : (rest behind : List ℕ) (w : Write) → BeginsWithWrite rest behind w → length behind < length rest
read_on rest behind w b =
    let n : length rest ≡ length b.0 + length behind = ap length b.2 ∙ length-append b.0 behind in
    let m = action_lines b.0 w b.1 in
    let one = one_line w.action in omega (arith, n, m, one)
  where
    one_line : (a : Action) → 1 ≤ line_count a
    one_line (Index source) = omega arith
    one_line Delete = omega arith
