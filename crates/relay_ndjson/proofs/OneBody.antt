-- A body has one list of writes, or one first fault.
use Rattle.std.proofs.Common.{◌≡◌, ℕ, ◌+◌, List, [], ◌∷◌, ◌++◌, Option, None, Some, refl, ap, sym, ◌∙◌, subst, arith, inl, inr, append_assoc, append-nil}
use Rattle.relay_action.specs.Actions.{kind_of}
use Rattle.relay_action.specs.declared.action.Action.{Action}
use Rattle.relay_action.specs.declared.action.Action.TheVariants.{Index, Delete}
use Rattle.relay_action.specs.declared.action.ActionKind.TheVariants as action
use Rattle.relay_action.specs.declared.write.Write.{Write}
use Rattle.relay_ndjson.specs.declared.kind.LineKind.{LineKind}
use Rattle.relay_ndjson.specs.Lines.{IsUnbroken, TakesText, IsLong}
use Rattle.relay_ndjson.specs.Metadata.{source_line_fault}
use Rattle.relay_ndjson.specs.Operations.{line_count}
use Rattle.relay_ndjson.specs.VersionedLines.{SaysWrite, write_line_fault}
use Rattle.relay_ndjson.specs.Bodies.{IsSourceOf, IsBulk, lines_of, BeginsWithLine, IsOpen, LacksLine, BreaksLine, IsNoSource, BreaksWriteAt}
use Rattle.relay_ndjson.specs.Steps.{BeginsWithWrite}
use Rattle.relay_ndjson.specs.Laws.{OneBulk, NoFaultInBulk, OneBulkFault}
use Rattle.relay_ndjson.proofs.Deciding.{key_none}
use Rattle.relay_ndjson.proofs.Fronts.{not_unbroken, rejoined, some_same, one_text, no_text_at_end, no_text_at_long, no_long_at_end}
use Rattle.relay_ndjson.proofs.Exclusion.{source_none, some_kind}
use Rattle.relay_ndjson.proofs.Versioning.{says_none, asks_one}
use Rattle.relay_action.proofs.SameWrites.{same_key, same_source, same_write}

-- ---- lines

takes : (bytes rest text : List ℕ) → BeginsWithLine bytes rest text → TakesText (Some bytes) (Some rest) text
takes bytes rest text b = record { bytes = b.0; line = inl b.1; taken = ap Some b.2 }

takes_open : (bytes : List ℕ) → IsOpen bytes → TakesText (Some bytes) (Some []) bytes
takes_open bytes o = record { bytes = bytes; line = inr (o.0, o.1, o.2, refl, refl); taken = ap Some (sym (append-nil bytes)) }

one_line : (bytes rest later text other : List ℕ) → BeginsWithLine bytes rest text → BeginsWithLine bytes later other → (rest ≡ later) × (text ≡ other)
one_line bytes rest later text other b c =
    let k = one_text (Some bytes) (Some rest) (Some later) text other (bytes, refl) (takes bytes rest text b) (takes bytes later other c) in
    (some_same rest later k.0, k.1)

line_not_empty : (rest text : List ℕ) → BeginsWithLine [] rest text → ⊥
line_not_empty rest text b = no_text_at_end (Some []) (Some rest) text ([], refl) (takes [] rest text b) refl

line_not_open : (bytes rest text : List ℕ) → BeginsWithLine bytes rest text → IsOpen bytes → ⊥
line_not_open bytes rest text b o = not_unbroken b.1.0 rest (subst IsUnbroken (rejoined b.1.0 b.0 rest bytes b.1.4 b.2) o.0)

long_not_open : (bytes : List ℕ) → IsLong (Some bytes) → IsOpen bytes → ⊥
long_not_open bytes l o = no_text_at_long (Some bytes) (Some []) bytes (bytes, refl) (takes_open bytes o) l

line_not_lacking : (bytes rest text : List ℕ) (k : LineKind) → BeginsWithLine bytes rest text → LacksLine bytes k → ⊥
line_not_lacking bytes rest text k b (inl l) = no_text_at_long (Some bytes) (Some rest) text (bytes, refl) (takes bytes rest text b) l.0
line_not_lacking bytes rest text k b (inr o) = line_not_open bytes rest text b o.0

one_lack : (bytes : List ℕ) (k l : LineKind) → LacksLine bytes k → LacksLine bytes l → k ≡ l
one_lack bytes k l (inl a) (inl b) = a.1 ∙ sym b.1
one_lack bytes k l (inl a) (inr b) = absurd (long_not_open bytes a.0 b.0)
one_lack bytes k l (inr a) (inl b) = absurd (long_not_open bytes b.0 a.0)
one_lack bytes k l (inr a) (inr b) = a.1 ∙ sym b.1

-- a line without a fault does not break the grammar
line_not_breaking : (fault_of : List ℕ → Option LineKind) (bytes rest text : List ℕ) (k : LineKind) → BeginsWithLine bytes rest text → fault_of text ≡ None → BreaksLine fault_of bytes k → ⊥
line_not_breaking fault_of bytes rest text k b n (inl l) = line_not_lacking bytes rest text k b l
line_not_breaking fault_of bytes rest text k b n (inr f) =
    let e = one_line bytes rest f.1 text f.0 b f.2 in
    let same : Some k ≡ None = sym f.3 ∙ (ap fault_of (sym e.1) ∙ n) in cc

one_line_fault : (fault_of : List ℕ → Option LineKind) (bytes : List ℕ) (k l : LineKind) → BreaksLine fault_of bytes k → BreaksLine fault_of bytes l → k ≡ l
one_line_fault fault_of bytes k l (inl a) (inl b) = one_lack bytes k l a b
one_line_fault fault_of bytes k l (inl a) (inr b) = absurd (line_not_lacking bytes b.1 b.0 k b.2 a)
one_line_fault fault_of bytes k l (inr a) (inl b) = absurd (line_not_lacking bytes a.1 a.0 l a.2 b)
one_line_fault fault_of bytes k l (inr a) (inr b) =
    let e = one_line bytes a.1 b.1 a.0 b.0 a.2 b.2 in some_kind k l (sym a.3 ∙ (ap fault_of e.1 ∙ b.3))

-- if nothing is left, no line breaks it
no_line_breaking : (fault_of : List ℕ → Option LineKind) (bytes : List ℕ) (k : LineKind) → bytes ≡ [] → BreaksLine fault_of bytes k → ⊥
no_line_breaking fault_of bytes k e (inl (inl l)) = no_long_at_end (Some bytes) (bytes, refl) l.0 e
no_line_breaking fault_of bytes k e (inl (inr o)) = o.0.1 e
no_line_breaking fault_of bytes k e (inr f) = line_not_empty f.1 f.0 (subst (λ (b : List ℕ). BeginsWithLine b f.1 f.0) e f.2)

-- ---- writes

-- the action line of a write, and what follows it
record Opens (bytes rest : List ℕ) (w : Write) : Type 0 where
  text : List ℕ
  mid : List ℕ
  source : List ℕ
  line : BeginsWithLine bytes mid text
  says : SaysWrite text w
  stored : IsSourceOf w.action source
  split : mid ≡ source ++ rest

opens : (bytes rest : List ℕ) (w : Write) → BeginsWithWrite bytes rest w → Opens bytes rest w
opens bytes rest w b =
    let l = b.1 in record {
      text = l.0;
      mid = l.2 ++ rest;
      source = l.2;
      line = (l.1, l.3, b.2 ∙ (ap (λ x. x ++ rest) l.6 ∙ append_assoc l.1 l.2 rest));
      says = l.4;
      stored = l.5;
      split = refl;
    }

write_not_empty : (bytes rest : List ℕ) (w : Write) → BeginsWithWrite bytes rest w → bytes ≡ [] → ⊥
write_not_empty bytes rest w b e =
    let o = opens bytes rest w b in line_not_empty o.mid o.text (subst (λ (x : List ℕ). BeginsWithLine x o.mid o.text) e o.line)

one_source : (a b : Action) (mid rest later source other : List ℕ) → kind_of a ≡ kind_of b → IsSourceOf a source → mid ≡ source ++ rest → IsSourceOf b other → mid ≡ other ++ later → (rest ≡ later) × (a ≡ b)
one_source (Index s) (Index t) mid rest later source other k l e m f =
    let one = one_line mid rest later s.text t.text (source, l, e) (other, m, f) in (one.0, ap Index (same_source s t one.1))
one_source (Index s) Delete mid rest later source other k l e m f = cc
one_source Delete (Index t) mid rest later source other k l e m f = cc
one_source Delete Delete mid rest later source other k l e m f =
    (sym (e ∙ ap (λ x. x ++ rest) l) ∙ (f ∙ ap (λ x. x ++ later) m), refl)

one_write : (bytes rest later : List ℕ) (w v : Write) → BeginsWithWrite bytes rest w → BeginsWithWrite bytes later v → (rest ≡ later) × (w ≡ v)
one_write bytes rest later w v b c =
    let o = opens bytes rest w b in
    let p = opens bytes later v c in
    let one = one_line bytes o.mid p.mid o.text p.text o.line p.line in
    let says = subst (λ (x : List ℕ). SaysWrite x w) one.1 o.says in
    let asked = asks_one p.text (kind_of w.action) (kind_of v.action) w.key.index w.key.id v.key.index v.key.id w.version v.version says p.says in
    let source = one_source w.action v.action p.mid rest later o.source p.source asked.same_kind o.stored (sym one.0 ∙ o.split) p.stored p.split in
    (source.0, same_write w v (same_key w.key v.key asked.same_index asked.same_id) asked.same_version source.1)

-- ---- writes against faults

source_there : (a : Action) (mid rest source : List ℕ) (place : ℕ) (k : LineKind) → kind_of a ≡ action.Index → IsSourceOf a source → mid ≡ source ++ rest → IsNoSource mid place k → ⊥
source_there Delete mid rest source place k i l e m = cc
source_there (Index s) mid rest source place k i l e (inl m) = line_not_empty rest s.text (subst (λ (b : List ℕ). BeginsWithLine b rest s.text) m.0 (source, l, e))
source_there (Index s) mid rest source place k i l e (inr m) = line_not_breaking source_line_fault mid rest s.text k (source, l, e) (source_none s) m.0

write_not_breaking : (bytes rest : List ℕ) (w : Write) (place : ℕ) (k : LineKind) → BeginsWithWrite bytes rest w → BreaksWriteAt bytes place k → ⊥
write_not_breaking bytes rest w place k b (inl f) =
    let o = opens bytes rest w b in
    line_not_breaking write_line_fault bytes o.mid o.text k o.line (says_none o.text (kind_of w.action) w.key.index w.key.id w.version o.says (key_none w.key.index w.key.id w.key.index_ok w.key.id_ok)) f.0
write_not_breaking bytes rest w place k b (inr l) =
    let o = opens bytes rest w b in
    let one = one_line bytes o.mid l.1 o.text l.0 o.line l.5 in
    let says = subst (λ (x : List ℕ). SaysWrite x w) one.1 o.says in
    let asked = asks_one l.0 (kind_of w.action) action.Index w.key.index w.key.id l.2 l.3 w.version l.4 says l.6 in
    source_there w.action l.1 rest o.source place k asked.same_kind o.stored (sym one.0 ∙ o.split) l.8

end_not_breaking : (bytes : List ℕ) (place : ℕ) (k : LineKind) → bytes ≡ [] → BreaksWriteAt bytes place k → ⊥
end_not_breaking bytes place k e (inl f) = no_line_breaking write_line_fault bytes k e f.0
end_not_breaking bytes place k e (inr l) = line_not_empty l.1 l.0 (subst (λ (b : List ℕ). BeginsWithLine b l.1 l.0) e l.5)

one_lost : (bytes : List ℕ) (p q : ℕ) (k l : LineKind) → IsNoSource bytes p k → IsNoSource bytes q l → (p ≡ q) × (k ≡ l)
one_lost bytes p q k l (inl a) (inl b) = (a.2 ∙ sym b.2, a.1 ∙ sym b.1)
one_lost bytes p q k l (inl a) (inr b) = absurd (no_line_breaking source_line_fault bytes l a.0 b.0)
one_lost bytes p q k l (inr a) (inl b) = absurd (no_line_breaking source_line_fault bytes k b.0 a.0)
one_lost bytes p q k l (inr a) (inr b) = (a.1 ∙ sym b.1, one_line_fault source_line_fault bytes k l a.0 b.0)

one_break : (bytes : List ℕ) (p q : ℕ) (k l : LineKind) → BreaksWriteAt bytes p k → BreaksWriteAt bytes q l → (p ≡ q) × (k ≡ l)
one_break bytes p q k l (inl a) (inl b) = (a.1 ∙ sym b.1, one_line_fault write_line_fault bytes k l a.0 b.0)
one_break bytes p q k l (inl a) (inr b) = absurd (line_not_breaking write_line_fault bytes b.1 b.0 k b.5 (says_none b.0 action.Index b.2 b.3 b.4 b.6 b.7) a.0)
one_break bytes p q k l (inr a) (inl b) = absurd (line_not_breaking write_line_fault bytes a.1 a.0 l a.5 (says_none a.0 action.Index a.2 a.3 a.4 a.6 a.7) b.0)
one_break bytes p q k l (inr a) (inr b) =
    let one = one_line bytes a.1 b.1 a.0 b.0 a.5 b.5 in
    one_lost b.1 p q k l (subst (λ (m : List ℕ). IsNoSource m p k) one.0 a.8) b.8

-- ---- bodies

pub one_bulk : OneBulk
one_bulk bytes [] [] a b = refl
one_bulk bytes [] (v ∷ vs) a b = absurd (write_not_empty bytes b.1 v (b.0, b.2, b.4) a)
one_bulk bytes (w ∷ ws) [] a b = absurd (write_not_empty bytes a.1 w (a.0, a.2, a.4) b)
one_bulk bytes (w ∷ ws) (v ∷ vs) a b =
    let one = one_write bytes a.1 b.1 w v (a.0, a.2, a.4) (b.0, b.2, b.4) in
    let rec = one_bulk b.1 ws vs (subst (λ (r : List ℕ). IsBulk r ws) one.0 a.3) b.3 in
    ap (λ x. x ∷ ws) one.1 ∙ ap (λ xs. v ∷ xs) rec

-- the writes before the rest are its beginning
behind : (all front rest : List ℕ) (w : Write) (ws : List Write) (b : IsBulk front (w ∷ ws)) → all ≡ front ++ rest → BeginsWithWrite all (b.1 ++ rest) w
behind all front rest w ws b e = (b.0, b.2, e ∙ (ap (λ x. x ++ rest) b.4 ∙ append_assoc b.0 b.1 rest))

at_front : (all front rest : List ℕ) → front ≡ [] → all ≡ front ++ rest → rest ≡ all
at_front all front rest e f = sym (f ∙ ap (λ x. x ++ rest) e)

breaks_at : (rest all : List ℕ) (place : ℕ) (k : LineKind) → rest ≡ all → BreaksWriteAt rest place k → BreaksWriteAt all place k
breaks_at rest all place k e b = subst (λ (r : List ℕ). BreaksWriteAt r place k) e b

no_fault : (ws vs : List Write) (all front rest : List ℕ) (place : ℕ) (k : LineKind) → IsBulk all ws → IsBulk front vs → all ≡ front ++ rest → BreaksWriteAt rest place k → ⊥
no_fault [] [] all front rest place k a b e f = end_not_breaking all place k a (breaks_at rest all place k (at_front all front rest b e) f)
no_fault (w ∷ ws) [] all front rest place k a b e f =
    write_not_breaking all a.1 w place k (a.0, a.2, a.4) (breaks_at rest all place k (at_front all front rest b e) f)
no_fault [] (v ∷ vs) all front rest place k a b e f = write_not_empty all (b.1 ++ rest) v (behind all front rest v vs b e) a
no_fault (w ∷ ws) (v ∷ vs) all front rest place k a b e f =
    let one = one_write all a.1 (b.1 ++ rest) w v (a.0, a.2, a.4) (behind all front rest v vs b e) in
    no_fault ws vs a.1 b.1 rest place k a.3 b.3 one.0 f

pub no_fault_in_bulk : NoFaultInBulk
no_fault_in_bulk bytes ws at k a b = no_fault ws b.0 bytes b.1 b.2 b.3 k a b.4 b.5 b.6

one_fault : (ws vs : List Write) (all front rest other later : List ℕ) (p q : ℕ) (k l : LineKind) → IsBulk front ws → all ≡ front ++ rest → BreaksWriteAt rest p k → IsBulk other vs → all ≡ other ++ later → BreaksWriteAt later q l → (lines_of ws + p ≡ lines_of vs + q) × (k ≡ l)
one_fault [] [] all front rest other later p q k l a e f b g h =
    let one = one_break all p q k l (breaks_at rest all p k (at_front all front rest a e) f) (breaks_at later all q l (at_front all other later b g) h) in
    (ap (λ n. 0 + n) one.0, one.1)
one_fault [] (v ∷ vs) all front rest other later p q k l a e f b g h =
    absurd (write_not_breaking all (b.1 ++ later) v p k (behind all other later v vs b g) (breaks_at rest all p k (at_front all front rest a e) f))
one_fault (w ∷ ws) [] all front rest other later p q k l a e f b g h =
    absurd (write_not_breaking all (a.1 ++ rest) w q l (behind all front rest w ws a e) (breaks_at later all q l (at_front all other later b g) h))
one_fault (w ∷ ws) (v ∷ vs) all front rest other later p q k l a e f b g h =
    let one = one_write all (a.1 ++ rest) (b.1 ++ later) w v (behind all front rest w ws a e) (behind all other later v vs b g) in
    let rec = one_fault ws vs (a.1 ++ rest) a.1 rest b.1 later p q k l a.3 refl f b.3 one.0 h in
    let count : line_count w.action ≡ line_count v.action = ap (λ (x : Write). line_count x.action) one.1 in
    let lines = rec.0 in (omega (arith, count, lines), rec.1)

pub one_bulk_fault : OneBulkFault
one_bulk_fault bytes at place k l a b =
    let one = one_fault a.0 b.0 bytes a.1 a.2 b.1 b.2 a.3 b.3 k l a.4 a.5 a.6 b.4 b.5 b.6 in (a.7 ∙ (one.0 ∙ sym b.7), one.1)
