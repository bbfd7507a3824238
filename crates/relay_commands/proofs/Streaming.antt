-- How `lines` ends.
use Rattle.std.proofs.Common.{◌≡◌, ℕ, ◌≤◌, List, [], length, take, Option, Result, Ok, Err, Bool, true, false, if◌then◌else◌, ap, sym, ◌∙◌, subst, arith, inl, inr}
use Rattle.std.proofs.lemmas.Grind.{common_steps}
use Rattle.std.specs.Io.KnownBytes.{append_known}
use Rattle.relay_action.specs.Streams.{one_more}
use Rattle.relay_ndjson.specs.Lines.{is_read}
use Rattle.relay_ndjson.specs.Operations.{Operation}
use Rattle.relay_ndjson.specs.Reading.{Reading, Parsing, start, reading, fresh}
use Rattle.relay_ndjson.specs.declared.parser.Phase.TheVariants as phase
use Rattle.relay_ndjson.proofs.Pieces.{prepend_nothing}
use Rattle.relay_commands.specs.Calls.{NoneFails, OneFails, OneAtMost, FailsOnce}
use Rattle.relay_ndjson.specs.Lines.{piece_limit}
use Rattle.relay_commands.specs.Lines.{Concludes, Deals, IsCutOff, Streams, Writes, failed_by, lines_of}
use Rattle.relay_commands.specs.Passing.{Passes, FailsInPass}
use Rattle.relay_commands.specs.Sending.{Closes, FinishesOrFails, MovesPart, WritesAllBut}
use Rattle.relay_commands.specs.declared.lines.LinesFault.{LinesFault}
use Rattle.relay_commands.specs.declared.lines.LinesFault.TheVariants as fault
use Rattle.relay_commands.proofs.Writing.{writes_all, writes_part}

-- a parser that has read nothing is at the front of its stream
pub reading-start : (left : Option (List ℕ)) (failed : ℕ) (default : Option (List ℕ)) (p : Parsing) → p ≡ start default → reading left failed p ≡ fresh left failed default
reading-start left failed default p e =
    ap (reading left failed) e
    ∙ ap (λ (a : Option (List ℕ)). record { ahead = a; held = []; count = 0; used = 0; line = 0; phase = phase.Open; default = default; failed = failed }) (prepend_nothing left)

take-all : (xs : List ℕ) → xs ≡ take (length xs) xs
take-all xs = grind (arith, common_steps)

-- all of a text is a prefix of it
some_of_all : (before after : Option (List ℕ)) (text : List ℕ) → after ≡ append_known before text → Writes before after text (Err fault.Memory)
some_of_all before after text e = (length text, e ∙ ap (append_known before) (take-all text))

-- ---- what was written

write_fault : (before mid after : Option (List ℕ)) (all text : List ℕ) (sent n : ℕ) → WritesAllBut before mid all text sent → MovesPart text sent mid after n → Writes before after all (Err (fault.Write n))
write_fault before mid after all text sent n w m =
    let p = writes_part before mid after all text sent n w m in (p.cut, p.less, p.count_is, p.writes)

memory_fault : (before mid after : Option (List ℕ)) (all text : List ℕ) (sent n : ℕ) → WritesAllBut before mid all text sent → MovesPart text sent mid after n → Writes before after all (Err fault.Memory)
memory_fault before mid after all text sent n w m =
    let p = writes_part before mid after all text sent n w m in (p.cut, p.writes)

-- a write failed while a text was written
pub fails_inside : (first : ℕ) (old rest : Reading) (left : Option (List ℕ)) (failed : ℕ) (parser : Parsing) (before mid after : Option (List ℕ)) (ops : List Operation) (text : List ℕ) (sent n : ℕ) → Deals first old rest ops → IsCutOff first old.failed rest (reading left failed parser) ops → length parser.held ≤ piece_limit → WritesAllBut before mid (lines_of first ops) text sent → MovesPart text sent mid after n → Streams first old left failed before after (Err (fault.Write n))
fails_inside first old rest left failed parser before mid after ops text sent n d stops held w m = record {
  ops = ops;
  rest = rest;
  parser = parser;
  deals = d;
  stops = stops;
  one_piece = held;
  writes = write_fault before mid after (lines_of first ops) text sent n w m;
}

-- the result, or a failed write in its place
finishes : (first : ℕ) (old : Reading) (left : Option (List ℕ)) (failed : ℕ) (before mid after : Option (List ℕ)) (text : List ℕ) (sent f g : ℕ) (answer result : Result ℕ LinesFault) → (p : Passes first old left failed before mid text sent answer) → Concludes first p.rest (reading left failed p.parser) p.ops answer → failed ≡ failed_by answer old.failed → WritesAllBut before mid (lines_of first p.ops) text sent → (after ≡ append_known before (lines_of first p.ops) → Writes before after (lines_of first p.ops) answer) → FinishesOrFails answer text sent mid f after g result → Streams first old left failed before after result
finishes first old left failed before mid after text sent f g answer result p ends reads w base (inl h) =
    subst (λ (r : Result ℕ LinesFault). Streams first old left failed before after r) (sym h.same) (record {
      ops = p.ops;
      rest = p.rest;
      parser = p.parser;
      deals = p.deals;
      stops = p.stops;
      one_piece = p.one_piece;
      writes = base (writes_all before mid after (lines_of first p.ops) text sent w h.writes);
    })
finishes first old left failed before mid after text sent f g answer result p ends reads w base (inr h) =
    subst (λ (r : Result ℕ LinesFault). Streams first old left failed before after r) (sym h.2) (fails_inside first old p.rest left failed p.parser before mid after p.ops text sent h.0 p.deals (inr (answer, ends, reads)) p.one_piece w h.1.part)

-- what was passed on, and then closed
pub closes : (first : ℕ) (old : Reading) (left : Option (List ℕ)) (failed : ℕ) (before mid after : Option (List ℕ)) (text : List ℕ) (sent e f g : ℕ) (answer result : Result ℕ LinesFault) → Passes first old left failed before mid text sent answer → FailsInPass old.failed failed e f answer → Closes answer text sent mid f after g result → Streams first old left failed before after result
closes first old left failed before mid after text sent e f g (Ok n) result p calls c =
    finishes first old left failed before mid after text sent f g (Ok n) result p p.stops calls.0 p.leaves (λ w. w) c
closes first old left failed before mid after text sent e f g (Err (fault.Input i)) result p calls c =
    finishes first old left failed before mid after text sent f g (Err (fault.Input i)) result p p.stops calls.0 p.leaves (λ w. w) c
closes first old left failed before mid after text sent e f g (Err (fault.VersionsSpent line)) result p calls c =
    finishes first old left failed before mid after text sent f g (Err (fault.VersionsSpent line)) result p p.stops calls.0 p.leaves (λ w. w) c
closes first old left failed before mid after text sent e f g (Err (fault.Write m)) result p calls c =
    subst (λ (r : Result ℕ LinesFault). Streams first old left failed before after r) (sym c.0) (record {
      ops = p.ops;
      rest = p.rest;
      parser = p.parser;
      deals = p.deals;
      stops = p.stops;
      one_piece = p.one_piece;
      writes = subst (λ (w : Option (List ℕ)). Writes before w (lines_of first p.ops) (Err (fault.Write m))) (sym c.1) p.leaves;
    })
closes first old left failed before mid after text sent e f g (Err fault.Memory) result p calls (inl h) =
    subst (λ (r : Result ℕ LinesFault). Streams first old left failed before after r) (sym h.same) (record {
      ops = p.ops;
      rest = p.rest;
      parser = p.parser;
      deals = p.deals;
      stops = p.stops;
      one_piece = p.one_piece;
      writes = some_of_all before after (lines_of first p.ops) (writes_all before mid after (lines_of first p.ops) text sent p.leaves h.writes);
    })
closes first old left failed before mid after text sent e f g (Err fault.Memory) result p calls (inr h) =
    subst (λ (r : Result ℕ LinesFault). Streams first old left failed before after r) (sym h.2) (record {
      ops = p.ops;
      rest = p.rest;
      parser = p.parser;
      deals = p.deals;
      stops = p.stops;
      one_piece = p.one_piece;
      writes = memory_fault before mid after (lines_of first p.ops) text sent h.0 p.leaves h.1.part;
    })

-- ---- which calls failed

one_from : (before mid after : ℕ) → NoneFails before mid → OneFails mid after → OneFails before after
one_from before mid after e h = subst (λ (n : ℕ). OneFails n after) e h

none_then_none : (before mid after : ℕ) → NoneFails before mid → NoneFails mid after → NoneFails before after
none_then_none before mid after e h = h ∙ e

-- whatever the reader did, no more than one of its calls failed
read_at_most_once : (old new : ℕ) (b : Bool) → new ≡ (if b then one_more old else old) → OneAtMost old new
read_at_most_once old new true h = inr h
read_at_most_once old new false h = inl h

calls_after : (old new before mid after : ℕ) (text : List ℕ) (sent : ℕ) (from to : Option (List ℕ)) (answer result : Result ℕ LinesFault) → NoneFails before mid → OneAtMost old new → (NoneFails before after → FailsOnce old new before after answer) → FinishesOrFails answer text sent from mid to after result → FailsOnce old new before after result
calls_after old new before mid after text sent from to answer result e r base (inl h) =
    subst (λ (a : Result ℕ LinesFault). FailsOnce old new before after a) (sym h.same) (base (none_then_none before mid after e h.calls))
calls_after old new before mid after text sent from to answer result e r base (inr h) =
    subst (λ (a : Result ℕ LinesFault). FailsOnce old new before after a) (sym h.2) (r, one_from before mid after e h.1.call)

pub calls_at_close : (old new before mid after : ℕ) (text : List ℕ) (sent : ℕ) (from to : Option (List ℕ)) (answer result : Result ℕ LinesFault) → FailsInPass old new before mid answer → Closes answer text sent from mid to after result → FailsOnce old new before after result
calls_at_close old new before mid after text sent from to (Ok n) result h c =
    calls_after old new before mid after text sent from to (Ok n) result h.1 (inl h.0) (λ e. (h.0, e)) c
calls_at_close old new before mid after text sent from to (Err (fault.Input e)) result h c =
    calls_after old new before mid after text sent from to (Err (fault.Input e)) result h.1 (read_at_most_once old new (is_read e.kind) h.0) (λ s. (h.0, s)) c
calls_at_close old new before mid after text sent from to (Err (fault.VersionsSpent line)) result h c =
    calls_after old new before mid after text sent from to (Err (fault.VersionsSpent line)) result h.1 (inl h.0) (λ e. (h.0, e)) c
calls_at_close old new before mid after text sent from to (Err (fault.Write m)) result h c =
    subst (λ (a : Result ℕ LinesFault). FailsOnce old new before after a) (sym c.0) (inl h.0, subst (λ (n : ℕ). OneFails before n) (sym c.2) h.1)
calls_at_close old new before mid after text sent from to (Err fault.Memory) result h (inl c) =
    subst (λ (a : Result ℕ LinesFault). FailsOnce old new before after a) (sym c.same) (h.0, inl (none_then_none before mid after h.1 c.calls))
calls_at_close old new before mid after text sent from to (Err fault.Memory) result h (inr c) =
    subst (λ (a : Result ℕ LinesFault). FailsOnce old new before after a) (sym c.2) (h.0, inr (one_from before mid after h.1 c.1.call))
