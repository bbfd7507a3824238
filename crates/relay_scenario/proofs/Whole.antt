-- From the lines of a script and what is left to write to what the command says.
use Rattle.std.proofs.Common.{◌≡◌, ℕ, ◌≤◌, List, [], ◌++◌, length, Option, None, Some, Result, Ok, Err, refl, ap, sym, subst, ◌∙◌, inl, inr, append-nil, arith, true, false}
use Rattle.std.specs.Io.KnownBytes.{append_known, prepend_known, IsAtEnd}
use Rattle.relay_index.specs.States as index
use Rattle.relay_core.specs.declared.config.RelayConfig.{RelayConfig}
use Rattle.relay_world.specs.State.{World, fresh}
use Rattle.relay_ndjson.specs.Lines.{TakesText, piece_limit}
use Rattle.relay_scenario.specs.Config.{IsConfigFault}
use Rattle.relay_scenario.specs.declared.event_line.LineFault.{LineFault}
use Rattle.relay_scenario.specs.declared.event_line.LineFault.TheVariants as bad
use Rattle.relay_commands.specs.Calls.{NoneFails, OneAtMost, OneFails}
use Rattle.relay_scenario.specs.Flows.{Flows, IsWrittenInPart, Sink, fresh_sink, sink}
use Rattle.relay_scenario.specs.Scripts.{Begins, Closes, ClosesOr, FailsOnce, Halts, HasNoConfig, HasNoWorld, IsScript, Leaves, cut_short, failed_write, is_failed_write, no_memory, MayEnd, PassesText, PlaysScript, Runs, Stops, TakesConfig, Underway, UsesOneLine, Writes, failed_by, fault_at, failed_writes_by}
use Rattle.relay_commands.specs.Sending.{Moves}
use Rattle.relay_scenario.specs.declared.script.ScriptFault.{ScriptFault}
use Rattle.relay_scenario.specs.declared.script.ScriptFault.TheVariants as fault
use Rattle.relay_scenario.proofs.Underway.{cut_last, cut_off, flows_none, flows_on, flows_out, none_cut, uses_none}

-- ---- the end of the events, and the ending

stops_after : (events : ℕ) (now : Option (List ℕ)) (text rest : List ℕ) (written after : Sink) (r : Result Unit ScriptFault) → IsAtEnd now → PassesText text written rest after r → Stops events now r
stops_after events now text rest written after (Ok x) e p = e
stops_after events now text rest written after (Err (fault.BadLine line)) e p = absurd p
stops_after events now text rest written after (Err fault.Read) e p = tt
stops_after events now text rest written after (Err (fault.Write sent)) e p = tt
stops_after events now text rest written after (Err fault.Memory) e p = tt

leaves_after : (now : Option (List ℕ)) (out text rest : List ℕ) (before written after : Sink) (r : Result Unit ScriptFault) → IsAtEnd now → Flows out [] before text written → PassesText text written rest after r → Leaves now before rest after out r
leaves_after now out text rest before written after (Ok x) e f p = (p.0, flows_on out p.0 [] text rest before written after f p.1)
leaves_after now out text rest before written after (Err (fault.BadLine line)) e f p = absurd p
leaves_after now out text rest before written after (Err fault.Read) e f p = absurd p
leaves_after now out text rest before written after (Err (fault.Write sent)) e f p = (p.more, inl e, cut_off out text before written (record after { sent = sent }) f p)
leaves_after now out text rest before written after (Err fault.Memory) e f p = (p.0, inl e, flows_on out p.0 [] text rest before written after f p.1)

pub halts_at_end : (first now : Option (List ℕ)) (start w : World) (count : ℕ) (before : Sink) (text rest : List ℕ) (written after : Sink) (r : Result Unit ScriptFault) → Underway first now start w count before text written → IsAtEnd now → PassesText text written rest after r → Halts first now start before rest after r
halts_at_end first now start w count before text rest written after r u e p = record {
  events = u.events;
  rest = now;
  takes = u.takes;
  world = w;
  out = u.out;
  answers = u.answers;
  stops = stops_after (length u.events) now text rest written after r e p;
  uses = uses_none now;
  leaves = leaves_after now u.out text rest before written after r e u.flows p;
}

-- no read fails if the ending is written
pub reads_after : (text rest : List ℕ) (written after : Sink) (r : Result Unit ScriptFault) (old new : ℕ) → PassesText text written rest after r → new ≡ old → new ≡ failed_by r old
reads_after text rest written after (Ok x) old new p e = e
reads_after text rest written after (Err (fault.BadLine line)) old new p e = absurd p
reads_after text rest written after (Err fault.Read) old new p e = absurd p
reads_after text rest written after (Err (fault.Write sent)) old new p e = e
reads_after text rest written after (Err fault.Memory) old new p e = e

-- an allocation failed before the first event
pub halts_at_once : (first : Option (List ℕ)) (start : World) (before : Option (List ℕ)) (text : List ℕ) (written : Sink) → text ≡ [] → written ≡ fresh_sink before → Halts first first start (fresh_sink before) text written (Err fault.Memory)
halts_at_once first start before text written t w = record {
  events = [];
  rest = first;
  takes = refl;
  world = start;
  out = [];
  answers = (refl, refl);
  stops = tt;
  uses = uses_none first;
  leaves = ([], inr refl, subst (λ (xs : List ℕ). Flows [] [] (fresh_sink before) xs written) (sym t) (subst (λ (o : Sink). Flows [] [] (fresh_sink before) [] o) (sym w) (flows_none [] (fresh_sink before) (omega arith))));
}

-- ---- what was left is written

-- for a result that stays, everything was written
writes_all : (rest before : Option (List ℕ)) (written : Sink) (after : Option (List ℕ)) (text out : List ℕ) (answer : Result Unit ScriptFault) → Leaves rest (fresh_sink before) text written out answer → after ≡ append_known written.shown text → ((sent : ℕ) → answer ≡ Err (fault.Write sent) → ⊥) → Writes rest before after out answer
writes_all rest before written after text out (Ok x) l e n = (l.0, flows_out (out ++ l.0) text (fresh_sink before) written after l.1 e)
writes_all rest before written after text out (Err (fault.BadLine line)) l e n = flows_out out text (fresh_sink before) written after l e
writes_all rest before written after text out (Err fault.Read) l e n = flows_out out text (fresh_sink before) written after l e
writes_all rest before written after text out (Err (fault.Write sent)) l e n = absurd (n sent refl)
writes_all rest before written after text out (Err fault.Memory) l e n =
    (l.0, l.1, record { front = out ++ l.0; later = []; whole = sym (append-nil (out ++ l.0)); writes = flows_out (out ++ l.0) text (fresh_sink before) written after l.2 e })

-- except for a failed write, there was text to be written, and some of it was
pub record HasText (rest : Option (List ℕ)) (before written : Sink) (text out : List ℕ) : Type 0 where
  pub ending : List ℕ
  pub may : MayEnd rest ending
  pub flows : Flows (out ++ ending) [] before text written

-- no lines of an ending
no_ending : (rest : Option (List ℕ)) (before written : Sink) (text out : List ℕ) → Flows out [] before text written → HasText rest before written text out
no_ending rest before written text out f = record { ending = []; may = inr refl; flows = subst (λ (xs : List ℕ). Flows xs [] before text written) (sym (append-nil out)) f }

has_text : (events : ℕ) (rest : Option (List ℕ)) (before written : Sink) (text out : List ℕ) (answer : Result Unit ScriptFault) → Stops events rest answer → Leaves rest before text written out answer → ((sent : ℕ) → answer ≡ Err (fault.Write sent) → ⊥) → HasText rest before written text out
has_text events rest before written text out (Ok x) s l n = record { ending = l.0; may = inl s; flows = l.1 }
has_text events rest before written text out (Err (fault.BadLine line)) s l n = no_ending rest before written text out l
has_text events rest before written text out (Err fault.Read) s l n = no_ending rest before written text out l
has_text events rest before written text out (Err (fault.Write sent)) s l n = absurd (n sent refl)
has_text events rest before written text out (Err fault.Memory) s l n = record { ending = l.0; may = l.1; flows = l.2 }

-- a write failed at the end
cut_at_end : (rest : Option (List ℕ)) (before written after : Sink) (text out : List ℕ) → HasText rest before written text out → IsWrittenInPart written after text → (ending : List ℕ) × MayEnd rest ending × IsWrittenInPart before after (out ++ ending)
cut_at_end rest before written after text out h c = (h.ending, h.may, cut_last (out ++ h.ending) text before written after h.flows c)

-- what is said of the result, if that is said of the answer
pub record Ends (events : ℕ) (rest before after : Option (List ℕ)) (out : List ℕ) (result : Result Unit ScriptFault) : Type 0 where
  pub stops : Stops events rest result
  pub writes : Writes rest before after out result

ends_same : (events : ℕ) (rest before after : Option (List ℕ)) (out : List ℕ) (answer result : Result Unit ScriptFault) → result ≡ answer → Stops events rest answer → Writes rest before after out answer → Ends events rest before after out result
ends_same events rest before after out answer result e s w =
    subst (λ (r : Result Unit ScriptFault). Ends events rest before after out r) (sym e) (record { stops = s; writes = w })

ends_or : (events : ℕ) (rest before : Option (List ℕ)) (written : Sink) (after : Option (List ℕ)) (text out : List ℕ) (failed count : ℕ) (answer result : Result Unit ScriptFault) → ((sent : ℕ) → answer ≡ Err (fault.Write sent) → ⊥) → Stops events rest answer → Leaves rest (fresh_sink before) text written out answer → ClosesOr answer failed_write text written failed after count result → Ends events rest before after out result
ends_or events rest before written after text out failed count answer result n s l (inl c) =
    ends_same events rest before after out answer result c.0 s (writes_all rest before written after text out answer l c.1 n)
ends_or events rest before written after text out failed count answer result n s l (inr c) =
    ends_same events rest before after out (Err (fault.Write c.0)) result c.1 tt (cut_at_end rest (fresh_sink before) written (sink after c.0) text out (has_text events rest (fresh_sink before) written text out answer s l n) c.2)

ends : (events : ℕ) (rest before : Option (List ℕ)) (written : Sink) (after : Option (List ℕ)) (text out : List ℕ) (failed count : ℕ) (answer result : Result Unit ScriptFault) → Stops events rest answer → Leaves rest (fresh_sink before) text written out answer → Closes answer text written failed after count result → Ends events rest before after out result
ends events rest before written after text out failed count (Ok x) result s l c = ends_or events rest before written after text out failed count (Ok x) result (λ n e. cc) s l c
ends events rest before written after text out failed count (Err (fault.BadLine line)) result s l c = ends_or events rest before written after text out failed count (Err (fault.BadLine line)) result (λ n e. cc) s l c
ends events rest before written after text out failed count (Err fault.Read) result s l c = ends_or events rest before written after text out failed count (Err fault.Read) result (λ n e. cc) s l c
ends events rest before written after text out failed count (Err (fault.Write sent)) result s l c =
    ends_same events rest before after out (Err (fault.Write sent)) result c.0 tt (l.0, l.1, subst (λ (o : Option (List ℕ)). IsWrittenInPart (fresh_sink before) (sink o sent) (out ++ l.0)) (sym c.1) l.2)
ends events rest before written after text out failed count (Err fault.Memory) result s l (inl c) =
    ends_same events rest before after out (Err fault.Memory) result c.0 tt (writes_all rest before written after text out (Err fault.Memory) l c.1 (λ n e. cc))
ends events rest before written after text out failed count (Err fault.Memory) result s l (inr c) =
    let cut = cut_at_end rest (fresh_sink before) written (sink after c.0) text out (record { ending = l.0; may = l.1; flows = l.2 }) c.2 in
    ends_same events rest before after out (Err fault.Memory) result c.1 tt (cut.0, cut.1, record { front = cut.2.front; later = cut.2.later; whole = cut.2.whole; writes = ap (λ (k : Sink). k.shown) cut.2.writes })

runs : (start : index.State) (front left before : Option (List ℕ)) (written : Sink) (after : Option (List ℕ)) (held text : List ℕ) (failed count : ℕ) (answer result : Result Unit ScriptFault) → length held ≤ piece_limit → Begins start front (prepend_known held left) (fresh_sink before) text written answer → Closes answer text written failed after count result → Runs start front left before after result
runs start front left before written after held text failed count answer result h b c =
    let e = ends (length b.halts.events) b.halts.rest before written after text b.halts.out failed count answer result b.halts.stops b.halts.leaves c in record {
      text = b.line;
      first = b.first;
      config = b.config;
      takes_text = b.takes_text;
      is_config = b.is_config;
      events = b.halts.events;
      rest = b.halts.rest;
      takes = b.halts.takes;
      world = b.halts.world;
      out = b.halts.out;
      answers = b.halts.answers;
      stops = e.stops;
      reads = record { held = held; one_piece = h; uses = b.halts.uses };
      writes = e.writes;
    }

-- ---- no config

append_none : (o : Option (List ℕ)) → append_known o [] ≡ o
append_none None = refl
append_none (Some xs) = ap Some (append-nil xs)

-- nothing is to be written, so the answer stays
world_none : (front before : Option (List ℕ)) (written : Sink) (after : Option (List ℕ)) (text : List ℕ) (answer result : Result Unit ScriptFault) → text ≡ [] → written ≡ fresh_sink before → result ≡ answer → after ≡ append_known written.shown text → HasNoWorld front before before answer → HasNoWorld front before after result
world_none front before written after text answer result t w r a h =
    let same : after ≡ before = a ∙ ap (append_known written.shown) t ∙ append_none written.shown ∙ ap (λ (k : Sink). k.shown) w in
    subst (λ (x : Result Unit ScriptFault). HasNoWorld front before after x) (sym r) (subst (λ (o : Option (List ℕ)). HasNoWorld front before o answer) (sym same) h)

no_world_or : (front before : Option (List ℕ)) (written : Sink) (after : Option (List ℕ)) (text : List ℕ) (failed count : ℕ) (answer : Result Unit ScriptFault) (broken : ℕ → Result Unit ScriptFault) (result : Result Unit ScriptFault) → text ≡ [] → written ≡ fresh_sink before → HasNoWorld front before before answer → ClosesOr answer broken text written failed after count result → HasNoWorld front before after result
no_world_or front before written after text failed count answer broken result t w h (inl c) = world_none front before written after text answer result t w c.0 c.1 h
no_world_or front before written after text failed count answer broken result t w h (inr c) = absurd (none_cut written (sink after c.0) text t c.2)

no_world : (front before : Option (List ℕ)) (written : Sink) (after : Option (List ℕ)) (text : List ℕ) (failed count : ℕ) (answer result : Result Unit ScriptFault) → HasNoConfig front answer → text ≡ [] → written ≡ fresh_sink before → Closes answer text written failed after count result → HasNoWorld front before after result
no_world front before written after text failed count (Ok x) result h t w c = absurd h
no_world front before written after text failed count (Err (fault.BadLine line)) result h t w c = no_world_or front before written after text failed count (Err (fault.BadLine line)) failed_write result t w (h.0, h.1, refl) c
no_world front before written after text failed count (Err fault.Read) result h t w c = no_world_or front before written after text failed count (Err fault.Read) failed_write result t w refl c
no_world front before written after text failed count (Err (fault.Write sent)) result h t w c = absurd h
no_world front before written after text failed count (Err fault.Memory) result h t w c = no_world_or front before written after text failed count (Err fault.Memory) no_memory result t w refl c

pub is_script : (start : index.State) (front left before : Option (List ℕ)) (written : Sink) (after : Option (List ℕ)) (held text : List ℕ) (failed count : ℕ) (answer result : Result Unit ScriptFault) → length held ≤ piece_limit → PlaysScript start front (prepend_known held left) (fresh_sink before) text written answer → Closes answer text written failed after count result → IsScript start front left before after result
is_script start front left before written after held text failed count answer result p (inl b) c = inl (runs start front left before written after held text failed count answer result p b c)
is_script start front left before written after held text failed count answer result p (inr h) c =
    inr (no_world front before written after text failed count answer result h.0 h.2 h.3 c, record { held = held; one_piece = p; uses = h.1 })

-- ---- the answer, if it stays and if it does not

pub closes_at_once : (answer : Result Unit ScriptFault) (text : List ℕ) (written : Sink) (failed : ℕ) → is_failed_write answer ≡ true → Closes answer text written failed written.shown failed answer
closes_at_once (Ok x) text written failed e = absurd (cc)
closes_at_once (Err (fault.BadLine line)) text written failed e = absurd (cc)
closes_at_once (Err fault.Read) text written failed e = absurd (cc)
closes_at_once (Err (fault.Write sent)) text written failed e = (refl, refl, refl)
closes_at_once (Err fault.Memory) text written failed e = absurd (cc)

pub closes_written : (answer : Result Unit ScriptFault) (text : List ℕ) (written : Sink) (failed : ℕ) (after : Option (List ℕ)) (count : ℕ) → is_failed_write answer ≡ false → after ≡ append_known written.shown text → NoneFails failed count → Closes answer text written failed after count answer
closes_written (Ok x) text written failed after count e w n = inl (refl, w, n)
closes_written (Err (fault.BadLine line)) text written failed after count e w n = inl (refl, w, n)
closes_written (Err fault.Read) text written failed after count e w n = inl (refl, w, n)
closes_written (Err (fault.Write sent)) text written failed after count e w n = absurd (cc)
closes_written (Err fault.Memory) text written failed after count e w n = inl (refl, w, n)

pub closes_cut : (answer : Result Unit ScriptFault) (text : List ℕ) (written : Sink) (failed : ℕ) (after : Option (List ℕ)) (count sent : ℕ) → is_failed_write answer ≡ false → IsWrittenInPart written (sink after sent) text → OneFails failed count → Closes answer text written failed after count (cut_short answer sent)
closes_cut (Ok x) text written failed after count sent e w n = inr (sent, refl, w, n)
closes_cut (Err (fault.BadLine line)) text written failed after count sent e w n = inr (sent, refl, w, n)
closes_cut (Err fault.Read) text written failed after count sent e w n = inr (sent, refl, w, n)
closes_cut (Err (fault.Write m)) text written failed after count sent e w n = absurd (cc)
closes_cut (Err fault.Memory) text written failed after count sent e w n = inr (sent, refl, w, n)

-- all that was gathered moved
pub moves_all : (text rest : List ℕ) (sent count : ℕ) (before after : Option (List ℕ)) → Moves text sent before rest count after → rest ≡ [] → after ≡ append_known before text
moves_all text rest sent count before after m e =
    m.writes ∙ ap (append_known before) (sym (m.whole ∙ ap (λ x. m.part ++ x) e ∙ append-nil m.part))

-- ---- calls

calls_or : (old new before mid after : ℕ) (text : List ℕ) (written : Sink) (end : Option (List ℕ)) (answer result : Result Unit ScriptFault) → OneAtMost old new → mid ≡ before → (NoneFails before after → FailsOnce old new before after answer) → ClosesOr answer failed_write text written mid end after result → FailsOnce old new before after result
calls_or old new before mid after text written end answer result o m f (inl c) =
    subst (λ (r : Result Unit ScriptFault). FailsOnce old new before after r) (sym c.0) (f (c.2 ∙ m))
calls_or old new before mid after text written end answer result o m f (inr c) =
    subst (λ (r : Result Unit ScriptFault). FailsOnce old new before after r) (sym c.1) (o, subst (λ (n : ℕ). OneFails n after) m c.3)

pub fails_once : (old new before mid after : ℕ) (text : List ℕ) (written : Sink) (end : Option (List ℕ)) (answer result : Result Unit ScriptFault) → new ≡ failed_by answer old → mid ≡ failed_writes_by answer before → Closes answer text written mid end after result → FailsOnce old new before after result
fails_once old new before mid after text written end (Ok x) result r m c = calls_or old new before mid after text written end (Ok x) result (inl r) m (λ n. (r, n)) c
fails_once old new before mid after text written end (Err (fault.BadLine line)) result r m c = calls_or old new before mid after text written end (Err (fault.BadLine line)) result (inl r) m (λ n. (r, n)) c
fails_once old new before mid after text written end (Err fault.Read) result r m c = calls_or old new before mid after text written end (Err fault.Read) result (inr r) m (λ n. (r, n)) c
fails_once old new before mid after text written end (Err (fault.Write sent)) result r m c =
    subst (λ (x : Result Unit ScriptFault). FailsOnce old new before after x) (sym c.0) (inl r, c.2 ∙ m)
fails_once old new before mid after text written end (Err fault.Memory) result r m (inl c) =
    subst (λ (x : Result Unit ScriptFault). FailsOnce old new before after x) (sym c.0) (r, inl (c.2 ∙ m))
fails_once old new before mid after text written end (Err fault.Memory) result r m (inr c) =
    subst (λ (x : Result Unit ScriptFault). FailsOnce old new before after x) (sym c.1) (r, inr (subst (λ (n : ℕ). OneFails n after) m c.3))

-- ---- the config

-- the first line is at fault, or it was not read
no_config_by : (old new : Option (List ℕ)) (after : ℕ) (e : ScriptFault) → TakesConfig old new after (Err e) → HasNoConfig old (Err e)
no_config_by old new after (fault.BadLine line) h = h
no_config_by old new after fault.Read h = tt
no_config_by old new after (fault.Write sent) h = absurd h
no_config_by old new after fault.Memory h = tt

pub plays_none : (start : index.State) (old new : Option (List ℕ)) (before written : Sink) (after : ℕ) (text : List ℕ) (e : ScriptFault) → TakesConfig old new after (Err e) → UsesOneLine old new → text ≡ [] → written ≡ before → PlaysScript start old new before text written (Err e)
plays_none start old new before written after text e h u t w = inr (no_config_by old new after e h, u, t, w)

pub plays_on : (old new last : Option (List ℕ)) (before written : Sink) (after : ℕ) (text : List ℕ) (config : RelayConfig) (start : index.State) (world : World) (r : Result Unit ScriptFault) → TakesConfig old new after (Ok config) → world ≡ fresh config start → Halts new last world before text written r → PlaysScript start old last before text written r
plays_on old new last before written after text config start world r t s h = inl (record {
  line = t.0;
  first = new;
  config = config;
  takes_text = t.1;
  is_config = t.2;
  halts = subst (λ (w : World). Halts new last w before text written r) s h;
})

-- the first line is taken, and no config has it
pub no_config_on : (old new : Option (List ℕ)) (after : ℕ) (text : List ℕ) (e : LineFault) → TakesText old new text → after ≡ 1 → IsConfigFault text e → TakesConfig old new after (Err (fault_at e after))
no_config_on old new after text bad.Bad t a h = (a, inr (inr (text, new, t, h)))
no_config_on old new after text bad.Memory t a h = tt

prepend_none : (o : Option (List ℕ)) → prepend_known [] o ≡ o
prepend_none None = refl
prepend_none (Some xs) = refl

-- at the start nothing is held
pub plays_at_start : (start : index.State) (left last : Option (List ℕ)) (before written : Sink) (held text : List ℕ) (r : Result Unit ScriptFault) → held ≡ [] → PlaysScript start (prepend_known held left) last before text written r → PlaysScript start left last before text written r
plays_at_start start left last before written held text r e p =
    subst (λ (o : Option (List ℕ)). PlaysScript start o last before text written r) (ap (λ xs. prepend_known xs left) e ∙ prepend_none left) p
