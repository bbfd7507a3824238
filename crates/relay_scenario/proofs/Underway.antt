-- Events taken and played one after another, and what is written of their answers.
use Rattle.std.proofs.Common.{◌≡◌, ℕ, ◌+◌, ◌≤◌, min, List, [], ◌∷◌, ◌++◌, length, take, drop, Option, None, Some, Result, Ok, Err, refl, ap, sym, subst, ◌∙◌, arith, inl, inr, append_assoc, append-nil, length-append, length-drop}
use Rattle.std.specs.Io.KnownBytes.{append_known, prepend_known}
use Rattle.std.proofs.lemmas.List.{take-append-drop, length-take-le}
use Rattle.relay_action.proofs.Shown.{append_known-append}
use Rattle.relay_ndjson.specs.Lines.{IsLineBefore, IsOfOneLine, IsRaw, IsUnbroken, StopsInLine, TakesText, line_limit}
use Rattle.relay_ndjson.specs.declared.kind.LineKind.{LineKind}
use Rattle.relay_world.specs.declared.event.Event.{Event}
use Rattle.relay_world.specs.State.{World}
use Rattle.relay_world.specs.Steps.{Steps}
use Rattle.relay_scenario.specs.Events.{IsEventLine}
use Rattle.relay_scenario.specs.Flows.{Breaks, Flows, IsWrittenInPart, Sink, fresh_sink, sink, with_sent}
use Rattle.relay_action.specs.Streams.{most}
use Rattle.relay_commands.specs.Sending.{Moves, MovesPart}
use Rattle.relay_scenario.specs.declared.event_line.LineFault.{LineFault}
use Rattle.relay_scenario.specs.declared.event_line.LineFault.TheVariants as bad
use Rattle.relay_scenario.specs.Events.{IsLineFault}
use Rattle.relay_scenario.specs.Scripts.{Answers, Halts, HasNoEvent, IsNoEvent, Leaves, PassesText, PlaysOne, Stops, TakesEvent, TakesEvents, Underway, UsesOneLine, fault_at}
use Rattle.relay_scenario.specs.declared.script.ScriptFault.{ScriptFault}
use Rattle.relay_scenario.specs.declared.script.ScriptFault.TheVariants as fault

-- ---- text

append_known-nil : (w : Option (List ℕ)) → append_known w [] ≡ w
append_known-nil None = refl
append_known-nil (Some xs) = ap Some (append-nil xs)

-- what is shown and counted after two pieces is that of both
same_sink : (s t : Sink) → s.shown ≡ t.shown → s.sent ≡ t.sent → s ≡ t
same_sink s t e f = λ i. record { shown = e i; sent = f i }

-- nothing is written
sends_none : (w : Sink) → w.sent ≤ most → w ≡ with_sent w []
sends_none w h = same_sink w (with_sent w []) (sym (append_known-nil w.shown)) (omega (arith, h))

sends_both : (w : Sink) (xs ys : List ℕ) → with_sent (with_sent w xs) ys ≡ with_sent w (xs ++ ys)
sends_both w xs ys =
    let total = length-append xs ys in
    same_sink (with_sent (with_sent w xs) ys) (with_sent w (xs ++ ys)) (append_known-append w.shown xs ys) (omega (arith, total))

pub flows_none : (text : List ℕ) (written : Sink) → written.sent ≤ most → Flows [] text written text written
flows_none text written h = record { front = []; whole = append-nil text; writes = sends_none written h }

-- more follows what came before, and some of all that is written after what was written
pub flows_on : (a b text mid rest : List ℕ) (w u v : Sink) → Flows a text w mid u → Flows b mid u rest v → Flows (a ++ b) text w rest v
flows_on a b text mid rest w u v f g = record {
  front = f.front ++ g.front;
  whole =
      sym (append_assoc text a b) ∙ ap (λ t. t ++ b) f.whole ∙ append_assoc f.front mid b ∙ ap (λ t. f.front ++ t) g.whole
      ∙ sym (append_assoc f.front g.front rest);
  writes = g.writes ∙ ap (λ o. with_sent o g.front) f.writes ∙ sends_both w f.front g.front;
}

-- a line was added, and nothing written
pub flows_add : (text line longer : List ℕ) (w : Sink) → w.sent ≤ most → longer ≡ text ++ line → Flows line text w longer w
flows_add text line longer w h e = record { front = []; whole = sym e; writes = sends_none w h }

-- all was written
pub flows_out : (all text : List ℕ) (w u : Sink) (after : Option (List ℕ)) → Flows all [] w text u → after ≡ append_known u.shown text → after ≡ append_known w.shown all
flows_out all text w u after f e =
    e ∙ ap (λ o. append_known o text) (ap (λ (k : Sink). k.shown) f.writes) ∙ append_known-append w.shown f.front text ∙ ap (append_known w.shown) (sym f.whole)

no_length : (xs : List ℕ) → length xs ≡ 0 → xs ≡ []
no_length [] e = refl
no_length (x ∷ xs) e = absurd (omega (arith, e))

-- what was cut of the rest is cut of all
cut_within : (all front text : List ℕ) (w u v : Sink) → all ≡ front ++ text → u ≡ with_sent w front → IsWrittenInPart u v text → IsWrittenInPart w v all
cut_within all front text w u v e o c = record {
  front = front ++ c.front;
  later = c.later;
  whole = e ∙ ap (λ t. front ++ t) c.whole ∙ sym (append_assoc front c.front c.later);
  writes = c.writes ∙ ap (λ x. with_sent x c.front) o ∙ sends_both w front c.front;
  not_all = c.not_all;
}

-- a write failed after some was written
pub breaks_on : (a text mid : List ℕ) (w u v : Sink) → Flows a text w mid u → Breaks mid u v → Breaks text w v
breaks_on a text mid w u v f b = record {
  more = a ++ b.more;
  cut =
      let whole : text ++ (a ++ b.more) ≡ f.front ++ (mid ++ b.more) = sym (append_assoc text a b.more) ∙ ap (λ t. t ++ b.more) f.whole ∙ append_assoc f.front mid b.more in
      cut_within (text ++ (a ++ b.more)) f.front (mid ++ b.more) w u v whole f.writes b.cut;
}

pub cut_off : (all text : List ℕ) (w u v : Sink) → Flows all [] w text u → (b : Breaks text u v) → IsWrittenInPart w v (all ++ b.more)
cut_off all text w u v f b =
    let whole : all ++ b.more ≡ f.front ++ (text ++ b.more) = ap (λ t. t ++ b.more) f.whole ∙ append_assoc f.front text b.more in
    cut_within (all ++ b.more) f.front (text ++ b.more) w u v whole f.writes b.cut

pub cut_last : (all text : List ℕ) (w u v : Sink) → Flows all [] w text u → IsWrittenInPart u v text → IsWrittenInPart w v all
cut_last all text w u v f c = cut_within all f.front text w u v f.whole f.writes c

-- some of a text was written, and counted
pub flows_of_moves : (text rest : List ℕ) (sent count : ℕ) (before after : Option (List ℕ)) → Moves text sent before rest count after → Flows [] text (sink before sent) rest (sink after count)
flows_of_moves text rest sent count before after m =
    record { front = m.part; whole = append-nil text ∙ m.whole; writes = same_sink (sink after count) (with_sent (sink before sent) m.part) m.writes m.count_is }

-- a write of a text failed after its first bytes
pub cut_at : (text : List ℕ) (sent count : ℕ) (before after : Option (List ℕ)) → MovesPart text sent before after count → IsWrittenInPart (sink before sent) (sink after count) text
cut_at text sent count before after m =
    let few = m.less in
    let long : length (take m.cut text) ≡ m.cut = length-take-le m.cut text (omega (arith, few)) in
    record {
      front = take m.cut text;
      later = drop m.cut text;
      whole = sym (take-append-drop m.cut text);
      writes = same_sink (sink after count) (with_sent (sink before sent) (take m.cut text)) m.writes (m.count_is ∙ ap (λ n. min (sent + n) most) (sym long));
      not_all = λ e. let n = length-drop m.cut text in let k = ap length e in omega (arith, n, k, few);
    }

-- the rest of a text with nothing more
pub breaks_last : (text : List ℕ) (written after : Sink) → IsWrittenInPart written after text → Breaks text written after
breaks_last text written after c = record { more = []; cut = subst (λ (xs : List ℕ). IsWrittenInPart written after xs) (sym (append-nil text)) c }

-- the empty text is not cut
pub none_cut : (written after : Sink) (text : List ℕ) → text ≡ [] → IsWrittenInPart written after text → ⊥
none_cut written after text t c =
    let n = length-append c.front c.later in
    let m = ap length (sym t ∙ c.whole) in
    c.not_all (no_length c.later (omega (arith, n, m)))

-- ---- events

takes_more : (events : List Event) (e : Event) (old mid new : Option (List ℕ)) (text : List ℕ) → TakesEvents old mid events → TakesText mid new text → IsEventLine text e → TakesEvents old new (events ++ e ∷ [])
takes_more [] e old mid new text h t l = (new, text, subst (λ (o : Option (List ℕ)). TakesText o new text) h t, l, refl)
takes_more (x ∷ xs) e old mid new text h t l = (h.0, h.1, h.2, h.3, takes_more xs e h.0 mid new text h.4 t l)

answers_more : (events : List Event) (e : Event) (start w next : World) (out line : List ℕ) → Answers start events w out → PlaysOne w e next line → Answers start (events ++ e ∷ []) next (out ++ line)
answers_more [] e start w next out line h p =
    (p.answer, next, line, [], subst (λ (v : World). Steps v e p.answer next) h.0 p.steps, p.says, (refl, refl), ap (λ t. t ++ line) h.1 ∙ sym (append-nil line))
answers_more (x ∷ xs) e start w next out line h p =
    (h.0, h.1, h.2, h.3 ++ line, h.4, h.5, answers_more xs e h.1 w next h.3 line h.6 p, ap (λ t. t ++ line) h.7 ∙ append_assoc h.2 h.3 line)

pub underway_none : (front : Option (List ℕ)) (w : World) (count : ℕ) (text : List ℕ) (written : Option (List ℕ)) (sent : ℕ) → count ≡ 1 → text ≡ [] → sent ≡ 0 → Underway front front w w count (fresh_sink written) text (sink written sent)
underway_none front w count text written sent c t z = record {
  events = [];
  out = [];
  takes = refl;
  answers = (refl, refl);
  count_is = c;
  flows =
      subst (λ (n : ℕ). Flows [] [] (fresh_sink written) text (sink written n)) (sym z)
      (subst (λ (xs : List ℕ). Flows [] [] (fresh_sink written) xs (fresh_sink written)) (sym t) (flows_none [] (fresh_sink written) (omega arith)));
}

-- some was written
pub underway_written : (first now : Option (List ℕ)) (start w : World) (count : ℕ) (before : Sink) (text rest : List ℕ) (written after : Sink) → Underway first now start w count before text written → Flows [] text written rest after → Underway first now start w count before rest after
underway_written first now start w count before text rest written after u f = record {
  events = u.events;
  out = u.out;
  takes = u.takes;
  answers = u.answers;
  count_is = u.count_is;
  flows = subst (λ (xs : List ℕ). Flows xs [] before rest after) (append-nil u.out) (flows_on u.out [] [] text rest before written after u.flows f);
}

-- one more event was played
pub underway_more : (first now new : Option (List ℕ)) (start w next : World) (count after : ℕ) (before : Sink) (text longer : List ℕ) (written : Sink) (e : Event) (line : List ℕ) → written.sent ≤ most → Underway first now start w count before text written → TakesEvent now new count after (Ok (Some e)) → PlaysOne w e next line → longer ≡ text ++ line → Underway first new start next after before longer written
underway_more first now new start w next count after before text longer written e line h u t p l = record {
  events = u.events ++ e ∷ [];
  out = u.out ++ line;
  takes = takes_more u.events e first now new t.0 u.takes t.1 t.2;
  answers = answers_more u.events e start w next u.out line u.answers p;
  count_is = let n = length-append u.events (e ∷ []) in let c = u.count_is in let a = t.3 in omega (arith, n, c, a);
  flows = flows_on u.out line [] text longer before written written u.flows (flows_add text line longer written h l);
}

-- ---- why it ends

prepend_none : (o : Option (List ℕ)) → prepend_known [] o ≡ o
prepend_none None = refl
prepend_none (Some xs) = refl

line_part : (rest : Option (List ℕ)) (text bytes : List ℕ) → IsLineBefore rest text bytes → IsOfOneLine bytes
line_part rest text bytes (inl l) = inr (l.0, l.1, l.4)
line_part rest text bytes (inr l) = inl (subst (λ (xs : List ℕ). IsUnbroken xs) (sym l.3) l.0)

raw_short : (text raw : List ℕ) → IsRaw text raw → length raw ≤ length text + 1
raw_short text raw (inl e) = let n = length-append text (13 ∷ []) in let m = ap length e in omega (arith, n, m)
raw_short text raw (inr e) = let m = ap length e.0 in omega (arith, m)

line_short : (rest : Option (List ℕ)) (text bytes : List ℕ) → IsLineBefore rest text bytes → length bytes ≤ line_limit + 2
line_short rest text bytes (inl l) =
    let r = raw_short text l.0 l.2 in let n = length-append l.0 (10 ∷ []) in let m = ap length l.4 in let t = l.3 in omega (arith, r, n, m, t)
line_short rest text bytes (inr l) = let m = ap length l.3 in let t = l.2 in omega (arith, m, t)

-- nothing was used
pub uses_none : (o : Option (List ℕ)) → UsesOneLine o o
uses_none o = record { bytes = []; rest = sym (prepend_none o); part = inl refl; short = omega arith }

-- a line was taken
pub uses_text : (old new : Option (List ℕ)) (text : List ℕ) → TakesText old new text → UsesOneLine old new
uses_text old new text t = record { bytes = t.bytes; rest = t.taken; part = line_part new text t.bytes t.line; short = line_short new text t.bytes t.line }

pub halts_at_write : (first now : Option (List ℕ)) (start w : World) (count : ℕ) (before : Sink) (text rest : List ℕ) (written after : Sink) (sent : ℕ) → Underway first now start w count before text written → IsWrittenInPart written (record after { sent = sent }) text → Halts first now start before rest after (Err (fault.Write sent))
halts_at_write first now start w count before text rest written after sent u b =
    record {
      events = u.events;
      rest = now;
      takes = u.takes;
      world = w;
      out = u.out;
      answers = u.answers;
      stops = tt;
      uses = uses_none now;
      leaves = ([], inr refl, subst (λ (xs : List ℕ). IsWrittenInPart before (record after { sent = sent }) xs) (sym (append-nil u.out)) (cut_last u.out text before written (record after { sent = sent }) u.flows b));
    }

stops_at_fault : (events count : ℕ) (now : Option (List ℕ)) (e : ScriptFault) → count ≡ events + 1 → HasNoEvent now count e → Stops events now (Err e)
stops_at_fault events count now (fault.BadLine line) c h =
    (let l = h.0 in omega (arith, l, c), subst (λ (n : ℕ). IsNoEvent n now) c h.1)
stops_at_fault events count now fault.Read c h = tt
stops_at_fault events count now (fault.Write sent) c h = tt
stops_at_fault events count now fault.Memory c h = tt

leaves_at_fault : (now : Option (List ℕ)) (count : ℕ) (before : Sink) (text : List ℕ) (written : Sink) (out : List ℕ) (e : ScriptFault) → HasNoEvent now count e → Flows out [] before text written → Leaves now before text written out (Err e)
leaves_at_fault now count before text written out (fault.BadLine line) h f = f
leaves_at_fault now count before text written out fault.Read h f = f
leaves_at_fault now count before text written out (fault.Write sent) h f = absurd h
leaves_at_fault now count before text written out fault.Memory h f = ([], inr refl, subst (λ (xs : List ℕ). Flows xs [] before text written) (sym (append-nil out)) f)

pub halts_at_fault : (first now last : Option (List ℕ)) (start w : World) (count : ℕ) (before : Sink) (text longer : List ℕ) (written : Sink) (e : ScriptFault) → Underway first now start w count before text written → HasNoEvent now count e → longer ≡ text → UsesOneLine now last → Halts first last start before longer written (Err e)
halts_at_fault first now last start w count before text longer written e u h same one = record {
  events = u.events;
  rest = now;
  takes = u.takes;
  world = w;
  out = u.out;
  answers = u.answers;
  stops = stops_at_fault (length u.events) count now e u.count_is h;
  uses = one;
  leaves = subst (λ (xs : List ℕ). Leaves now before xs written u.out (Err e)) (sym same) (leaves_at_fault now count before text written u.out e h u.flows);
}

-- nothing changed
pub underway_same : (first now new : Option (List ℕ)) (start w next : World) (count after : ℕ) (before : Sink) (text longer : List ℕ) (written : Sink) → Underway first now start w count before text written → new ≡ now → next ≡ w → after ≡ count → longer ≡ text → Underway first new start next after before longer written
underway_same first now new start w next count after before text longer written u n v a l = record {
  events = u.events;
  out = u.out;
  takes = subst (λ (o : Option (List ℕ)). TakesEvents first o u.events) (sym n) u.takes;
  answers = subst (λ (x : World). Answers start u.events x u.out) (sym v) u.answers;
  count_is = a ∙ u.count_is;
  flows = subst (λ (xs : List ℕ). Flows u.out [] before xs written) (sym l) u.flows;
}

-- the line at the front is taken, and no event has it
pub no_event_on : (old new : Option (List ℕ)) (count after : ℕ) (text : List ℕ) (e : LineFault) → TakesText old new text → after ≡ count + 1 → IsLineFault text e → HasNoEvent old count (fault_at e after)
no_event_on old new count after text bad.Bad t a h = (a, inr (text, new, t, h))
no_event_on old new count after text bad.Memory t a h = tt

-- ---- the ending

-- what passes after what has passed
pub passes_on : (a text mid rest : List ℕ) (w u v : Sink) (r : Result Unit ScriptFault) → Flows a text w mid u → PassesText mid u rest v r → PassesText text w rest v r
passes_on a text mid rest w u v (Ok x) f p = (a ++ p.0, flows_on a p.0 text mid rest w u v f p.1)
passes_on a text mid rest w u v (Err (fault.Write sent)) f p = breaks_on a text mid w u (record v { sent = sent }) f p
passes_on a text mid rest w u v (Err fault.Memory) f p = (a ++ p.0, flows_on a p.0 text mid rest w u v f p.1)
passes_on a text mid rest w u v (Err (fault.BadLine line)) f p = absurd p
passes_on a text mid rest w u v (Err fault.Read) f p = absurd p

-- a line was added, and then some was written
pub line_passes : (text line mid rest : List ℕ) (w v : Sink) → w.sent ≤ most → mid ≡ text ++ line → Flows [] mid w rest v → Flows (line ++ []) text w rest v
line_passes text line mid rest w v h e f = flows_on line [] text mid rest w w v (flows_add text line mid w h e) f

pub line_breaks : (text line mid : List ℕ) (w v : Sink) → w.sent ≤ most → mid ≡ text ++ line → Breaks mid w v → Breaks text w v
line_breaks text line mid w v h e b = breaks_on line text mid w w v (flows_add text line mid w h e) b

-- the reader of lines stopped in a line
pub uses_stopped : (old new : Option (List ℕ)) (held : List ℕ) (k : LineKind) → StopsInLine old new held k → UsesOneLine old new
uses_stopped old new held k s = record { bytes = s.used; rest = s.rest; part = s.part; short = s.short }

-- nothing was taken
pub uses_same : (old new : Option (List ℕ)) → new ≡ old → UsesOneLine old new
uses_same old new e = subst (λ (o : Option (List ℕ)). UsesOneLine old o) (sym e) (uses_none old)

-- the count stayed
pub underway_counted : (first now : Option (List ℕ)) (start w : World) (count : ℕ) (before : Sink) (text : List ℕ) (shown : Option (List ℕ)) (n m : ℕ) → m ≡ n → Underway first now start w count before text (sink shown n) → Underway first now start w count before text (sink shown m)
underway_counted first now start w count before text shown n m e u = subst (λ (k : ℕ). Underway first now start w count before text (sink shown k)) (sym e) u

pub halts_counted : (first last : Option (List ℕ)) (start : World) (before : Sink) (text : List ℕ) (shown : Option (List ℕ)) (n m : ℕ) (r : Result Unit ScriptFault) → m ≡ n → Halts first last start before text (sink shown n) r → Halts first last start before text (sink shown m) r
halts_counted first last start before text shown n m r e h = subst (λ (k : ℕ). Halts first last start before text (sink shown k) r) (sym e) h
