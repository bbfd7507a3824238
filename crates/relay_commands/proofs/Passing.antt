-- Operations that are passed on one after another.
use Rattle.std.proofs.Common.{◌≡◌, ℕ, ◌+◌, ◌-◌, ◌≤◌, List, [], ◌∷◌, ◌++◌, length, Option, Ok, Err, refl, ap, sym, ◌∙◌, subst, arith, inl, inr}
use Rattle.relay_action.specs.declared.write.Write.{Write}
use Rattle.relay_action.specs.Limits.{last_version}
use Rattle.relay_ndjson.specs.Bulk.{write_text}
use Rattle.relay_ndjson.specs.Lines.{piece_limit}
use Rattle.relay_ndjson.specs.Operations.{Operation}
use Rattle.relay_ndjson.specs.Reading.{Reading, Parsing, Ends, Fails, Takes, reading}
use Rattle.relay_ndjson.specs.declared.kind.InputFault.{InputFault}
use Rattle.relay_ndjson.specs.declared.kind.LineKind.{LineKind}
use Rattle.relay_ndjson.specs.declared.kind.LineKind.TheVariants as kind
use Rattle.relay_ndjson.specs.declared.parser.Phase.TheVariants as phase
use Rattle.relay_commands.specs.Lines.{Deals, LacksMemory, Stops, failed_by, lines_of, write_of}
use Rattle.relay_commands.specs.Passing.{IsNoWrite, IsNumbered, IsWrite, Leaves, Passes, fault_of, fault_of_kind}
use Rattle.relay_commands.specs.Sending.{Moves, MovesPart, WritesAllBut}
use Rattle.relay_commands.specs.declared.lines.LinesFault.{LinesFault}
use Rattle.relay_commands.specs.declared.lines.LinesFault.TheVariants as fault
use Rattle.relay_words.proofs.Taken.{takes_more}
use Rattle.relay_commands.proofs.Versions.{lines_of-push, version_more}
use Rattle.relay_commands.proofs.Writing.{writes_nothing, writes_after_move, writes_more, writes_part}

-- the operations so far, which lead from the start to here, and what was written of their text
pub record Underway (first version : ℕ) (old now : Reading) (before written : Option (List ℕ)) (text : List ℕ) (sent : ℕ) : Type 0 where
  pub ops : List Operation
  pub deals : Deals first old now ops
  pub open_phase : now.phase ≡ phase.Open
  pub one_piece : length now.held ≤ piece_limit
  pub version_is : version ≡ first + length ops
  pub writes : WritesAllBut before written (lines_of first ops) text sent

pub underway_none : (first : ℕ) (old : Reading) (before : Option (List ℕ)) (text : List ℕ) (sent : ℕ) → first ≤ last_version → old.phase ≡ phase.Open → length old.held ≤ piece_limit → text ≡ [] → sent ≡ 0 → Underway first first old old before before text sent
underway_none first old before text sent within open_phase held e f = record {
  ops = [];
  deals = record { takes = refl; within = omega (arith, within) };
  open_phase = open_phase;
  one_piece = held;
  version_is = omega arith;
  writes = subst (λ (t : List ℕ). WritesAllBut before before [] t sent) (sym e) (subst (λ (n : ℕ). WritesAllBut before before [] [] n) (sym f) (writes_nothing before));
}

-- some of the text was written
pub underway_moved : (first version : ℕ) (old now : Reading) (before written after : Option (List ℕ)) (text rest : List ℕ) (sent count : ℕ) → Underway first version old now before written text sent → Moves text sent written rest count after → Underway first version old now before after rest count
underway_moved first version old now before written after text rest sent count u m = record {
  ops = u.ops;
  deals = u.deals;
  open_phase = u.open_phase;
  one_piece = u.one_piece;
  version_is = u.version_is;
  writes = writes_after_move before written after (lines_of first u.ops) text rest sent count u.writes m;
}

-- one more operation was taken, and its lines were added
pub underway_more : (first version : ℕ) (old now next : Reading) (before written : Option (List ℕ)) (text text' : List ℕ) (sent sent' : ℕ) (w : Write) → Underway first version old now before written text sent → IsWrite version now next w → length next.held ≤ piece_limit → text' ≡ text ++ write_text w → sent' ≡ sent → Underway first (version + 1) old next before written text' sent'
underway_more first version old now next before written text text' sent sent' w u one held e f =
    let ops = u.ops ++ one.op ∷ [] in
    let more : version + 1 ≡ first + length ops = version_more first version u.ops one.op u.version_is in
    let added : text' ≡ text ++ write_text (write_of one.op version) = e ∙ ap (λ x. text ++ write_text x) one.write in
    record {
      ops = ops;
      deals = record {
        takes = takes_more old now next u.ops one.blank one.op u.deals.takes one.next;
        within = let a = one.within in omega (arith, more, a);
      };
      open_phase = one.next.phase;
      one_piece = held;
      version_is = more;
      writes = subst (λ (n : ℕ). WritesAllBut before written (lines_of first ops) text' n) (sym f) (writes_more before written (lines_of first u.ops) text text' (write_text (write_of one.op version)) (lines_of first ops) sent u.writes added (lines_of-push first version u.ops one.op u.version_is));
    }

-- ---- how it stops

-- a write failed
pub stops_inside : (first version : ℕ) (old : Reading) (left : Option (List ℕ)) (failed : ℕ) (parser : Parsing) (before written after : Option (List ℕ)) (text text' : List ℕ) (sent sent' n : ℕ) → Underway first version old (reading left failed parser) before written text sent → MovesPart text sent written after n → failed ≡ old.failed → Passes first old left failed before after text' sent' (Err (fault.Write n))
stops_inside first version old left failed parser before written after text text' sent sent' n u m reads =
    let p = writes_part before written after (lines_of first u.ops) text sent n u.writes m in record {
      ops = u.ops;
      rest = reading left failed parser;
      parser = parser;
      deals = u.deals;
      stops = inl (refl, reads);
      one_piece = u.one_piece;
      leaves = (p.cut, p.less, p.count_is, p.writes);
    }

-- the end
pub stops_at_end : (first version : ℕ) (old now : Reading) (left : Option (List ℕ)) (failed : ℕ) (parser : Parsing) (before written : Option (List ℕ)) (text text' : List ℕ) (sent sent' : ℕ) → Underway first version old now before written text sent → Ends now (reading left failed parser) → length parser.held ≤ piece_limit → text' ≡ text → sent' ≡ sent → Passes first old left failed before written text' sent' (Ok (version - first))
stops_at_end first version old now left failed parser before written text text' sent sent' u end held e f = record {
  ops = u.ops;
  rest = now;
  parser = parser;
  deals = u.deals;
  stops = (end, let v = u.version_is in omega (arith, v));
  one_piece = held;
  leaves = subst (λ (t : List ℕ). WritesAllBut before written (lines_of first u.ops) t sent') (sym e) (subst (λ (n : ℕ). WritesAllBut before written (lines_of first u.ops) text n) (sym f) u.writes);
}

stops_of : (first failed version : ℕ) (rest new : Reading) (ops : List Operation) (e : LinesFault) → IsNoWrite version rest new e → version ≡ first + length ops → first + length ops ≤ last_version + 1 → Stops first failed rest new ops (Err e)
stops_of first failed version rest new ops (fault.Input e) h v within = h
stops_of first failed version rest new ops (fault.VersionsSpent line) h v within =
    let past = h.past in record { blank = h.blank; op = h.op; next = h.next; line_is = h.line_is; none_left = omega (arith, v, within, past) }
stops_of first failed version rest new ops (fault.Write sent) h v within = absurd h
stops_of first failed version rest new ops fault.Memory h v within = h

leaves_of : (version : ℕ) (rest new : Reading) (before written : Option (List ℕ)) (all text : List ℕ) (sent : ℕ) (e : LinesFault) → IsNoWrite version rest new e → WritesAllBut before written all text sent → Leaves before written all text sent (Err e)
leaves_of version rest new before written all text sent (fault.Input e) h w = w
leaves_of version rest new before written all text sent (fault.VersionsSpent line) h w = w
leaves_of version rest new before written all text sent (fault.Write n) h w = absurd h
leaves_of version rest new before written all text sent fault.Memory h w = w

-- a fault
pub stops_at_fault : (first version : ℕ) (old now : Reading) (left : Option (List ℕ)) (failed : ℕ) (parser : Parsing) (before written : Option (List ℕ)) (text text' : List ℕ) (sent sent' : ℕ) (e : LinesFault) → Underway first version old now before written text sent → IsNoWrite version now (reading left failed parser) e → length parser.held ≤ piece_limit → text' ≡ text → sent' ≡ sent → Passes first old left failed before written text' sent' (Err e)
stops_at_fault first version old now left failed parser before written text text' sent sent' e u h held same count = record {
  ops = u.ops;
  rest = now;
  parser = parser;
  deals = u.deals;
  stops = stops_of first old.failed version now (reading left failed parser) u.ops e h u.version_is u.deals.within;
  one_piece = held;
  leaves = leaves_of version now (reading left failed parser) before written (lines_of first u.ops) text' sent' e h (subst (λ (t : List ℕ). WritesAllBut before written (lines_of first u.ops) t sent') (sym same) (subst (λ (n : ℕ). WritesAllBut before written (lines_of first u.ops) text n) (sym count) u.writes));
}

-- ---- what the reader's fault is

no_write_of_kind : (version : ℕ) (rest new : Reading) (e : InputFault) (k : LineKind) → k ≡ e.kind → Fails rest new e → IsNoWrite version rest new (fault_of_kind e k)
no_write_of_kind version rest new e kind.Memory s f = inl (e, f, sym s)
no_write_of_kind version rest new e other s f = record { fault = f; not_memory = λ m. let bad : other ≡ kind.Memory = s ∙ m in cc }

pub no_write_of : (version : ℕ) (rest new : Reading) (e : InputFault) → Fails rest new e → IsNoWrite version rest new (fault_of e)
no_write_of version rest new e f = no_write_of_kind version rest new e e.kind refl f

-- the write was there, and an allocation for its lines failed
pub lacks_lines : (version : ℕ) (rest new : Reading) (w : Write) → IsWrite version rest new w → LacksMemory rest new
lacks_lines version rest new w one = inr (one.blank, one.op, one.next)

-- ---- the result of the next operation

pub write_after : (version n line : ℕ) (old new : Reading) (op : Operation) (w : Write) → Takes old new n op → IsNumbered op version line (Ok w) → IsWrite version old new w
write_after version n line old new op w t h = record { blank = n; op = op; next = t; write = h.0; within = h.1 }

pub past_after : (version n line : ℕ) (old new : Reading) (op : Operation) (e : LinesFault) → Takes old new n op → line ≡ new.line → IsNumbered op version line (Err e) → IsNoWrite version old new e
past_after version n line old new op e t l h = subst (λ (x : LinesFault). IsNoWrite version old new x) (sym h.0) (record { blank = n; op = op; next = t; line_is = l; past = h.1 })

pub failed_past : (version line n m : ℕ) (op : Operation) (e : LinesFault) → IsNumbered op version line (Err e) → m ≡ n → m ≡ failed_by {T = Write} (Err e) n
failed_past version line n m op e h s = subst (λ (x : LinesFault). m ≡ failed_by {T = Write} (Err x) n) (sym h.0) s
