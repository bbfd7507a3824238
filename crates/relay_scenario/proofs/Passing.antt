-- Lines of the ending that are passed on one after another.
use Rattle.std.proofs.Common.{◌≡◌, ℕ, List, [], ◌++◌, Option, Result, Ok, Err, refl, subst}
use Rattle.relay_action.specs.Streams.{one_more}
use Rattle.relay_commands.specs.Sending.{Moves, MovesPart}
use Rattle.relay_commands.specs.declared.outgoing.Outgoing.{Outgoing}
use Rattle.relay_scenario.specs.Flows.{Flows, IsWrittenInPart, sink}
use Rattle.relay_scenario.specs.Scripts.{Passes, failed_writes_by}
use Rattle.relay_scenario.specs.declared.script.ScriptFault.{ScriptFault}
use Rattle.relay_scenario.specs.declared.script.ScriptFault.TheVariants as fault
use Rattle.relay_scenario.proofs.Underway.{breaks_last, cut_at, flows_none, flows_of_moves, line_breaks, line_passes, passes_on}

-- nothing was gathered or written
pub passes_none : (o : Outgoing) (before : Option (List ℕ)) (failed : ℕ) → Passes o before failed o before failed (Ok tt)
passes_none o before failed = record { text = ([], flows_none o.text.items (sink before o.sent) o.in_range); calls = refl }

-- what passes after what has passed
pub passes_then : (a b c : Outgoing) (before mid after : Option (List ℕ)) (failed count total : ℕ) (x : Unit) (r : Result Unit ScriptFault) → Passes a before failed b mid count (Ok x) → Passes b mid count c after total r → Passes a before failed c after total r
passes_then a b c before mid after failed count total x r p q = record {
  text = passes_on p.text.0 a.text.items b.text.items c.text.items (sink before a.sent) (sink mid b.sent) (sink after c.sent) r p.text.1 q.text;
  calls = subst (λ (n : ℕ). total ≡ failed_writes_by r n) p.calls q.calls;
}

-- a line was added, and then some was written
pub passes_line : (a b c : Outgoing) (line : List ℕ) (before after : Option (List ℕ)) (failed count : ℕ) → b.text.items ≡ a.text.items ++ line → b.sent ≡ a.sent → Moves b.text.items b.sent before c.text.items c.sent after → count ≡ failed → Passes a before failed c after count (Ok tt)
passes_line a b c line before after failed count e s m k =
    let flows = flows_of_moves b.text.items c.text.items b.sent c.sent before after m in
    let moved = subst (λ (n : ℕ). Flows [] b.text.items (sink before n) c.text.items (sink after c.sent)) s flows in record {
      text = (line ++ [], line_passes a.text.items line b.text.items c.text.items (sink before a.sent) (sink after c.sent) a.in_range e moved);
      calls = k;
    }

-- a line was added, and then a write failed
pub passes_broken : (a b c : Outgoing) (line : List ℕ) (before after : Option (List ℕ)) (failed count sent : ℕ) → b.text.items ≡ a.text.items ++ line → b.sent ≡ a.sent → MovesPart b.text.items b.sent before after sent → count ≡ one_more failed → Passes a before failed c after count (Err (fault.Write sent))
passes_broken a b c line before after failed count sent e s m k =
    let cut = subst (λ (n : ℕ). IsWrittenInPart (sink before n) (sink after sent) b.text.items) s (cut_at b.text.items b.sent sent before after m) in
    record {
      text = line_breaks a.text.items line b.text.items (sink before a.sent) (sink after sent) a.in_range e (breaks_last b.text.items (sink before a.sent) (sink after sent) cut);
      calls = k;
    }
