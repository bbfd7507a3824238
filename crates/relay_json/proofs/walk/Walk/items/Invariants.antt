use Rattle.std.proofs.Common.{◌≡◌, ℕ, ◌≤◌, length}
use Rattle.json.specs.Json.{items, value, parse_map}
use Rattle.serde_json.specs.Data.{Items}
use Rattle.serde_json.specs.Read.{of_items, converted}
use Rattle.relay_json.proofs.Rows.{before}
use Rattle.relay_json.specs.Walks.{IsRestOf}
use Rattle.relay_json.proofs.walk.Walk.items.Given as goal

abbrev pub invariant-items : goal.invariant-items
invariant-items g l =
    (n : ℕ) × (ds : Items) × (length l.self.reader ≤ n)
    × (converted of_items (items (value l.initial.self.depth) (length l.initial.self.reader) l.initial.self.reader) ≡ parse_map (before ds) (converted of_items (items (value l.initial.self.depth) n l.self.reader)))
    × (l.self.depth ≡ l.initial.self.depth) × g.C.Collect.Holds l.collected ds × IsRestOf l.self.reader l.initial.self.reader

abbrev pub decreases-items : goal.decreases-items
decreases-items g l = length l.self.reader
