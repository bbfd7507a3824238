use Rattle.std.proofs.Common.{◌≡◌, ℕ, ◌≤◌, length}
use Rattle.json.specs.Json.{members, value}
use Rattle.serde_json.specs.Data.{Members, no_members}
use Rattle.serde_json.specs.Read.{of_members, converted}
use Rattle.relay_json.specs.Walks.{IsRestOf}
use Rattle.relay_json.proofs.walk.Walk.members.Given as goal

abbrev pub invariant-members : goal.invariant-members
invariant-members g l =
    (n : ℕ) × (found : Members) × (length l.self.reader ≤ n)
    × (converted (λ js. of_members js no_members) (members (value l.initial.self.depth) (length l.initial.self.reader) l.initial.self.reader) ≡ converted (λ js. of_members js found) (members (value l.initial.self.depth) n l.self.reader))
    × (l.self.depth ≡ l.initial.self.depth) × g.G.Gather.Holds l.gathered found × IsRestOf l.self.reader l.initial.self.reader

abbrev pub decreases-members : goal.decreases-members
decreases-members g l = length l.self.reader
