-- The number of requests that a lane sends if it takes nothing more.
use Rattle.std.specs.Prelude.{◌≢◌, ℕ, zero, suc, ◌+◌, ◌-◌, ◌*◌, ◌/◌, ◌^◌, ◌<◌, ◌≤◌, ◌==◌, if◌then◌else◌, List, [], ◌∷◌, length}
use Rattle.relay_delivery.specs.Machine.{Config, Core, Held, Step, Takes, Sends, Runs, Answers, steps_of, AllMayStep, CameAbout}

-- nothing is taken, and no empty request is sent
abbrev pub IsDraining : Step → Type 0
IsDraining (Takes o) = ⊥
IsDraining (Sends chosen) = chosen ≢ []
IsDraining (Runs r) = Unit {0}
IsDraining (Answers number a old) = Unit {0}

abbrev pub AllDraining : List Step → Type 0
AllDraining [] = Unit {0}
AllDraining (s ∷ ss) = IsDraining s × AllDraining ss

abbrev pub sent_of : Core → ℕ
sent_of c = length c.outside.requests

-- how often a number can be halved, rounded down, until it is 0, in at most `looks` steps
abbrev pub halvings_in : ℕ → ℕ → ℕ
halvings_in zero n = 0
halvings_in (suc looks) n = if n == 0 then 0 else suc (halvings_in looks (n / 2))

-- how often a number can be halved in all: `n` steps are enough
abbrev pub halvings : ℕ → ℕ
halvings n = halvings_in n n

-- the tries that held operations have left, and the halvings of their caps
abbrev pub tries_left : ℕ → List Held → ℕ
tries_left max [] = 0
tries_left max (h ∷ hs) = (max - h.attempts) + halvings h.cap + tries_left max hs

-- each further request uses up at least one of these tries and halvings
abbrev pub WithinTriesLeft : Type 0
WithinTriesLeft =
    (g : Config) (c : Core) (more : List Step) → 0 < g.max → CameAbout g c → AllMayStep g more c → AllDraining more →
    sent_of (steps_of g more c) + tries_left g.max (steps_of g more c).held ≤ sent_of c + tries_left g.max c.held

-- so there are at most `max + 14` for each operation held, if operations begin with a cap below 2^14
abbrev pub FewRequests : Type 0
FewRequests =
    (g : Config) (c : Core) (more : List Step) → 0 < g.max → g.cap < 2 ^ 14 → CameAbout g c → AllMayStep g more c →
    AllDraining more → sent_of (steps_of g more c) ≤ sent_of c + length c.held * (g.max + 14)
