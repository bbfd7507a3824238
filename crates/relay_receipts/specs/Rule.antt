-- The rule of a channel of receipts: what holds at every moment of the queued notices and of what the passes know.
use Rattle.std.specs.Prelude.{◌≡◌, ℕ, ◌<◌, ◌≤◌, Bool, List, [], ◌++◌, ⊤}
use mathlib.Core.Option.{Option, some, none}
use lib.ListN.{get_elem?}
use Rattle.relay_receipts.specs.declared.notice.Notice.{Notice}
use Rattle.relay_receipts.specs.declared.rule.ToldList.{ToldList}
use Rattle.relay_receipts.specs.declared.rule.Knowledge.{Knowledge}
use Rattle.relay_receipts.specs.declared.rule.Knowledge.TheVariants.{Lane, Taker, Met}
use Rattle.relay_receipts.specs.Notices.{said_by, says, IsSaid}

-- what the passes are about: the number of the producer's pass, that of the pass of each lane that was not met, the
-- notices taken, and the log
pub record History (T : Type 0) : Type 0 where
  pub taker : ℕ
  pub pass_of : ℕ → Option ℕ
  pub taken : List (Notice T)
  pub log : List (Notice T)

module _ {T : Type 0} where
  -- a lane's pass is the only one of that lane, and the log has of the lane what it told
  pub record FitsLane (history : History T) (pass lane : ℕ) (told : List T) (closed : Bool) : Type 0 where
    pub own : history.pass_of lane ≡ some pass
    pub all : said_by lane history.log ≡ says told closed

  -- a lane whose end was not made yet has no pass and told nothing
  pub record IsUnmade (history : History T) (lane : ℕ) : Type 0 where
    pub no_pass : history.pass_of lane ≡ none
    pub nothing : said_by lane history.log ≡ []

  -- a lane whose end was met no longer has a pass, and told what the log has of it
  pub record WasMet (history : History T) (lanes : ℕ) (met : ToldList T) : Type 0 where
    pub made : met.lane < lanes
    pub no_pass : history.pass_of met.lane ≡ none
    pub all : said_by met.lane history.log ≡ says met.told met.closed

  -- the producer's pass is the only one of its kind; it knows what was taken, that the ends of later lanes are not
  -- made, and what the lanes told whose ends it met
  pub record FitsTaker (history : History T) (pass lanes : ℕ) (taken : List (Notice T)) (met : List (ToldList T)) : Type 0 where
    pub own : pass ≡ history.taker
    pub front : taken ≡ history.taken
    pub later : (lane : ℕ) → lanes ≤ lane → IsUnmade history lane
    pub each : (i : ℕ) (m : ToldList T) → get_elem? met i ≡ some m → WasMet history lanes m

  -- what the pass knows is true
  abbrev pub Fits : History T → ℕ → Knowledge T → Type 0
  Fits history pass (Lane lane told closed) = FitsLane history pass lane told closed
  Fits history pass (Taker lanes taken met) = FitsTaker history pass lanes taken met
  Fits history pass Met = ⊤

  -- the rule: there is a log, of what was taken and then what is queued; it has of each lane what a lane may say; and
  -- what each pass knows is true
  pub record Tells (queued : List (Notice T)) (passes : List (Knowledge T)) : Type 0 where
    pub history : History T
    pub in_log : history.log ≡ history.taken ++ queued
    pub well_said : (lane : ℕ) → IsSaid (said_by lane history.log)
    pub known : (pass : ℕ) (v : Knowledge T) → get_elem? passes pass ≡ some v → Fits history pass v
