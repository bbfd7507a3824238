-- What holds over incarnations: the facts of the running one, with what earlier ones sent as the
-- past.
use Rattle.std.proofs.Common.{◌≡◌, ℕ, ◌+◌, ◌<◌, ◌≤◌, List, [], ◌∷◌, ◌++◌, refl, sym, ◌∙◌, subst, ⊎_elim, inl, inr, arith}
use Rattle.std.specs.Prelude.{◌⊎◌, Option, Some, map, filter}
use Rattle.relay_action.specs.declared.write.Write.{Write}
use Rattle.relay_action.specs.declared.operation.Op.{Op}
use Rattle.relay_results.specs.Words.{Mem, AllDistinct, IsSubsequence}
use Rattle.relay_results.specs.Documents.{Document, document_of, name_of}
use Rattle.relay_results.proofs.Lists.{at-Mem, Mem-at, Mem-left, Mem-last, Mem-push_cases}
use Rattle.relay_delivery.specs.Attribution.{is_from}
use Rattle.relay_delivery.specs.Machine.{Config}
use Rattle.relay_delivery.specs.Together.{Together, outside_of}
use Rattle.relay_delivery.specs.Restarts.{Incarnation, incarnation_of, Life, born, restarted_core, restarted_lanes, Happening, Acts, Restarts, happen, IsAbove, MayBe, after_happenings, AllMayBe, CameAboutTogether}
use Rattle.relay_delivery.specs.Incarnations.{first_of, StoredAreBelow}
use Rattle.relay_delivery.specs.Stating.{StatesVersions, StoresOthers}
use Rattle.relay_delivery.proofs.Facts.{Past, IsKnown, IsOfOne, IsSent, CoreFacts}
use Rattle.relay_delivery.proofs.Queues.{LanesFacts, TellAll, taken_distinct, was_accepted}
use Rattle.relay_delivery.proofs.Joined.{taken_order}
use Rattle.relay_delivery.proofs.Sharing.{TogetherFacts, act_keeps, start_shared}

-- a write of a lane in one of these incarnations
pub record IsOfThese (ps : List Incarnation) (l : ℕ) (w : Write) : Type 0 where
  pub which : Incarnation
  pub among : Mem which ps
  pub of_one : IsOfOne which.config (which.taken l) w

-- the version was stored at the start, or is that of a write of one of these
abbrev pub IsOlder : (Document → Option ℕ) → List Incarnation → ℕ → ℕ → Type 0
IsOlder stored ps l u = ((k : Document) × (stored k ≡ Some u)) ⊎ ((w : Write) × IsOfThese ps l w × (w.version ≡ u))

-- what there was before an incarnation: what these sent, and the versions that were stored at the start or by them
abbrev pub past_of : (Document → Option ℕ) → List Incarnation → ℕ → Past
past_of stored ps l = record { writes = IsOfThese ps l; versions = IsOlder stored ps l }

-- of an incarnation, whether it runs or has ended
pub record IncarnationFacts (lane_of : Document → ℕ) (p : Incarnation) : Type 0 where
  pub distinct : (l : ℕ) → AllDistinct (map name_of (p.taken l))
  pub was_accepted : (l : ℕ) (o : Op) → Mem o (p.taken l) → Mem o (p.accepted o.producer) × (lane_of (document_of o.key) ≡ l)
  pub order : (l q : ℕ) → IsSubsequence (filter (is_from q) (p.taken l)) (p.accepted q)
  pub epoch : (q : ℕ) (o : Op) → Mem o (p.accepted q) → o.epoch ≡ p.config.epoch

-- each is above those before it, and this one above all
abbrev pub AreAbove : List Incarnation → Config → Type 0
AreAbove [] top = Unit {0}
AreAbove (p ∷ ps) top = IsAbove p.config top × ((q : Incarnation) → Mem q ps → IsAbove p.config q.config) × AreAbove ps top

pub record LifeFacts (stored : Document → Option ℕ) (lane_of : Document → ℕ) (l : Life) : Type 0 where
  pub together : TogetherFacts l.config lane_of (past_of stored l.ended) l.together
  pub above : AreAbove l.ended l.config
  pub each : (p : Incarnation) → Mem p l.ended → IncarnationFacts lane_of p

-- ---- the one that runs

pub running_facts : (g : Config) (lane_of : Document → ℕ) (past : ℕ → Past) (s : Together) → TogetherFacts g lane_of past s → IncarnationFacts lane_of (incarnation_of g s)
running_facts g lane_of past s f = record {
  distinct = λ l. taken_distinct g lane_of past s.lanes f.lanes l;
  was_accepted = λ l o m. was_accepted g lane_of past s.lanes f.lanes l o m;
  order = λ l q. taken_order g lane_of past s.lanes f.lanes l q;
  epoch = λ q o m. let at = Mem-at o (s.lanes.accepted q) m in f.lanes.epochs q at.0 o at.1;
}

-- ---- incarnations one above the other

above_on : (a b c : Config) → IsAbove a b → IsAbove b c → IsAbove a c
above_on a b c x y =
    let e = x.epoch in
    let f = y.epoch in
    let v = x.versions in
    let u = y.versions in
    record { epoch = omega (arith, e, f); versions = omega (arith, v, u) }

pub above_more : (ps : List Incarnation) (p : Incarnation) (top : Config) → AreAbove ps p.config → IsAbove p.config top → AreAbove (ps ++ p ∷ []) top
above_more [] p top a up = (up, (λ q m. absurd m), tt)
above_more (q ∷ ps) p top a up = (
  above_on q.config p.config top a.0 up,
  (λ r m. ⊎_elim {C = IsAbove q.config r.config} (λ o. a.1 r o) (λ e. subst (λ (x : Incarnation). IsAbove q.config x.config) (sym e) a.0) (Mem-push_cases r ps p m)),
  above_more ps p top a.2 up,
)

ends_below : (ps : List Incarnation) (top : Config) → AreAbove ps top → (p : Incarnation) → Mem p ps → p.config.first + p.config.deals ≤ top.first
ends_below [] top a p m = absurd m
ends_below (q ∷ ps) top a p m = ⊎_elim {C = p.config.first + p.config.deals ≤ top.first} (λ e. subst (λ (x : Incarnation). x.config.first + x.config.deals ≤ top.first) (sym e) a.0.versions) (λ r. ends_below ps top a.2 p r) m

pub version_within : (g : Config) (taken : List Op) (w : Write) → IsOfOne g taken w → (g.first ≤ w.version) × (w.version < g.first + g.deals)
version_within g taken w a = let v = a.dealt.version in let n = a.dealt.within in (omega (arith, v), omega (arith, v, n))

-- ---- a restart

module _ (stored : Document → Option ℕ) (lane_of : Document → ℕ) (life : Life) (f : LifeFacts stored lane_of life) (g : Config) (up : IsAbove life.config g) where
  abbrev this : Incarnation
  this = incarnation_of life.config life.together

  abbrev ended_now : List Incarnation
  ended_now = life.ended ++ this ∷ []

  above_now : AreAbove ended_now g
  above_now = above_more life.ended this g f.above up

  -- what a lane sent is of one of them
  known : (l : ℕ) (w : Write) → IsSent (life.together.lanes.lane l).outside.requests w → IsOfThese ended_now l w
  known l w s = ⊎_elim
      (λ one. record { which = this; among = Mem-last life.ended this; of_one = one })
      (λ old. record { which = old.which; among = Mem-left old.which life.ended (this ∷ []) old.among; of_one = old.of_one })
      ((f.together.lanes.lane l).sent w s)

  low : (l : ℕ) (w : Write) → IsOfThese ended_now l w → w.version < g.first
  low l w a =
      let e = ends_below ended_now g above_now a.which a.among in
      let v = version_within a.which.config (a.which.taken l) w a.of_one in omega (arith, e, v.1)

  core_now : (l : ℕ) → CoreFacts g (past_of stored ended_now l) (restarted_core (life.together.lanes.lane l))
  core_now l =
      let c = f.together.lanes.lane l in
      record {
        past_below = low l;
        held = λ h m. absurd m;
        alone = λ h j m k e. absurd m;
        in_rise = tt;
        sent = λ w s. inr (known l w s);
        runs = λ r m. let x = c.runs r m in record {
          request = x.request;
          write = x.write;
          sent = x.sent;
          stands = x.stands;
          if_applied = x.if_applied;
          if_conflict = x.if_conflict;
          if_stated = λ e u s. older l _ u (x.if_stated e u s);
        };
        index = λ k. record {
          sent = (c.index k).sent;
          document = (c.index k).document;
          rising = (c.index k).rising;
          above = (c.index k).above;
          from = λ u e. older l _ u ((c.index k).from u e);
        };
        reports = λ r m. absurd m;
        apart = λ n. omega arith;
        totals = refl;
        nothing_lost = λ tells place o s. absurd (cc);
      }
    where
      older : (l : ℕ) (applied : List Write) (u : ℕ) → IsKnown (IsOlder stored life.ended l) applied u → IsKnown (IsOlder stored ended_now l) applied u
      older l applied u h = ⊎_elim
          (λ past. inl (⊎_elim
          (λ first. inl first)
          (λ z. inr (z.0, record { which = z.1.which; among = Mem-left z.1.which life.ended (this ∷ []) z.1.among; of_one = z.1.of_one }, z.2))
          past))
          (λ z. inr z)
          h

  each_now : (p : Incarnation) → Mem p ended_now → IncarnationFacts lane_of p
  each_now p m = ⊎_elim {C = IncarnationFacts lane_of p}
      (λ old. f.each p old)
      (λ e. subst (λ x. IncarnationFacts lane_of x) (sym e) (running_facts life.config lane_of (past_of stored life.ended) life.together f.together))
      (Mem-push_cases p life.ended this m)

  lanes_now : LanesFacts g lane_of (past_of stored ended_now) (restarted_lanes life.together.lanes)
  lanes_now = record {
    lane = core_now;
    of_past = λ l x a. its_lane l x a;
    order = λ l p. refl;
    numbers = λ p i o e. absurd (cc);
    epochs = λ p i o e. absurd (cc);
  }
    where
      its_lane : (l : ℕ) (x : Write) → IsOfThese ended_now l x → lane_of (document_of x.key) ≡ l
      its_lane l x a =
          let d = a.of_one.dealt in
          let o = (each_now a.which a.among).was_accepted l a.of_one.op (at-Mem (a.which.taken l) d.place a.of_one.op d.stands) in
          (λ i. lane_of (document_of (a.of_one.write i).key)) ∙ o.1

  restart_keeps : LifeFacts stored lane_of (happen lane_of (Restarts g) life)
  restart_keeps = record {
    together = record {
      lanes = lanes_now;
      same = λ i from e. let p = f.together.same i from e in record { request = p.request; here = p.here; there = p.there };
      each = f.together.each;
      once = f.together.once;
      as_long = f.together.as_long;
      ran = λ l r m. let p = f.together.ran l r m in record { number = p.number; origin = p.origin; among = p.among };
      back = λ r m. let p = f.together.back r m in record { from = p.from; origin = p.origin; among = p.among };
      counted = f.together.counted;
    };
    above = above_now;
    each = each_now;
  }

-- ---- all that happens

pub happen_keeps : (stored : Document → Option ℕ) (lane_of : Document → ℕ) (l : Life) → LifeFacts stored lane_of l → (h : Happening) → MayBe h l → LifeFacts stored lane_of (happen lane_of h l)
happen_keeps stored lane_of l f (Acts a) may = record { together = act_keeps l.config lane_of (past_of stored l.ended) l.together f.together a may.0; above = f.above; each = f.each }
happen_keeps stored lane_of l f (Restarts g) may = restart_keeps stored lane_of l f g may

all_keep : (stored : Document → Option ℕ) (lane_of : Document → ℕ) (hs : List Happening) (l : Life) → LifeFacts stored lane_of l → AllMayBe lane_of hs l → LifeFacts stored lane_of (after_happenings lane_of hs l)
all_keep stored lane_of [] l f may = f
all_keep stored lane_of (h ∷ hs) l f may = all_keep stored lane_of hs (happen lane_of h l) (happen_keeps stored lane_of l f h may.0) may.1

pub facts_of_life : (stored : Document → Option ℕ) (g : Config) (lane_of : Document → ℕ) (ended : List Incarnation) (s : Together) → CameAboutTogether stored g lane_of ended s
    → LifeFacts stored lane_of (record { ended = ended; config = g; together = s })
facts_of_life stored g lane_of ended s c =
    subst (λ l. LifeFacts stored lane_of l) c.reached (all_keep stored lane_of c.happenings (born c.first c.start) (record {
      together = start_shared c.first lane_of (past_of stored []) (λ l x a. absurd a.among) stored c.start c.fresh (λ l k u e. inl (k, e));
      above = tt;
      each = λ p m. absurd m;
    }) c.may)

pub facts_together : (stored : Document → Option ℕ) (g : Config) (lane_of : Document → ℕ) (ended : List Incarnation) (s : Together) → CameAboutTogether stored g lane_of ended s → TogetherFacts g lane_of (past_of stored ended) s
facts_together stored g lane_of ended s c = (facts_of_life stored g lane_of ended s c).together

-- ---- what the conflicts of the one that runs tell

module _ (stored : Document → Option ℕ) (g : Config) (lane_of : Document → ℕ) (ended : List Incarnation) (s : Together) (f : LifeFacts stored lane_of (record { ended = ended; config = g; together = s })) where
  old_below : (l : ℕ) (u : ℕ) → ((w : Write) × IsOfThese ended l w × (w.version ≡ u)) → u < g.first
  old_below l u z =
      let a = z.1 in
      let e = ends_below ended g f.above a.which a.among in
      let v = version_within a.which.config (a.which.taken l) z.0 a.of_one in
      let same = z.2 in omega (arith, e, v.1, same)

  -- the first one's first version is not above that of any later one
  first_lowest : (first_of ended g).first ≤ g.first
  first_lowest = by ended f.above
    where
      by : (ps : List Incarnation) → AreAbove ps g → (first_of ps g).first ≤ g.first
      by [] a = omega arith
      by (p ∷ ps) a = let v = a.0.versions in omega (arith, v)

  pub tell_if_below : StoredAreBelow stored ended g → TellAll g (past_of stored ended) s.lanes
  tell_if_below below l = inl (λ u old. ⊎_elim {C = u < g.first}
      (λ first. let lt = below first.0 u first.1 in let le = first_lowest in omega (arith, lt, le))
      (λ z. old_below l u z)
      old)

  pub tell_if_stated : StoresOthers g stored → StatesVersions (outside_of lane_of s) → TellAll g (past_of stored ended) s.lanes
  tell_if_stated others states l = inr (
    (λ u place old within e. ⊎_elim {C = ⊥}
        (λ first. others first.0 u place first.1 within e)
        (λ z. let lt = old_below l u z in omega (arith, lt, e))
        old),
    (λ r m e. let h = f.together.ran l r m in states (record { request = h.number; place = r.place; outcome = r.outcome }) h.among e),
  )
