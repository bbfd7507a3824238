-- To whose operations writes are attributed: what acts and restarts change of it.
use Rattle.std.proofs.Common.{◌≡◌, ℕ, zero, suc, ◌-◌, List, [], ◌∷◌, ◌++◌, Bool, true, false, ◌==◌, refl, sym, ap, ◌∙◌, inl, inr, append-nil}
use Rattle.std.specs.Prelude.{Option, option_to_list, slice_get, if◌then◌else◌}
use Rattle.relay_action.specs.declared.write.Write.{Write}
use Rattle.relay_action.specs.declared.operation.Op.{Op}
use Rattle.relay_results.specs.Words.{Mem}
use Rattle.relay_results.specs.Documents.{Document}
use Rattle.relay_results.specs.Outside.{Outside}
use Rattle.relay_results.proofs.Lists.{equal}
use Rattle.relay_delivery.specs.Machine.{Config, Core, Takes, Sends, Answers, step}
use Rattle.relay_delivery.specs.Lanes.{Lanes, Move, Puts, Closes, Fetches, Steps, after_fetch, move}
use Rattle.relay_delivery.specs.Together.{Together, Plain, SendsFrom, RunsAt, AnswersAt, IsPlain, act, outside_of}
use Rattle.relay_delivery.specs.Restarts.{Incarnation, incarnation_of, with_running, after_restart}
use Rattle.relay_delivery.specs.Incarnations.{deals_version, op_dealt, ops_over, attributed_together, ActsKeepNames, RestartsKeepNames}
use Rattle.relay_delivery.proofs.Sharing.{plain_outside}
use Rattle.relay_delivery.proofs.Lives.{LifeFacts, facts_of_life}
use Rattle.relay_delivery.proofs.Parts.{op_of_write}
use Rattle.relay_delivery.proofs.Accounts.{next, all_above, of_all}

-- each version of an applied write was assigned to an operation
abbrev pub AllFound : (ℕ → List Op) → List Write → Type 0
AllFound f ws = (x : Write) → Mem x ws → (o : Op) × (f x.version ≡ o ∷ [])

pub all_found : (stored : Document → Option ℕ) (g : Config) (lane_of : Document → ℕ) (ended : List Incarnation) (s : Together) → LifeFacts stored lane_of (record { ended = ended; config = g; together = s }) → (k : Document)
    → AllFound (op_dealt (with_running ended g s) (lane_of k)) ((outside_of lane_of s).applied k)
all_found stored g lane_of ended s f k x m =
    let a = of_all stored g lane_of ended s f k x m in
    (a.of_one.op, op_of_write (with_running ended g s) (next g) (all_above stored g lane_of ended s f) (lane_of k) x a)

pub ops_same_over : (is js : List Incarnation) (l : ℕ) (ws : List Write) → ((x : Write) → Mem x ws → op_dealt js l x.version ≡ op_dealt is l x.version) → ops_over js l ws ≡ ops_over is l ws
ops_same_over is js l [] same = refl
ops_same_over is js l (x ∷ ws) same =
    let rest = ops_same_over is js l ws (λ y m. same y (inr m)) in
    λ i. same x (inl refl) i ++ rest i

-- one more incarnation does not change what was assigned
dealt_push : (is : List Incarnation) (j : Incarnation) (l v : ℕ) (o : Op) → op_dealt is l v ≡ o ∷ [] → op_dealt (is ++ j ∷ []) l v ≡ op_dealt is l v
dealt_push [] j l v o e = absurd (cc)
dealt_push (i ∷ is) j l v o e = by (dealt_push is j l v o) (deals_version i.config v) e
  where
    by : (op_dealt is l v ≡ o ∷ [] → op_dealt (is ++ j ∷ []) l v ≡ op_dealt is l v) → (b : Bool) → (if b then option_to_list (slice_get (i.taken l) (v - i.config.first)) else op_dealt is l v) ≡ o ∷ []
        → (if b then option_to_list (slice_get (i.taken l) (v - i.config.first)) else op_dealt (is ++ j ∷ []) l v) ≡ (if b then option_to_list (slice_get (i.taken l) (v - i.config.first)) else op_dealt is l v)
    by again true q = refl
    by again false q = again q

-- neither do operations that the lane takes after
option_kept : (xs ys : List Op) (n : ℕ) (o : Op) → option_to_list (slice_get xs n) ≡ o ∷ [] → option_to_list (slice_get (xs ++ ys) n) ≡ o ∷ []
option_kept [] ys n o e = absurd (cc)
option_kept (x ∷ xs) ys zero o e = e
option_kept (x ∷ xs) ys (suc n) o e = option_kept xs ys n o e

dealt_more : (is : List Incarnation) (i j : Incarnation) (l v : ℕ) (o : Op) (more : List Op) → j.config ≡ i.config → j.taken l ≡ i.taken l ++ more → op_dealt (is ++ i ∷ []) l v ≡ o ∷ [] → op_dealt (is ++ j ∷ []) l v ≡ o ∷ []
dealt_more [] i j l v o more same taken e = ap (λ (g : Config). if deals_version g v then option_to_list (slice_get (j.taken l) (v - g.first)) else []) same ∙ by (deals_version i.config v) e
  where
    by : (b : Bool) → (if b then option_to_list (slice_get (i.taken l) (v - i.config.first)) else []) ≡ o ∷ [] → (if b then option_to_list (slice_get (j.taken l) (v - i.config.first)) else []) ≡ o ∷ []
    by true q = ap (λ os. option_to_list (slice_get os (v - i.config.first))) taken ∙ option_kept (i.taken l) more (v - i.config.first) o q
    by false q = absurd (cc)
dealt_more (p ∷ is) i j l v o more same taken e = by (dealt_more is i j l v o more same taken) (deals_version p.config v) e
  where
    by : (op_dealt (is ++ i ∷ []) l v ≡ o ∷ [] → op_dealt (is ++ j ∷ []) l v ≡ o ∷ []) → (b : Bool) → (if b then option_to_list (slice_get (p.taken l) (v - p.config.first)) else op_dealt (is ++ i ∷ []) l v) ≡ o ∷ [] → (if b then option_to_list (slice_get (p.taken l) (v - p.config.first)) else op_dealt (is ++ j ∷ []) l v) ≡ o ∷ []
    by again true q = q
    by again false q = again q

-- if each lane has taken what it had taken, or more, and its lists are unchanged
pub names_kept : (stored : Document → Option ℕ) (g : Config) (lane_of : Document → ℕ) (ended : List Incarnation) (s t : Together) → LifeFacts stored lane_of (record { ended = ended; config = g; together = s })
    → ((l : ℕ) → (more : List Op) × ((t.lanes.lane l).taken ≡ (s.lanes.lane l).taken ++ more)) → ((l : ℕ) → (t.lanes.lane l).outside.applied ≡ (s.lanes.lane l).outside.applied)
    → (k : Document) → attributed_together g lane_of ended t k ≡ attributed_together g lane_of ended s k
names_kept stored g lane_of ended s t f more applied k =
    let l = lane_of k in
    let ws = (outside_of lane_of s).applied k in
    ap (λ h. ops_over (with_running ended g t) l (h k)) (applied l)
    ∙ ops_same_over (with_running ended g s) (with_running ended g t) l ws
    (λ x m. let o = all_found stored g lane_of ended s f k x m in dealt_more ended (incarnation_of g s) (incarnation_of g t) l x.version o.0 (more l).0 refl (more l).1 o.1 ∙ sym o.1)

lane_by : {A : Type 0} (see : Core → A) (w : Lanes) (l m : ℕ) (c : Core) (b : Bool) → (m == l) ≡ b → see c ≡ see (w.lane l) → see (if b then c else w.lane m) ≡ see (w.lane m)
lane_by see w l m c true e same = same ∙ ap (λ n. see (w.lane n)) (sym (equal m l e))
lane_by see w l m c false e same = refl

fetched_more : (g : Config) (l : ℕ) (w : Lanes) (q : List Op) (m : ℕ) → (more : List Op) × (((after_fetch g l w q).lane m).taken ≡ (w.lane m).taken ++ more)
fetched_more g l w [] m = ([], sym (append-nil (w.lane m).taken))
fetched_more g l w (o ∷ os) m = by (m == l) refl
  where
    by : (b : Bool) → (m == l) ≡ b → (more : List Op) × ((if b then step g (Takes o) (w.lane l) else w.lane m).taken ≡ (w.lane m).taken ++ more)
    by true e = (o ∷ [], ap (λ n. (w.lane n).taken ++ o ∷ []) (sym (equal m l e)))
    by false e = ([], sym (append-nil (w.lane m).taken))

plain_more : (g : Config) (lane_of : Document → ℕ) (m : Move) → IsPlain m → (w : Lanes) (l : ℕ) → (more : List Op) × (((move g lane_of m w).lane l).taken ≡ (w.lane l).taken ++ more)
plain_more g lane_of (Puts o) p w l = ([], sym (append-nil (w.lane l).taken))
plain_more g lane_of (Closes q) p w l = ([], sym (append-nil (w.lane l).taken))
plain_more g lane_of (Fetches n) p w l = fetched_more g n w (w.queue n) l
plain_more g lane_of (Steps n x) p w l = absurd p

pub acts_keep_names : ActsKeepNames
acts_keep_names stored g lane_of ended s (Plain m) k c may none =
    names_kept stored g lane_of ended s (act g lane_of (Plain m) s) (facts_of_life stored g lane_of ended s c) (λ l. plain_more g lane_of m may.0 s.lanes l)
    (λ l. ap (λ (o : Outside). o.applied) (plain_outside g lane_of m may.0 s.lanes l)) k
acts_keep_names stored g lane_of ended s (SendsFrom l chosen) k c may none =
    names_kept stored g lane_of ended s (act g lane_of (SendsFrom l chosen) s) (facts_of_life stored g lane_of ended s c)
    (λ m. ([], lane_by (λ c. c.taken) s.lanes l m (step g (Sends chosen) (s.lanes.lane l)) (m == l) refl refl ∙ sym (append-nil (s.lanes.lane m).taken)))
    (λ m. lane_by (λ c. c.outside.applied) s.lanes l m (step g (Sends chosen) (s.lanes.lane l)) (m == l) refl refl) k
acts_keep_names stored g lane_of ended s (RunsAt request place o from) k c may none = absurd none
acts_keep_names stored g lane_of ended s (AnswersAt request a old from) k c may none =
    names_kept stored g lane_of ended s (act g lane_of (AnswersAt request a old from) s) (facts_of_life stored g lane_of ended s c)
    (λ m. ([], lane_by (λ c. c.taken) s.lanes from.lane m (step g (Answers from.number a old) (s.lanes.lane from.lane)) (m == from.lane) refl refl ∙ sym (append-nil (s.lanes.lane m).taken)))
    (λ m. lane_by (λ c. c.outside.applied) s.lanes from.lane m (step g (Answers from.number a old) (s.lanes.lane from.lane)) (m == from.lane) refl refl) k

pub restarts_keep_names : RestartsKeepNames
restarts_keep_names stored g new lane_of ended s k c =
    let f = facts_of_life stored g lane_of ended s c in
    let is = with_running ended g s in
    ops_same_over is (with_running is new (after_restart s)) (lane_of k) ((outside_of lane_of s).applied k)
    (λ x m. let o = all_found stored g lane_of ended s f k x m in dealt_push is (incarnation_of new (after_restart s)) (lane_of k) x.version o.0 o.1)
