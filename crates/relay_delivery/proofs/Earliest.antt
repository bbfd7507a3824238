-- What flies is the earliest held operation of its document.
use Rattle.std.proofs.Common.{◌≡◌, ℕ, ◌+◌, ◌<◌, ◌≤◌, List, [], ◌∷◌, ◌++◌, Bool, Option, Some, None, refl, sym, ap, ◌∙◌, subst, ⊎_elim, arith, length}
use Rattle.std.specs.Prelude.{slice_get, nat_lt, map}
use Rattle.relay_action.specs.declared.write.Write.{Write}
use Rattle.relay_action.specs.declared.operation.Op.{Op}
use Rattle.relay_results.specs.Words.{Mem}
use Rattle.relay_results.specs.Documents.{document_of}
use Rattle.relay_results.specs.Outside.{Answer}
use Rattle.relay_results.proofs.Lists.{at-Mem, Mem-cases, Mem-map}
use Rattle.relay_delivery.specs.Machine.{Config, tries_for, Core, Held, Place, Step, Takes, Sends, Runs, Answers, held_if, place_of, launched_at, after_launch, still_held, writes_or, step, steps_of, IsEligible, MayStep, AllMayStep}
use Rattle.relay_delivery.specs.Delivery.{EarliestFlies, OneFlies}
use Rattle.relay_delivery.proofs.Facts.{CoreFacts}
use Rattle.relay_delivery.proofs.Dealt.{dealt_before}
use Rattle.relay_delivery.proofs.Take.{is_new_held}
use Rattle.relay_delivery.proofs.Send.{launched_op, launched_version, launched_among}
use Rattle.relay_delivery.proofs.Fates.{turn, kept-from, kept_version, kept_op}
use Rattle.relay_delivery.proofs.Keeps.{fresh_none, none_past, fresh_facts, step_keeps, facts_of}

abbrev pub FliesFirst : List Held → Type 0
FliesFirst hs = (h j : Held) (f : Place) → Mem h hs → Mem j hs → h.flies ≡ Some f → document_of j.op.key ≡ document_of h.op.key → h.version ≤ j.version

-- ---- take

pub take_first : (b : Bool) (g : Config) (place : ℕ) (o : Op) (hs : List Held) → ((h : Held) → Mem h hs → h.version < g.first + place) → FliesFirst hs → FliesFirst (hs ++ held_if b g place o)
take_first b g place o hs below first h j f mh mj flies doc =
    let more = held_if b g place o in
    ⊎_elim {C = h.version ≤ j.version}
    (λ old. ⊎_elim {C = h.version ≤ j.version}
    (λ y. first h j f old y flies doc)
    (λ y.
    let n = is_new_held b g place o j y in
    let v = ap (λ (x : Held). x.version) n.1 in
    let lt = below h old in omega (arith, v, lt))
    (Mem-cases j hs more mj))
    (λ new.
    let n = is_new_held b g place o h new in
    let e = ap (λ (x : Held). x.flies) n.1 in absurd (cc (e, flies)))
    (Mem-cases h hs more mh)

-- ---- send

module _ (hs chosen : List Held) (alone : (h j : Held) → Mem h hs → Mem j hs → h.version ≡ j.version → h ≡ j) (eligible : (h : Held) → Mem h chosen → IsEligible hs h) (n : ℕ) (first : FliesFirst hs) where
  -- by whether it was chosen
  launched_first : (h j : Held) (f : Place) (p : Option ℕ) → place_of h.version chosen ≡ p → Mem h hs → Mem j hs → (launched_at n h p).flies ≡ Some f → document_of j.op.key ≡ document_of h.op.key → h.version ≤ j.version
  launched_first h j f None e mh mj flies doc = first h j f mh mj flies doc
  launched_first h j f (Some place) e mh mj flies doc =
      let l = launched_among hs chosen alone eligible h mh place e in
      (eligible h (at-Mem chosen place h l.stands)).first j mj doc

  pub send_first : FliesFirst (map (after_launch n chosen) hs)
  send_first h j f mh mj flies doc =
      let x = Mem-map (after_launch n chosen) h hs mh in
      let y = Mem-map (after_launch n chosen) j hs mj in
      let vx : h.version ≡ x.0.version = ap (λ (z : Held). z.version) x.2 ∙ launched_version n x.0 (place_of x.0.version chosen) in
      let vy : j.version ≡ y.0.version = ap (λ (z : Held). z.version) y.2 ∙ launched_version n y.0 (place_of y.0.version chosen) in
      let ox : h.op ≡ x.0.op = ap (λ (z : Held). z.op) x.2 ∙ launched_op n x.0 (place_of x.0.version chosen) in
      let oy : j.op ≡ y.0.op = ap (λ (z : Held). z.op) y.2 ∙ launched_op n y.0 (place_of y.0.version chosen) in
      let doc' = ap (λ (o : Op). document_of o.key) (sym oy) ∙ doc ∙ ap (λ (o : Op). document_of o.key) ox in
      let le = launched_first x.0 y.0 f (place_of x.0.version chosen) refl x.1 y.1 (sym (ap (λ (z : Held). z.flies) x.2) ∙ flies) doc' in
      omega (arith, vx, vy, le)

-- ---- answer

pub answer_first : (allowed : ℕ → ℕ) (number : ℕ) (ws : List Write) (a : Answer) (hs : List Held) → FliesFirst hs → FliesFirst (still_held allowed number ws a hs)
answer_first allowed number ws a hs first h j f mh mj flies doc =
    let x = kept-from allowed number ws a hs h mh in
    let y = kept-from allowed number ws a hs j mj in
    let vy = kept_version (turn allowed number ws a y.0) y.0 j y.2 in
    let oy = kept_op (turn allowed number ws a y.0) y.0 j y.2 in
    ⊎_elim {C = h.version ≤ j.version}
    (λ z.
    let same = z.1 in
    let doc' = ap (λ (o : Op). document_of o.key) (sym oy) ∙ doc ∙ ap (λ (k : Held). document_of k.op.key) same in
    let le = first x.0 y.0 f x.1 y.1 (sym (ap (λ (k : Held). k.flies) same) ∙ flies) doc' in
    let vx = ap (λ (k : Held). k.version) same in
    omega (arith, vx, vy, le))
    (λ z. ⊎_elim {C = h.version ≤ j.version}
    (λ y. let e = ap (λ (k : Held). k.flies) y.1 in absurd (cc (e, flies)))
    (λ y. let e = ap (λ (k : Held). k.flies) y.2 in absurd (cc (e, flies)))
    z)
    x.2

-- ---- steps

step_first : (g : Config) (c : Core) (s : Step) → CoreFacts g (none_past g) c → FliesFirst c.held → MayStep s c → FliesFirst (step g s c).held
step_first g c (Takes o) facts first may =
    take_first (nat_lt (length c.taken) g.deals) g (length c.taken) o c.held (λ h m. dealt_before g c.taken h.op h.version (facts.held h m).dealt) first
step_first g c (Sends chosen) facts first may = send_first c.held chosen facts.alone may.eligible (length c.outside.requests) first
step_first g c (Runs r) facts first may = first
step_first g c (Answers number a old) facts first may = answer_first (tries_for g old) number (writes_or (slice_get c.outside.requests number)) a c.held first

steps_first : (g : Config) (ss : List Step) (c : Core) → CoreFacts g (none_past g) c → FliesFirst c.held → AllMayStep g ss c → FliesFirst (steps_of g ss c).held
steps_first g [] c facts first may = first
steps_first g (s ∷ ss) c facts first may = steps_first g ss (step g s c) (step_keeps g (none_past g) c facts s may.0) (step_first g c s facts first may.0) may.1

pub earliest_flies : EarliestFlies
earliest_flies g c r =
    subst (λ (d : Core). FliesFirst d.held) r.reached
    (steps_first g r.steps r.start (fresh_none g r.start r.fresh) (λ h j f mh mj flies doc. absurd (subst (λ hs. Mem h hs) r.fresh.new.held mh)) r.may)

pub one_flies : OneFlies
one_flies g c r h j f k mh mj fh fj doc =
    let a = earliest_flies g c r h j f mh mj fh doc in
    let b = earliest_flies g c r j h k mj mh fj (sym doc) in
    (facts_of g c r).alone h j mh mj (omega (arith, a, b))
