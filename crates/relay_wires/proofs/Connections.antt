-- Connections that may carry further messages.
use Rattle.std.proofs.Common.{◌≡◌, ℕ, List, [], ◌∷◌, ◌++◌, append_assoc, length-append, ◌<◌, ◌≤◌, ◌+◌, arith, Some, Bool, true, false, Result, Ok, Err, IsTrue, refl, subst, sym, ap, ◌∙◌, inl, inr}
use Rattle.std.proofs.lemmas.Bool.Decides.{eqb_tells}
use Rattle.std.specs.Prelude.{if◌then◌else◌, ◌==◌, ◌&&◌, length, Option, Some, None, MatchResult, IsErrAnd}
use Rattle.relay_action.specs.Streams.{one_more}
use Rattle.relay_action.specs.declared.write.Write.{Write}
use Rattle.relay_http.specs.Connection.{Connection, is_open, phase_of, after_reply, after_write}
use Rattle.relay_http.specs.declared.fault.HttpFault.{HttpFault}
use Rattle.relay_http.specs.declared.reply.HttpReply.{HttpReply}
use Rattle.relay_lane.specs.Exchanges as passed
use Rattle.relay_results.specs.declared.cause.Loss.{Loss}
use Rattle.relay_results.specs.declared.cause.Loss.TheVariants as loss
use Rattle.relay_wires.specs.Numbers.{entry_of, besides}
use Rattle.relay_wires.specs.Carriers.{Carrier, AllFree, IsFree, AllOutFree, Picks, DialsNone, PicksOne, IsToldWritten, Sends, WritesOn, out_after, Carried}

pub free_push : (cs : List Connection) (c : Connection) → AllFree cs → IsFree c → AllFree (cs ++ c ∷ [])
free_push [] c all last = (last, tt)
free_push (x ∷ xs) c all last = (all.0, free_push xs c all.1 last)

-- those before a free connection are free, and so is it
pub free_before : (cs ds : List Connection) (c : Connection) → AllFree (cs ++ (c ∷ ds)) → AllFree cs × IsFree c
free_before [] ds c all = (tt, all.0)
free_before (x ∷ xs) ds c all = let rest = free_before xs ds c all.1 in ((all.0, rest.0), rest.1)

pub open_entry : (n : ℕ) (es : List (ℕ × Connection)) (c : Connection) → AllOutFree es → entry_of n es ≡ Some c → IsFree c
open_entry n [] c all is = absurd (cc)
open_entry n (e ∷ es) c all is = elim (eqb_tells e.0 n) [
  | inl same ↦
      let here = same.0 in
      let at : Some e.1 ≡ Some c = rw here at is in
      let one : e.1 ≡ c = cc in
      subst IsFree one all.0
  | inr apart ↦ let other = apart.0 in open_entry n es c all.1 (rw other at is)
]

pub open_besides : (n : ℕ) (es : List (ℕ × Connection)) → AllOutFree es → AllOutFree (besides n es)
open_besides n [] all = tt
open_besides n (e ∷ es) all = elim (eqb_tells e.0 n) [
  | inl same ↦ let here = same.0 in rw here all.1
  | inr apart ↦ let other = apart.0 in rw other (all.0, open_besides n es all.1)
]

-- a connection that is free after a reply may carry further messages, and holds no byte
pub all_free_after : (reply : HttpReply) (d : Connection) (free : List Connection) → d.phase ≡ after_reply (Ok reply) → AllFree free
    → AllFree (if reply.keep && (length d.held == 0) then free ++ d ∷ [] else free)
all_free_after reply d free is all = elim (eqb_tells (length d.held) 0) [
  | inl same ↦ let none = same.0 in rw none (by reply.keep is (no_bytes d.held same.1))
  | inr apart ↦ let some = apart.0 in rw some (without reply.keep)
]
  where
    no_bytes : (held : List ℕ) → length held ≡ 0 → held ≡ []
    no_bytes [] e = refl
    no_bytes (b ∷ bytes) e = absurd (omega arith)

    by : (k : Bool) → d.phase ≡ phase_of k → d.held ≡ [] → AllFree (if k && true then free ++ d ∷ [] else free)
    by true e h = free_push free d all (record { lasts = ap is_open e; clear = h })
    by false e h = all

    without : (k : Bool) → AllFree (if k && false then free ++ d ∷ [] else free)
    without true = all
    without false = all

-- ---- a request is sent

abbrev carrier : {P : Type 0} → P → (host : List ℕ) (most : ℕ) (out : List (ℕ × Connection)) (free : List Connection) (failed dialled : ℕ) → Carrier P
carrier peer host most out free failed dialled = record { host = host; most = most; out = out; free = free; failed = failed; dialled = dialled; peer = peer }

dialled_none : {P : Type 0} (peer : P) (host : List ℕ) (most : ℕ) (out : List (ℕ × Connection)) (later : List Connection) (failed counted before after : ℕ)
    → DialsNone later failed counted before after → carrier peer host most out later counted after ≡ carrier peer host most out [] (one_more failed) (one_more before)
dialled_none peer host most out later failed counted before after p =
    ap (λ x. carrier peer host most out x counted after) p.0 ∙ ap (λ n. carrier peer host most out [] n after) p.1 ∙ ap (carrier peer host most out [] (one_more failed)) p.2

pub sends_none : {P : Type 0} (peer : P) (number : ℕ) (ws : List Write) (host : List ℕ) (most : ℕ) (out : List (ℕ × Connection)) (free later : List Connection) (failed counted before after : ℕ) (f : Loss)
    → PicksOne free later failed counted before after (Err f) → Sends number ws (carrier peer host most out free failed before) (carrier peer host most out later counted after) (Err f)
sends_none peer number ws host most out free later failed counted before after loss.Refused p = inr (dialled_none peer host most out later failed counted before after p)
sends_none peer number ws host most out free later failed counted before after loss.Unreachable p = inr (inr (dialled_none peer host most out later failed counted before after p))
sends_none peer number ws host most out free later failed counted before after loss.TimedOut p = inr (dialled_none peer host most out later failed counted before after p)
sends_none peer number ws host most out free later failed counted before after loss.Closed p = absurd p
sends_none peer number ws host most out free later failed counted before after loss.Unreadable p = absurd p
sends_none peer number ws host most out free later failed counted before after loss.Memory p =
    inr (ap (λ x. carrier peer host most out x counted after) p.0 ∙ ap (λ n. carrier peer host most out [] n after) p.1 ∙ ap (carrier peer host most out [] failed) p.2)

pub sends_on : {P : Type 0} (peer : P) (number : ℕ) (ws : List Write) (host : List ℕ) (most : ℕ) (out items : List (ℕ × Connection)) (free later : List Connection) (failed counted before after : ℕ) (c d : Connection) (result : Result (Unit {0}) Loss)
    → PicksOne free later failed counted before after (Ok c) → WritesOn host ws c d result → items ≡ out_after number result d out → Sends number ws (carrier peer host most out free failed before) (carrier peer host most items later counted after) result
sends_on peer number ws host most out items free later failed counted before after c d result p w e =
    inl (record {
      connection = c;
      picks = p.0;
      left = d;
      carried = w;
      after = ap (λ n. carrier peer host most items later n after) p.2 ∙ ap (λ x. carrier peer host most x later failed after) e;
    })

-- ---- what always holds, after a request was sent

-- a connection on which a request was written may carry further messages
pub open_written : (r : Result (Unit {0}) HttpFault) (d : Connection) (late : Bool) → IsToldWritten late r (Ok tt) → d.phase ≡ after_write true r → IsTrue (is_open d.phase)
open_written (Ok u) d late told is = ap is_open is
open_written (Err e) d late told is = absurd (cc)

-- a connection that was picked holds no byte
pub picked_clear : (before after : ℕ) (free later : List Connection) (c : Connection) → Picks free later before after c → c.held ≡ []
picked_clear before after free later c (inl t) = t.0.quiet.held
picked_clear before after free later c (inr p) = ap (λ (x : Connection). x.held) p.1.3

pub open_after : (number before after : ℕ) (host : List ℕ) (ws : List Write) (out items : List (ℕ × Connection)) (free later : List Connection) (c d : Connection) → Picks free later before after c → WritesOn host ws c d (Ok tt) → items ≡ (number, d) ∷ out → AllOutFree out → AllOutFree items
open_after number before after host ws out items free later c d p w e all =
    subst AllOutFree (sym e) (record { lasts = open_written w.write d w.late w.told w.writes.phase; clear = w.writes.held ∙ picked_clear before after free later c p }, all)

pub few_after : (number most before after : ℕ) (out items : List (ℕ × Connection)) (free later : List Connection) (c d : Connection) → Picks free later before after c → items ≡ (number, d) ∷ out → length out + length free ≤ most → length out < most → length items + length later ≤ most
few_after number most before after out items free later c d (inl t) e few room =
    let n = ap length t.0.free in
    let k = length-append later (c ∷ t.0.dropped) in
    let m = ap length e in
    omega (arith, n, k, m, few)
few_after number most before after out items free later c d (inr p) e few room =
    let n = ap length p.0 in
    let m = ap length e in
    omega (arith, n, m, room)

-- the same if the request could not be written on it
pub few_left : (most before after : ℕ) (out : List (ℕ × Connection)) (free later : List Connection) (c : Connection) → Picks free later before after c → length out + length free ≤ most → length out + length later ≤ most
few_left most before after out free later c (inl t) few =
    let n = ap length t.0.free in
    let k = length-append later (c ∷ t.0.dropped) in
    omega (arith, n, k, few)
few_left most before after out free later c (inr p) few =
    let n = ap length p.0 in
    omega (arith, n, few)

-- what was sent, as what passed over the wire
pub carried_sent : {P : Type 0} (describes : P → Bool) (does : P → P → ℕ → Option (List ℕ) → Option (Option (List ℕ)) → Type 0) (number : ℕ) (ws : List Write) (old new : Carrier P) (r : Result (Unit {0}) Loss) → Sends number ws old new r
    → MatchResult r (λ _. Carried describes does old (passed.Sends number ws None) new) (λ why. Carried describes does old (passed.Sends number ws (Some why)) new)
carried_sent describes does number ws old new (Ok u) x = x
carried_sent describes does number ws old new (Err why) x = x

-- ---- free connections that are looked at, the one freed last first

pub dropped_before : (old now later dropped : List Connection) (c : Connection) → old ≡ now ++ dropped → now ≡ later ++ c ∷ [] → old ≡ later ++ (c ∷ dropped)
dropped_before old now later dropped c was is = was ∙ ap (λ x. x ++ dropped) is ∙ append_assoc later (c ∷ []) dropped
