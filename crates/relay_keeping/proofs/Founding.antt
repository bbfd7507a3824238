-- The marks that were given, met with what all ends told.
use Rattle.std.proofs.Common.{◌≡◌, ℕ, zero, suc, ◌+◌, ◌-◌, ◌<◌, ◌≤◌, List, [], ◌∷◌, ◌++◌, length, Option, Some, None, Bool, true, refl, sym, ap, ◌∙◌, subst, ⊎_elim, inl, inr, append_assoc, append-nil, arith}
use Rattle.std.specs.Prelude.{◌⊎◌, map, slice_get}
use Rattle.std.proofs.lemmas.List.{map-append}
use Rattle.relay_action.specs.declared.operation.OpName.{OpName}
use Rattle.relay_results.specs.Words.{Mem}
use Rattle.relay_results.proofs.Lists.{Mem-left, Mem-push_cases, some_same, at-Mem}
use Rattle.relay_resume.specs.declared.mark.Mark.{Mark}
use Rattle.relay_resume.specs.declared.mark.Place.{Place}
use Rattle.relay_resume.specs.Trails.{after}
use Rattle.relay_receipts.specs.declared.notice.Notice.{Notice}
use Rattle.relay_receipts.specs.Ends.{Channel, TakeEnd, TellEnd}
use Rattle.relay_receipts.specs.Notices.{said_by, says, IsWellTaken}
use Rattle.relay_receipts.proofs.Said.{said_by-append}
use Rattle.relay_keeping.specs.declared.told.Told.{Told}
use Rattle.relay_keeping.specs.Histories.{names_in, numbers_of, places_in, said_in}
use Rattle.relay_keeping.specs.Keepers.{AllWere, IsMarkAfter, WasMark}
use Rattle.relay_keeping.specs.Meeting.{AllFounded, AllMet, AreSeated, IsMet, IsSettledBy, input_ends, input_starts, lane_ends}
use Rattle.relay_keeping.specs.Met.{AllPutOnly, AllTellOnly}
use Rattle.relay_keeping.specs.Steps.{FollowAll, starts_of}
use Rattle.relay_keeping.specs.declared.trails.Followed.{Followed}
use Rattle.relay_keeping.specs.Tellers.{InputState, LaneState, TellsOnly, said_at, seat}
use Rattle.relay_keeping.proofs.Messages.{name_of_teller, names_in-append, number_of_name, numbers_of-append, places_in-append, says_names, says_places}

-- ---- the marks that were given

pub were_more : (starts : List Mark) (taken more : List (Notice Told)) (given : List (ℕ × Mark)) → AllWere starts taken given → AllWere starts (taken ++ more) given
were_more starts taken more given all g m =
    let w = all g m in
    record { before = w.before; later = w.later ++ more; parts = ap (λ l. l ++ more) w.parts ∙ append_assoc w.before w.later more; then_mark = w.then_mark }

pub were_push : (starts : List Mark) (taken : List (Notice Told)) (given given' : List (ℕ × Mark)) (p : ℕ) (mark : Mark) → given' ≡ given ++ (p, mark) ∷ [] → IsMarkAfter starts taken p mark → AllWere starts taken given → AllWere starts taken given'
were_push starts taken given given' p mark e now all g m =
    ⊎_elim (λ before. all g before)
    (λ (is : g ≡ (p, mark)). subst (WasMark starts taken) (sym is) (record { before = taken; later = []; parts = sym (append-nil taken); then_mark = now }))
    (Mem-push_cases g given (p, mark) (subst (Mem g) e m))

-- ---- one end

-- the end at a place
pub record EndAt (channel : Channel Told) (teller : ℕ) (taken : List (Notice Told)) (end : Option (TellEnd Told)) : Type 0 where
  pub told : List Told
  pub rest : List (Option Told)
  pub said : said_at end ≡ map Some told
  pub closed : Bool
  pub front : says told closed ≡ said_by teller taken ++ rest

abbrev seat_of : Channel Told → ℕ → Option (Channel Told × ℕ)
seat_of channel teller = Some (channel, teller)

seat_same : (c d : Channel Told) (l k : ℕ) → seat_of c l ≡ seat_of d k → l ≡ k
seat_same c d l k e =
    let a : Channel Told × ℕ = (c, l) in
    let b : Channel Told × ℕ = (d, k) in
    ap (λ (s : Channel Told × ℕ). s.1) (some_same a b e)

pub end_at : (channel : Channel Told) (teller : ℕ) (taken : List (Notice Told)) (end : Option (TellEnd Told)) → seat end ≡ Some (channel, teller) → IsMet taken end → EndAt channel teller taken end
end_at channel teller taken None s m = absurd m
end_at channel teller taken (Some e) s m = record {
  told = e.told;
  rest = m.0;
  said = refl;
  closed = e.closed;
  front = m.1 ∙ ap (λ l. said_by l taken ++ m.0) (seat_same e.channel channel e.lane teller s);
}

-- the places that were taken of an end are the first that it told
pub front_places : (channel : Channel Told) (teller : ℕ) (taken : List (Notice Told)) (end : Option (TellEnd Told)) → EndAt channel teller taken end → (more : List Place) × (places_in (said_at end) ≡ places_in (said_by teller taken) ++ more)
front_places channel teller taken end a =
    (places_in a.rest, ap places_in a.said ∙ sym (says_places a.told a.closed) ∙ ap places_in a.front ∙ places_in-append (said_by teller taken) a.rest)

-- a name that was taken of an end was told by it
pub front_names : (channel : Channel Told) (teller : ℕ) (taken : List (Notice Told)) (end : Option (TellEnd Told)) (name : OpName) → EndAt channel teller taken end → Mem name (names_in (said_by teller taken)) → Mem name (names_in (said_at end))
front_names channel teller taken end name a m =
    let all : names_in (said_at end) ≡ names_in (said_by teller taken) ++ names_in a.rest =
    ap names_in a.said ∙ sym (says_names a.told a.closed) ∙ ap names_in a.front ∙ names_in-append (said_by teller taken) a.rest in
    subst (Mem name) (sym all) (Mem-left name (names_in (said_by teller taken)) (names_in a.rest) m)

-- ---- all ends

pub input_at : (channel : Channel Told) (teller p : ℕ) (taken : List (Notice Told)) (vs : List InputState) (v : InputState) → slice_get vs p ≡ Some v → AreSeated channel teller (input_ends vs) → AllMet taken (input_ends vs) → EndAt channel (teller + p) taken v.end
input_at channel teller p taken [] v at seats met = absurd (cc)
input_at channel teller zero taken (x ∷ vs) v at seats met =
    subst (λ (w : InputState). EndAt channel (teller + 0) taken w.end) (some_same x v at) (subst (λ k. EndAt channel k taken x.end) (let e : teller ≡ teller + 0 = omega arith in e) (end_at channel teller taken x.end seats.0 met.0))
input_at channel teller (suc p) taken (x ∷ vs) v at seats met =
    subst (λ k. EndAt channel k taken v.end) (let e : teller + 1 + p ≡ teller + suc p = omega arith in e) (input_at channel (teller + 1) p taken vs v at seats.1 met.1)

pub lane_at : (channel : Channel Told) (teller p : ℕ) (taken : List (Notice Told)) (vs : List LaneState) (v : LaneState) → slice_get vs p ≡ Some v → AreSeated channel teller (lane_ends vs) → AllMet taken (lane_ends vs) → EndAt channel (teller + p) taken v.end
lane_at channel teller p taken [] v at seats met = absurd (cc)
lane_at channel teller zero taken (x ∷ vs) v at seats met =
    subst (λ (w : LaneState). EndAt channel (teller + 0) taken w.end) (some_same x v at) (subst (λ k. EndAt channel k taken x.end) (let e : teller ≡ teller + 0 = omega arith in e) (end_at channel teller taken x.end seats.0 met.0))
lane_at channel teller (suc p) taken (x ∷ vs) v at seats met =
    subst (λ k. EndAt channel k taken v.end) (let e : teller + 1 + p ≡ teller + suc p = omega arith in e) (lane_at channel (teller + 1) p taken vs v at seats.1 met.1)

pub puts_only : (vs : List InputState) (p : ℕ) (v : InputState) → slice_get vs p ≡ Some v → AllPutOnly vs → names_in (said_at v.end) ≡ []
puts_only [] p v at all = absurd (cc)
puts_only (x ∷ vs) zero v at all = subst (λ (w : InputState). names_in (said_at w.end) ≡ []) (some_same x v at) all.0
puts_only (x ∷ vs) (suc p) v at all = puts_only vs p v at all.1

pub tells_only : (vs : List LaneState) (p : ℕ) (v : LaneState) → slice_get vs p ≡ Some v → AllTellOnly vs → TellsOnly v
tells_only [] p v at all = absurd (cc)
tells_only (x ∷ vs) zero v at all = subst TellsOnly (some_same x v at) all.0
tells_only (x ∷ vs) (suc p) v at all = tells_only vs p v at all.1

there_is : {A : Type 0} (xs : List A) (p : ℕ) → p < length xs → (x : A) × (slice_get xs p ≡ Some x)
there_is [] p h = absurd (omega (arith, h))
there_is (x ∷ xs) zero h = (x, refl)
there_is (x ∷ xs) (suc p) h = there_is xs p (omega (arith, h))

-- the input that is read from a mark
pub input_of : (vs : List InputState) (p : ℕ) (start : Mark) → slice_get (input_starts vs) p ≡ Some start → (v : InputState) × (slice_get vs p ≡ Some v) × (v.start ≡ start)
input_of [] p start at = absurd (cc)
input_of (x ∷ vs) zero start at = (x, refl, some_same x.start start at)
input_of (x ∷ vs) (suc p) start at = input_of vs p start at

-- ---- the operations before a mark

pub record Meets (channel : Channel Told) (tellers : ℕ) (taken : List (Notice Told)) (inputs : List InputState) (lanes : List LaneState) : Type 0 where
  pub well_taken : IsWellTaken tellers taken
  pub input_seats : AreSeated channel 0 (input_ends inputs)
  pub lane_seats : AreSeated channel (length inputs) (lane_ends lanes)
  pub all : tellers ≡ length inputs + length lanes
  pub inputs_met : AllMet taken (input_ends inputs)
  pub lanes_met : AllMet taken (lane_ends lanes)
  pub puts : AllPutOnly inputs
  pub tells : AllTellOnly lanes

less_or : (k c : ℕ) → (k < c) ⊎ (c ≤ k)
less_or zero zero = inr (omega arith)
less_or zero (suc c) = inl (omega arith)
less_or (suc k) zero = inr (omega arith)
less_or (suc k) (suc c) = ⊎_elim (λ x. inl (omega (arith, x))) (λ x. inr (omega (arith, x))) (less_or k c)

-- a name that was taken of a teller was given to a lane
by_lane : (channel : Channel Told) (tellers : ℕ) (taken : List (Notice Told)) (inputs : List InputState) (lanes : List LaneState) → Meets channel tellers taken inputs lanes
    → (l : ℕ) (name : OpName) → Mem name (names_in (said_by l taken)) → IsSettledBy name.producer name.number lanes
by_lane channel tellers taken inputs lanes h l name m =
    ⊎_elim (λ (within : l < tellers).
    ⊎_elim (λ (input : l < length inputs).
    let v = there_is inputs l input in
    let a = subst (λ k. EndAt channel k taken v.0.end) (let e : 0 + l ≡ l = omega arith in e) (input_at channel 0 l taken inputs v.0 v.1 h.input_seats h.inputs_met) in
    absurd (subst (Mem name) (puts_only inputs l v.0 v.1 h.puts) (front_names channel l taken v.0.end name a m)))
    (λ (lane : length inputs ≤ l).
    let n = l - length inputs in
    let v = there_is lanes n (let t = h.all in omega (arith, within, lane, t)) in
    let a = subst (λ k. EndAt channel k taken v.0.end) (let e : length inputs + n ≡ l = omega (arith, lane) in e) (lane_at channel (length inputs) n taken lanes v.0 v.1 h.lane_seats h.lanes_met) in
    record {
      lane = v.0;
      is_lane = at-Mem lanes n v.0 v.1;
      name = name;
      is_producer = refl;
      is_number = refl;
      given = tells_only lanes n v.0 v.1 h.tells name (front_names channel l taken v.0.end name a m);
    }) (less_or l (length inputs)))
    (λ (past : tellers ≤ l). absurd (subst (λ s. Mem name (names_in s)) (h.well_taken.no_other l past) m)) (less_or l tellers)

settled_by : (channel : Channel Told) (tellers : ℕ) (taken : List (Notice Told)) (inputs : List InputState) (lanes : List LaneState) → Meets channel tellers taken inputs lanes
    → (p n : ℕ) → Mem n (numbers_of p (names_in (said_in taken))) → IsSettledBy p n lanes
settled_by channel tellers taken inputs lanes h p n m =
    let one = number_of_name p n (names_in (said_in taken)) m in
    let l = name_of_teller one.0 taken one.1 in
    let b = by_lane channel tellers taken inputs lanes h l.0 one.0 l.1 in
    record { lane = b.lane; is_lane = b.is_lane; name = b.name; is_producer = b.is_producer ∙ one.2; is_number = b.is_number ∙ one.3; given = b.given }

-- what was settled before is settled
numbers_later : (p n : ℕ) (before later : List (Notice Told)) → Mem n (numbers_of p (names_in (said_in before))) → Mem n (numbers_of p (names_in (said_in (before ++ later))))
numbers_later p n before later m =
    let all : names_in (said_in (before ++ later)) ≡ names_in (said_in before) ++ names_in (said_in later) =
    ap names_in (map-append (λ (k : Notice Told). k.told) before later) ∙ names_in-append (said_in before) (said_in later) in
    subst (λ l. Mem n (numbers_of p l)) (sym all) (subst (Mem n) (sym (numbers_of-append p (names_in (said_in before)) (names_in (said_in later)))) (Mem-left n (numbers_of p (names_in (said_in before))) (numbers_of p (names_in (said_in later))) m))

pub founded : (channel : Channel Told) (tellers : ℕ) (starts : List Mark) (taken : List (Notice Told)) (given : List (ℕ × Mark)) (inputs : List InputState) (lanes : List LaneState)
    → Meets channel tellers taken inputs lanes → input_starts inputs ≡ starts → AllWere starts taken given → AllFounded inputs lanes given
founded channel tellers starts taken given inputs lanes h same all g m =
    let w = all g m in
    let k = w.then_mark in
    let v = input_of inputs g.0 k.start (subst (λ l. slice_get l g.0 ≡ Some k.start) (sym same) k.is_start) in
    let a = subst (λ j. EndAt channel j taken v.0.end) (let e : 0 + g.0 ≡ g.0 = omega arith in e) (input_at channel 0 g.0 taken inputs v.0 v.1 h.input_seats h.inputs_met) in
    let front = front_places channel g.0 taken v.0.end a in
    let parts : places_in (said_by g.0 taken) ≡ places_in (said_by g.0 w.before) ++ places_in (said_by g.0 w.later) =
    ap (λ l. places_in (said_by g.0 l)) w.parts ∙ ap places_in (said_by-append g.0 w.before w.later) ∙ places_in-append (said_by g.0 w.before) (said_by g.0 w.later) in
    let told : places_in (said_at v.0.end) ≡ k.is_mark.done ++ ((k.is_mark.rest ++ places_in (said_by g.0 w.later)) ++ front.0) =
    front.1 ∙ ap (λ l. l ++ front.0) (parts ∙ ap (λ l. l ++ places_in (said_by g.0 w.later)) k.is_mark.puts ∙ append_assoc k.is_mark.done k.is_mark.rest (places_in (said_by g.0 w.later)))
    ∙ append_assoc k.is_mark.done (k.is_mark.rest ++ places_in (said_by g.0 w.later)) front.0 in
    record {
      input = v.0;
      is_input = v.1;
      done = k.is_mark.done;
      rest = ((k.is_mark.rest ++ places_in (said_by g.0 w.later)) ++ front.0) ++ v.0.batch;
      puts = ap (λ l. l ++ v.0.batch) told ∙ append_assoc k.is_mark.done ((k.is_mark.rest ++ places_in (said_by g.0 w.later)) ++ front.0) v.0.batch;
      settled = λ n l.
          settled_by channel tellers taken inputs lanes h g.0 (n + 1) (subst (λ t. Mem (n + 1) (numbers_of g.0 (names_in (said_in t)))) (sym w.parts) (numbers_later g.0 (n + 1) w.before w.later (k.is_mark.settled n l)));
      mark = k.is_mark.mark ∙ ap (λ s. after s k.is_mark.done) (sym v.2);
    }

-- ---- a keeper's steps

-- what a keeper keeps
abbrev pub Keeps : Bool → List Followed → List (Notice Told) → List (ℕ × Mark) → Type 0
Keeps whole fs taken given = (whole ≡ true → FollowAll taken fs) × AllWere (starts_of fs) taken given

pub keeps_new : (fs : List Followed) (taken : List (Notice Told)) (given : List (ℕ × Mark)) → taken ≡ [] → given ≡ [] → FollowAll [] fs → Keeps true fs taken given
keeps_new fs taken given none empty all = (λ w. subst (λ t. FollowAll t fs) (sym none) all, λ g m. absurd (subst (Mem g) empty m))

pub keeps_same : (whole : Bool) (fs : List Followed) (given : List (ℕ × Mark)) (old new : TakeEnd Told) → new ≡ old → Keeps whole fs old.taken given → Keeps whole fs new.taken given
keeps_same whole fs given old new e k = subst (λ (t : TakeEnd Told). Keeps whole fs t.taken given) (sym e) k

pub keeps_next : (w w' : Bool) (fs fs' : List Followed) (taken taken' : List (Notice Told)) (n : Notice Told) (given : List (ℕ × Mark)) → taken' ≡ taken ++ n ∷ []
    → (w' ≡ true → (w ≡ true) × ((t : List (Notice Told)) → FollowAll t fs → FollowAll (t ++ n ∷ []) fs')) → starts_of fs' ≡ starts_of fs → Keeps w fs taken given → Keeps w' fs' taken' given
keeps_next w w' fs fs' taken taken' n given e follows same k = (
  λ whole. let f = follows whole in subst (λ t. FollowAll t fs') (sym e) (f.1 taken (k.0 f.0)),
  subst (λ t. AllWere (starts_of fs') t given) (sym e) (subst (λ ms. AllWere ms (taken ++ n ∷ []) given) (sym same) (were_more (starts_of fs) taken (n ∷ []) given k.1)),
)

pub keeps_mark : (whole : Bool) (fs : List Followed) (taken : List (Notice Told)) (given given' : List (ℕ × Mark)) (p : ℕ) (mark : Mark) → given' ≡ given ++ (p, mark) ∷ [] → whole ≡ true
    → ((t : List (Notice Told)) → FollowAll t fs → IsMarkAfter (starts_of fs) t p mark) → Keeps whole fs taken given → Keeps whole fs taken given'
keeps_mark whole fs taken given given' p mark e all now k = (k.0, were_push (starts_of fs) taken given given' p mark e (now taken (k.0 all)) k.1)
