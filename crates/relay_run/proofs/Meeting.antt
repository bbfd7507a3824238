-- The marks that were given, when all that the threads of a run told has been met.
use Rattle.std.proofs.Common.{◌≡◌, ℕ, zero, suc, ◌+◌, List, [], ◌∷◌, ◌++◌, length, map, Option, None, Some, refl, sym, ap, subst, ◌∙◌, ⊎_elim, inl, inr, append_assoc, append-nil}
use Rattle.std.specs.Prelude.{Bool, true, false, is_ok, slice_get, Result, Ok, Err, IfOk, IfSome}
use Rattle.std.proofs.lemmas.Bool.{false≢true}
use Rattle.std.proofs.lemmas.List.{length-map, map-append}
use Rattle.relay_action.specs.declared.operation.OpName.{OpName}
use Rattle.relay_results.specs.Words.{Mem}
use Rattle.relay_results.proofs.Lists.{Mem-left, Mem-map, some_same}
use Rattle.relay_core.specs.declared.report.Report.{Report}
use Rattle.relay_resume.specs.declared.mark.Mark.{Mark}
use Rattle.relay_resume.specs.declared.mark.Place.{Place}
use Rattle.relay_resume.specs.Trails.{after}
use Rattle.relay_receipts.specs.Ends.{Channel}
use Rattle.relay_keeping.specs.declared.told.Told.{Told}
use Rattle.relay_keeping.specs.Keepers.{Keeping, TakesOne, WasMark, new_keeper}
use Rattle.relay_keeping.specs.Meeting.{AllFounded, AreSeated, IsSettledBy, input_ends, input_starts, lane_ends}
use Rattle.relay_keeping.specs.Tellers.{AreNewInputs, AreNewLanes, InputState, LaneState, places_of, seat}
use Rattle.relay_run.specs.Places.{AreFirst, AreNewTellings, input_teller}
use Rattle.relay_threads.specs.declared.fault.FinishFault.{FinishFault}
use Rattle.relay_threads.specs.declared.summary.Summary.{Summary}
use Rattle.relay_run.specs.Markings.{EndsAsTold}
use Rattle.relay_run.specs.Marks.{Bounds, IsToldBy, IsToldIf, bound, seats_from, tellers_from}
use Rattle.relay_run.specs.Safe.{AllSafe, AllSafeStates, AreInputsOf, AreLanesOf, Ended, IsDone, IsLaneOf, starts_of}
use Rattle.relay_run.specs.Saving.{Saver, KeepsTold, lane_seat, seat_of}
use Rattle.relay_run.specs.Settling.{Seat, Tellings, name_of, teller_of}
use Rattle.relay_run.specs.Written.{GoesBy, Resuming}
use Rattle.relay_run.proofs.Places.{first_front, no_places}

-- ---- lists

abbrev first_or : {A : Type 0} → A → List A → A
first_or d [] = d
first_or d (x ∷ xs) = x

abbrev rest_of : {A : Type 0} → List A → List A
rest_of [] = []
rest_of (x ∷ xs) = xs

same_first : {A : Type 0} (x y : A) (xs ys : List A) → x ∷ xs ≡ y ∷ ys → x ≡ y
same_first x y xs ys e = ap (first_or x) e

same_rest : {A : Type 0} (x y : A) (xs ys : List A) → x ∷ xs ≡ y ∷ ys → xs ≡ ys
same_rest x y xs ys e = ap rest_of e

-- ---- the ends of a new channel

pub new_tellers : (channel : Channel Told) (n : ℕ) (ms : List Mark) (vs : List InputState) → AreNewInputs channel n ms vs → map input_teller vs ≡ tellers_from channel n ms
new_tellers channel n [] [] h = refl
new_tellers channel n [] (v ∷ vs) h = absurd h
new_tellers channel n (m ∷ ms) [] h = absurd h
new_tellers channel n (m ∷ ms) (v ∷ vs) h =
    let one : input_teller v ≡ (Some (channel, n), m) = λ i. (seat (h.0.end i), h.0.start i) in
    let more = new_tellers channel (n + 1) ms vs h.1 in
    λ i. one i ∷ more i

pub new_seats : (channel : Channel Told) (n : ℕ) (vs : List LaneState) → AreNewLanes channel n vs → map lane_seat vs ≡ seats_from channel n (length vs)
new_seats channel n [] h = refl
new_seats channel n (v ∷ vs) h =
    let one : lane_seat v ≡ Some (channel, n) = ap lane_seat h.0 in
    let more = new_seats channel (n + 1) vs h.1 in
    λ i. one i ∷ more i

pub new_tellings : (channel : Channel Told) (n : ℕ) (ms : List Mark) (vs : List InputState) → AreNewInputs channel n ms vs → AreNewTellings vs
new_tellings channel n [] [] h = tt
new_tellings channel n [] (v ∷ vs) h = absurd h
new_tellings channel n (m ∷ ms) [] h = absurd h
new_tellings channel n (m ∷ ms) (v ∷ vs) h = (no_places v.end v.batch _ h.0.end refl h.0.batch, new_tellings channel (n + 1) ms vs h.1)

pub new_bounds : (k : Keeping) (starts : List Mark) (n : ℕ) (tellings : List Tellings) (inputs : List InputState) (lanes : List LaneState) → k ≡ new_keeper k.channel (length starts + n) starts → AreNewInputs k.channel 0 starts inputs
    → AreNewLanes k.channel (length starts) lanes → length lanes ≡ n → map teller_of tellings ≡ map input_teller inputs → IsToldBy (bound k) (map teller_of tellings) (map lane_seat lanes)
new_bounds k starts n tellings inputs lanes is new others size same =
    let s : k.starts ≡ starts = ap (λ (x : Keeping). x.starts) is in
    let t : k.tellers ≡ length starts + n = ap (λ (x : Keeping). x.tellers) is in
    let m : length (map lane_seat lanes) ≡ length lanes = length-map lanes lane_seat in record {
      inputs = same ∙ (new_tellers k.channel 0 starts inputs new ∙ ap (tellers_from k.channel 0) (sym s));
      lanes = new_seats k.channel (length starts) lanes others
          ∙ (ap (λ c. seats_from k.channel (length starts) c) (sym m) ∙ ap (λ (l : List Mark). seats_from k.channel (length l) (length (map lane_seat lanes))) (sym s));
      all = t ∙ (ap (λ c. length starts + c) (sym size ∙ sym m) ∙ ap (λ (l : List Mark). length l + length (map lane_seat lanes)) (sym s));
    }

-- ---- the steps of a keeper

pub same_bound : (took : Bool) (old new : Keeping) → TakesOne took old new → bound new ≡ bound old
same_bound true old new h = ap bound h.1
same_bound false old new h = ap bound h

-- ---- what is met

pub seated_inputs : (channel : Channel Told) (n : ℕ) (ms : List Mark) (vs : List InputState) → map input_teller vs ≡ tellers_from channel n ms → AreSeated channel n (input_ends vs) × (input_starts vs ≡ ms)
seated_inputs channel n [] [] e = (tt, refl)
seated_inputs channel n [] (v ∷ vs) e = absurd (cc)
seated_inputs channel n (m ∷ ms) [] e = absurd (cc)
seated_inputs channel n (m ∷ ms) (v ∷ vs) e =
    let one : input_teller v ≡ (Some (channel, n), m) = same_first (input_teller v) (Some (channel, n), m) (map input_teller vs) (tellers_from channel (n + 1) ms) e in
    let more = seated_inputs channel (n + 1) ms vs (same_rest (input_teller v) (Some (channel, n), m) (map input_teller vs) (tellers_from channel (n + 1) ms) e) in
    let start : v.start ≡ m = ap (λ (x : Seat × Mark). x.1) one in
    let later = more.1 in
    ((ap (λ (x : Seat × Mark). x.0) one, more.0), λ i. start i ∷ later i)

pub seated_lanes : (channel : Channel Told) (n k : ℕ) (vs : List LaneState) → map lane_seat vs ≡ seats_from channel n k → AreSeated channel n (lane_ends vs)
seated_lanes channel n zero [] e = tt
seated_lanes channel n (suc k) [] e = absurd (cc)
seated_lanes channel n zero (v ∷ vs) e = absurd (cc)
seated_lanes channel n (suc k) (v ∷ vs) e =
    (same_first (lane_seat v) (Some (channel, n)) (map lane_seat vs) (seats_from channel (n + 1) k) e, seated_lanes channel (n + 1) k vs (same_rest (lane_seat v) (Some (channel, n)) (map lane_seat vs) (seats_from channel (n + 1) k) e))

-- the ends that a keeper is met with
pub record Meets (k : Keeping) (inputs : List InputState) (lanes : List LaneState) : Type 0 where
  pub producers : AreSeated k.channel 0 (input_ends inputs)
  pub others : AreSeated k.channel (length inputs) (lane_ends lanes)
  pub all : k.tellers ≡ length inputs + length lanes
  pub starts : input_starts inputs ≡ k.starts

pub meets : (k : Keeping) (ts : List (Seat × Mark)) (ss : List Seat) (inputs : List InputState) (lanes : List LaneState) → IsToldBy (bound k) ts ss → map input_teller inputs ≡ ts → map lane_seat lanes ≡ ss → Meets k inputs lanes
meets k ts ss inputs lanes told is are =
    let i = seated_inputs k.channel 0 k.starts inputs (is ∙ told.inputs) in
    let n : length inputs ≡ length k.starts = sym (length-map inputs (λ (v : InputState). v.start)) ∙ ap length i.1 in
    let m : length ss ≡ length lanes = sym (ap length are) ∙ length-map lanes lane_seat in record {
      producers = i.0;
      others = subst (λ c. AreSeated k.channel c (lane_ends lanes)) (sym n) (seated_lanes k.channel (length k.starts) (length ss) lanes (are ∙ told.lanes));
      all = told.all ∙ (ap (λ c. c + length ss) (sym n) ∙ ap (λ c. length inputs + c) m);
      starts = i.1;
    }

-- ---- what is before a mark

abbrev OfInput : Tellings → InputState → Type 0
OfInput t v = (v.start ≡ t.start) × AreFirst (places_of v) t.places

input_at : (ts : List Tellings) (vs : List InputState) (p : ℕ) (v : InputState) → AreInputsOf ts vs → slice_get vs p ≡ Some v → (t : Tellings) × (slice_get ts p ≡ Some t) × OfInput t v
input_at [] [] p v h at = absurd (cc)
input_at [] (w ∷ vs) p v h at = absurd h
input_at (t ∷ ts) [] p v h at = absurd h
input_at (t ∷ ts) (w ∷ vs) zero v h at = (t, refl, subst (OfInput t) (some_same w v at) h.0)
input_at (t ∷ ts) (w ∷ vs) (suc p) v h at = input_at ts vs p v h.1 at

lane_of : (ss : List Saver) (vs : List LaneState) (v : LaneState) → AreLanesOf ss vs → Mem v vs → (s : Saver) × Mem s ss × IsLaneOf s v
lane_of [] [] v h m = absurd m
lane_of [] (w ∷ vs) v h m = absurd h
lane_of (s ∷ ss) [] v h m = absurd h
lane_of (s ∷ ss) (w ∷ vs) v h m =
    ⊎_elim (λ (e : v ≡ w). (s, inl refl, subst (IsLaneOf s) (sym e) h.0)) (λ n. let x = lane_of ss vs v h.1 n in (x.0, inr x.1, x.2)) m

ended_applied : (s : Saver) (name : OpName) → KeepsTold s → Mem name s.settled.applied → Ended s name
ended_applied s name k m =
    let x = Mem-map name_of name s.applied (subst (Mem name) k.1.applies m) in inl (x.0, x.1, sym x.2)

ended_saved : (s : Saver) (name : OpName) → KeepsTold s → Mem name s.settled.saved → Ended s name
ended_saved s name k m =
    let x = Mem-map (λ (r : Report). r.name) name k.1.saved (subst (Mem name) k.1.saves m) in
    inr (x.0, record { saved = k.1.saved; others = k.1.others; parts = k.1.reports; lines = k.1.lines; is_saved = x.1 }, sym x.2)

done_by : (ss : List Saver) (vs : List LaneState) (p n : ℕ) → AreLanesOf ss vs → IsSettledBy p n vs → IsDone p n ss
done_by ss vs p n h b =
    let x = lane_of ss vs b.lane h b.is_lane in record {
      saver = x.0;
      is_saver = x.1;
      name = b.name;
      is_producer = b.is_producer;
      is_number = b.is_number;
      ended = ⊎_elim (λ m. ended_applied x.0 b.name x.2.keeps (subst (Mem b.name) x.2.applied m)) (λ m. ended_saved x.0 b.name x.2.keeps (subst (Mem b.name) x.2.saved m)) b.given;
    }

pub all_safe : (ts : List Tellings) (ss : List Saver) (vs : List InputState) (ls : List LaneState) (given : List (ℕ × Mark)) → AreInputsOf ts vs → AreLanesOf ss ls → AllFounded vs ls given → AllSafe ts ss given
all_safe ts ss vs ls given inputs lanes founded g m =
    let f = founded g m in
    let t = input_at ts vs g.0 f.input inputs f.is_input in record {
      input = t.0;
      is_input = t.1;
      done = f.done;
      first = first_front f.done f.rest t.0.places (subst (λ (ps : List Place). AreFirst ps t.0.places) f.puts t.2.1);
      settled = λ n within. done_by ss ls g.0 (n + 1) lanes (f.settled n within);
      mark = f.mark ∙ ap (λ (s : Mark). after s f.done) t.2.0;
    }

-- ---- the states that were written

start_at : (channel : Channel Told) (n : ℕ) (ts : List Tellings) (ms : List Mark) (p : ℕ) (m : Mark) → map teller_of ts ≡ tellers_from channel n ms → slice_get ms p ≡ Some m → (t : Tellings) × (slice_get ts p ≡ Some t) × (m ≡ t.start)
start_at channel n ts [] p m e at = absurd (cc)
start_at channel n [] (x ∷ ms) p m e at = absurd (cc)
start_at channel n (t ∷ ts) (x ∷ ms) zero m e at =
    let one : teller_of t ≡ (Some (channel, n), x) = same_first (teller_of t) (Some (channel, n), x) (map teller_of ts) (tellers_from channel (n + 1) ms) e in
    (t, refl, some_same m x (sym at) ∙ sym (ap (λ (y : Seat × Mark). y.1) one))
start_at channel n (t ∷ ts) (x ∷ ms) (suc p) m e at =
    start_at channel (n + 1) ts ms p m (same_rest (teller_of t) (Some (channel, n), x) (map teller_of ts) (tellers_from channel (n + 1) ms) e) at

all_starts : (channel : Channel Told) (n : ℕ) (ts : List Tellings) (ms : List Mark) → map teller_of ts ≡ tellers_from channel n ms → ms ≡ starts_of ts
all_starts channel n [] [] e = refl
all_starts channel n (t ∷ ts) [] e = absurd (cc)
all_starts channel n [] (x ∷ ms) e = absurd (cc)
all_starts channel n (t ∷ ts) (x ∷ ms) e =
    let one : teller_of t ≡ (Some (channel, n), x) = same_first (teller_of t) (Some (channel, n), x) (map teller_of ts) (tellers_from channel (n + 1) ms) e in
    let first : x ≡ t.start = sym (ap (λ (y : Seat × Mark). y.1) one) in
    let more = all_starts channel (n + 1) ts ms (same_rest (teller_of t) (Some (channel, n), x) (map teller_of ts) (tellers_from channel (n + 1) ms) e) in
    λ i. first i ∷ more i

pub states_safe : (k : Keeping) (r : Resuming) (ts : List Tellings) (ss : List Saver) (seats : List Seat) → IsToldBy (bound k) (map teller_of ts) seats → GoesBy k r → AllSafe ts ss k.given → AllSafeStates ts ss r.reads r.written
states_safe k r ts ss seats told goes safe w m =
    let x = goes.written w m in
    let past = goes.past w m in
    let starts = all_starts k.channel 0 ts k.starts told.inputs in
    record {
      state = x.state;
      text = x.text;
      count = x.inputs.count;
      paths = λ n p i at is. (x.inputs.each n p i at is).path;
      stands = λ n p i at is.
          ⊎_elim (λ (s : slice_get k.starts p ≡ Some i.mark). inl (start_at k.channel 0 ts k.starts p i.mark told.inputs s))
          (λ (g : Mem (p, i.mark) w.past.given). inr (
            g,
            subst (λ (ms : List Mark). WasMark ms w.past.taken (p, i.mark)) starts (x.were (p, i.mark) g),
            safe (p, i.mark) (subst (Mem (p, i.mark)) (sym past.given) (Mem-left (p, i.mark) w.past.given past.more g)),
          ))
          (x.inputs.each n p i at is).mark;
    }

-- ---- the ends of all that told, taken out of it one after another

pub record TakesInputs (all rest : List Tellings) (vs : List InputState) : Type 0 where
  pub before : List Tellings
  pub parts : before ++ rest ≡ all
  pub told : AreInputsOf before vs
  pub ends : map input_teller vs ≡ map teller_of before

pub record TakesLanes (all rest : List Saver) (vs : List LaneState) : Type 0 where
  pub before : List Saver
  pub parts : before ++ rest ≡ all
  pub told : AreLanesOf before vs
  pub ends : map lane_seat vs ≡ map seat_of before

inputs_push : (ts : List Tellings) (vs : List InputState) (t : Tellings) (v : InputState) → AreInputsOf ts vs → OfInput t v → AreInputsOf (ts ++ t ∷ []) (vs ++ v ∷ [])
inputs_push [] [] t v h one = (one, tt)
inputs_push [] (w ∷ vs) t v h one = absurd h
inputs_push (s ∷ ts) [] t v h one = absurd h
inputs_push (s ∷ ts) (w ∷ vs) t v h one = (h.0, inputs_push ts vs t v h.1 one)

lanes_push : (ss : List Saver) (vs : List LaneState) (s : Saver) (v : LaneState) → AreLanesOf ss vs → IsLaneOf s v → AreLanesOf (ss ++ s ∷ []) (vs ++ v ∷ [])
lanes_push [] [] s v h one = (one, tt)
lanes_push [] (w ∷ vs) s v h one = absurd h
lanes_push (x ∷ ss) [] s v h one = absurd h
lanes_push (x ∷ ss) (w ∷ vs) s v h one = (h.0, lanes_push ss vs s v h.1 one)

parts_push : {A : Type 0} (before old rest all : List A) (x : A) → before ++ old ≡ all → old ≡ x ∷ rest → (before ++ x ∷ []) ++ rest ≡ all
parts_push before old rest all x parts is = append_assoc before (x ∷ []) rest ∙ (ap (λ l. before ++ l) (sym is) ∙ parts)

parts_all : {A : Type 0} (before rest all : List A) → before ++ rest ≡ all → rest ≡ [] → before ≡ all
parts_all before rest all parts none = sym (append-nil before) ∙ (ap (λ l. before ++ l) (sym none) ∙ parts)

maps_push : {A B C : Type 0} (f : A → C) (g : B → C) (xs : List A) (ys : List B) (x : A) (y : B) → map f xs ≡ map g ys → f x ≡ g y → map f (xs ++ x ∷ []) ≡ map g (ys ++ y ∷ [])
maps_push f g xs ys x y same one =
    map-append f xs (x ∷ []) ∙ (ap (λ l. l ++ f x ∷ []) same ∙ (ap (λ z. map g ys ++ z ∷ []) one ∙ sym (map-append g ys (y ∷ []))))

pub takes_input : (all old rest : List Tellings) (vs vs' : List InputState) (t : Tellings) (v : InputState) → TakesInputs all old vs → old ≡ t ∷ rest → vs' ≡ vs ++ v ∷ [] → (seat v.end ≡ t.via) × (v.start ≡ t.start)
    → AreFirst (places_of v) t.places → TakesInputs all rest vs'
takes_input all old rest vs vs' t v h is more teller ends =
    let one : input_teller v ≡ teller_of t = λ i. (teller.0 i, teller.1 i) in record {
      before = h.before ++ t ∷ [];
      parts = parts_push h.before old rest all t h.parts is;
      told = subst (AreInputsOf (h.before ++ t ∷ [])) (sym more) (inputs_push h.before vs t v h.told (teller.1, ends));
      ends = ap (map input_teller) more ∙ maps_push input_teller teller_of vs h.before v t h.ends one;
    }

pub takes_lane : (all old rest : List Saver) (vs vs' : List LaneState) (s : Saver) (v : LaneState) → TakesLanes all old vs → old ≡ s ∷ rest → vs' ≡ vs ++ v ∷ [] → seat v.end ≡ s.via → IsLaneOf s v → TakesLanes all rest vs'
takes_lane all old rest vs vs' s v h is more one lane = record {
  before = h.before ++ s ∷ [];
  parts = parts_push h.before old rest all s h.parts is;
  told = subst (AreLanesOf (h.before ++ s ∷ [])) (sym more) (lanes_push h.before vs s v h.told lane);
  ends = ap (map lane_seat) more ∙ maps_push lane_seat seat_of vs h.before v s h.ends one;
}

pub took_inputs : (all rest : List Tellings) (vs : List InputState) → TakesInputs all rest vs → rest ≡ [] → (map input_teller vs ≡ map teller_of all) × AreInputsOf all vs
took_inputs all rest vs h none =
    let e = parts_all h.before rest all h.parts none in (h.ends ∙ ap (map teller_of) e, subst (λ ts. AreInputsOf ts vs) e h.told)

pub took_lanes : (all rest : List Saver) (vs : List LaneState) → TakesLanes all rest vs → rest ≡ [] → (map lane_seat vs ≡ map seat_of all) × AreLanesOf all vs
took_lanes all rest vs h none =
    let e = parts_all h.before rest all h.parts none in (h.ends ∙ ap (map seat_of) e, subst (λ ss. AreLanesOf ss vs) e h.told)

-- ---- what is given to threads, one after another

-- those that were given, and those that are left
pub gives_one : {A B : Type 0} (f : A → B) (all old rest : List B) (xs xs' : List A) (x : A) (y : B) → map f xs ++ old ≡ all → old ≡ y ∷ rest → xs' ≡ xs ++ x ∷ [] → f x ≡ y → map f xs' ++ rest ≡ all
gives_one f all old rest xs xs' x y h is more one =
    ap (λ l. map f l ++ rest) more
    ∙ (ap (λ l. l ++ rest) (map-append f xs (x ∷ []) ∙ ap (λ z. map f xs ++ z ∷ []) one) ∙ parts_push (map f xs) old rest all y h is)

pub gave_all : {A B : Type 0} (f : A → B) (all rest : List B) (xs : List A) → map f xs ++ rest ≡ all → rest ≡ [] → map f xs ≡ all
gave_all f all rest xs h none = parts_all (map f xs) rest all h none

-- the same, where these are seen through another function
pub gives_seen : {A B C : Type 0} (f : A → C) (g : B → C) (all old rest : List B) (xs xs' : List A) (x : A) (y : B) → map f xs ++ map g old ≡ map g all → old ≡ y ∷ rest → xs' ≡ xs ++ x ∷ [] → f x ≡ g y → map f xs' ++ map g rest ≡ map g all
gives_seen f g all old rest xs xs' x y h is more one = gives_one f (map g all) (map g old) (map g rest) xs xs' x (g y) h (ap (map g) is) more one

pub gave_seen : {A B C : Type 0} (f : A → C) (g : B → C) (all rest : List B) (xs : List A) → map f xs ++ map g rest ≡ map g all → rest ≡ [] → map f xs ≡ map g all
gave_seen f g all rest xs h none = gave_all f (map g all) (map g rest) xs h (ap (map g) none)

-- ---- what a run gives back

pub some_with : {A : Type 0} (P Q : A → Type 0) → ((x : A) → P x → Q x) → (o : Option A) → IfSome o P → IfSome o Q
some_with P Q f None h = tt
some_with P Q f (Some x) h = f x h

pub ok_with : {A E : Type 0} (P Q : A → Type 0) → ((x : A) → P x → Q x) → (r : Result A E) → IfOk r P → IfOk r Q
ok_with P Q f (Err e) h = tt
ok_with P Q f (Ok x) h = f x h

-- a result that is one
pub ok_then : {A E : Type 0} (P : Type 0) (r : Result A E) → is_ok r ≡ true → IfOk r (λ _. P) → P
ok_then P (Ok x) is h = h
ok_then P (Err e) is h = absurd (false≢true is)

-- the keeper is told by the ends that are given back, since they are those that were given
pub told_at_end : {W : Type 0} (b c : Option Bounds) (inputs inputs' : List Tellings) (tells tells' : List Saver) (end : Result (Summary W) FinishFault) → c ≡ b → IsToldIf b (map teller_of inputs) (map seat_of tells)
    → EndsAsTold inputs tells end inputs' tells' → IfOk end (λ _. IsToldIf c (map teller_of inputs') (map seat_of tells'))
told_at_end b c inputs inputs' tells tells' (Err e) same told ends = tt
told_at_end b c inputs inputs' tells tells' (Ok s) same told ends =
    let P : Option Bounds × List (Seat × Mark) × List Seat → Type 0 = λ x. IsToldIf x.0 x.1 x.2 in
    let i = ends.producers in
    let l = ends.lanes in
    subst P (λ j. (sym same j, sym i j, sym l j)) told

-- there is an end for each input
pub new_count : (channel : Channel Told) (n : ℕ) (ms : List Mark) (vs : List InputState) → AreNewInputs channel n ms vs → length vs ≡ length ms
new_count channel n [] [] h = refl
new_count channel n [] (v ∷ vs) h = absurd h
new_count channel n (m ∷ ms) [] h = absurd h
new_count channel n (m ∷ ms) (v ∷ vs) h = ap suc (new_count channel (n + 1) ms vs h.1)
