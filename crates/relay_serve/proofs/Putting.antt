-- What is put and heard, step by step.
use Rattle.std.proofs.Common.{◌≡◌, ◌≢◌, ℕ, ◌+◌, ◌^◌, true, false, List, [], ◌∷◌, ◌++◌, length, map, refl, ap, sym, subst, ◌∙◌, inl, inr, arith, append_assoc, append-nil, add-zero, vec_len}
use Rattle.std.proofs.lemmas.List.{length-map, length-append, map-append}
use Rattle.std.specs.Prelude.{Result, Ok, Err, OnOk, IfOk, IfErr, IsErrAnd, ◌↔◌}
use Rattle.relay_action.specs.declared.action.Action.{Action}
use Rattle.relay_action.specs.declared.key.DocKey.{DocKey}
use Rattle.relay_action.specs.declared.operation.OpName.{OpName}
use Rattle.relay_action.specs.Lanes.{lane_of_document}
use Rattle.relay_producer.specs.declared.fault.PutFaultKind.TheVariants as fault
use Rattle.relay_producer.specs.declared.producer.Receipt.{Receipt}
use Rattle.relay_producer.specs.Ends.{identity, open_puts}
use Rattle.relay_producer.specs.States.{ProducerState, after_put, after_gone, is_lane_gone, lane_for}
use Rattle.relay_receipts.specs.Windows.{WindowState, without_ended}
use Rattle.relay_receipts.specs.declared.notice.Notice.{Notice}
use Rattle.relay_receipts.specs.declared.window.WindowFault.{WindowFault}
use Rattle.relay_receipts.specs.declared.window.WindowFaultKind.{WindowFaultKind}
use Rattle.relay_receipts.specs.declared.window.WindowFaultKind.TheVariants as kind
use Rattle.relay_common.specs.Putting.{after_puts}
use Rattle.relay_front.specs.declared.ending.End.{End}
use Rattle.relay_front.specs.declared.ending.End.TheVariants as end
use Rattle.relay_front.specs.Operations.{Write}
use Rattle.relay_telling.specs.declared.ending.Ending.{Ending}
use Rattle.relay_serve.specs.declared.batch.Batch.{Batch}
use Rattle.relay_serve.specs.Batches.{FitsFrom, end_in}
use Rattle.relay_serve.specs.Putting.{Hears, IsPut, FindsFull, FindsEnd, IsRefused, Tries, CameBy, IsWhy, PutsSome, is_final}
use Rattle.relay_serve.specs.Settling.{Event, WasPut, WasHeard, Stays, WasFull, AreAll, AreUnput, Settles, puts_in, heard_in, ends_in, open_after}
use Rattle.relay_serve.proofs.Noting.{ends_at_last, heard_put, pending_count}

-- ---- lists of events

heard_later : (es : List Event) (ns : List (Notice Ending)) → heard_in (es ++ map WasHeard ns) ≡ heard_in es ++ ns
heard_later [] [] = refl
heard_later [] (n ∷ ns) = ap (λ l. n ∷ l) (heard_later [] ns)
heard_later (WasPut w ∷ es) ns = heard_later es ns
heard_later (WasHeard n ∷ es) ns = ap (λ l. n ∷ l) (heard_later es ns)

pub puts_later : (es : List Event) (ns : List (Notice Ending)) → puts_in (es ++ map WasHeard ns) ≡ puts_in es
puts_later [] [] = refl
puts_later [] (n ∷ ns) = puts_later [] ns
puts_later (WasPut w ∷ es) ns = ap (λ l. w ∷ l) (puts_later es ns)
puts_later (WasHeard n ∷ es) ns = puts_later es ns

pub puts_more : (es : List Event) (w : Write) → puts_in (es ++ WasPut w ∷ []) ≡ puts_in es ++ w ∷ []
puts_more [] w = refl
puts_more (WasPut x ∷ es) w = ap (λ l. x ∷ l) (puts_more es w)
puts_more (WasHeard n ∷ es) w = puts_more es w

-- how many are open, part by part
open_on : (n : ℕ) (es fs : List Event) → open_after n (es ++ fs) ≡ open_after (open_after n es) fs
open_on n [] fs = refl
open_on n (WasPut w ∷ es) fs = open_on (n + 1) es fs
open_on n (WasHeard x ∷ es) fs = open_on (without_ended x.told n) es fs

-- what is heard after what was heard
later_on : (es : List Event) (a b : List (Notice Ending)) → (es ++ map WasHeard a) ++ map WasHeard b ≡ es ++ map WasHeard (a ++ b)
later_on es a b = append_assoc es (map WasHeard a) (map WasHeard b) ∙ ap (λ l. es ++ l) (sym (map-append WasHeard a b))

-- ---- what is heard

pub hears_none : (old new : WindowState Ending) (b : Batch) → new ≡ old → Hears old new b b
hears_none old new b is = record {
  same = ap (λ (w : WindowState Ending). w.producer) is;
  window = ap (λ (w : WindowState Ending). w.window) is;
  heard = [];
  taken = ap (λ (w : WindowState Ending). w.receipts.taken) is ∙ sym (append-nil old.receipts.taken);
  open_now = ap (λ (w : WindowState Ending). w.pending) is;
  fits = λ lanes n es fits. subst (λ l. FitsFrom lanes n l b) (sym (append-nil es)) fits;
}

pub hears_one : (old new : WindowState Ending) (n : Notice Ending) (before after : Batch) → new.producer ≡ old.producer → new.window ≡ old.window → new.receipts.taken ≡ old.receipts.taken ++ n ∷ [] → new.pending ≡ without_ended n.told old.pending
    → ((lanes number : ℕ) (es : List Event) → FitsFrom lanes number es before → FitsFrom lanes number (es ++ WasHeard n ∷ []) after) → Hears old new before after
hears_one old new n before after same window taken pending fits = record { same = same; window = window; heard = n ∷ []; taken = taken; open_now = pending; fits = fits }

pub hears_on : (a b c : WindowState Ending) (x y z : Batch) → Hears a b x y → Hears b c y z → Hears a c x z
hears_on a b c x y z h k = record {
  same = k.same ∙ h.same;
  window = k.window ∙ h.window;
  heard = h.heard ++ k.heard;
  taken = k.taken ∙ ap (λ l. l ++ k.heard) h.taken ∙ append_assoc a.receipts.taken h.heard k.heard;
  open_now =
      k.open_now ∙ ap (λ n. open_after n (map WasHeard k.heard)) h.open_now ∙ sym (open_on a.pending (map WasHeard h.heard) (map WasHeard k.heard))
      ∙ ap (open_after a.pending) (sym (map-append WasHeard h.heard k.heard));
  fits = λ lanes n es fits. subst (λ l. FitsFrom lanes n l z) (later_on es h.heard k.heard) (k.fits lanes n (es ++ map WasHeard h.heard) (h.fits lanes n es fits));
}

-- ---- one try

tries_refused : (old new : WindowState Ending) (key : DocKey) (k : WindowFaultKind) → (k ≡ kind.WindowFull → old.pending ≡ old.window)
    → (k ≡ kind.Put fault.LaneGone → new ≡ record old { producer = after_gone key old.producer }) → (k ≡ kind.Put fault.NumbersSpent → old.producer.put ≡ 2 ^ 40) → (k ≢ kind.Put fault.LaneGone → new ≡ old) → IsRefused key k old new
tries_refused old new key kind.WindowFull full gone spent unchanged = (unchanged (λ e. cc), full refl)
tries_refused old new key (kind.Put fault.LaneGone) full gone spent unchanged = inl (gone refl)
tries_refused old new key (kind.Put fault.NumbersSpent) full gone spent unchanged = inr (unchanged (λ e. cc), spent refl)

pub tries_put : (old new : WindowState Ending) (key : DocKey) (action : Action) (result : Result Receipt WindowFault) → IfOk result (λ r. r.name ≡ record { epoch = old.producer.epoch; producer = old.producer.producer; number = old.producer.put + 1 })
    → IfOk result (λ r. r.lane ≡ lane_for key old.producer)
    → OnOk result (new ≡ record old { producer = after_put key action old.producer; pending = old.pending + 1 }) → IfErr result (λ e. (e.key ≡ key) × (e.action ≡ action))
    → (IsErrAnd result (λ e. e.kind ≡ kind.WindowFull) ↔ (old.pending ≡ old.window))
    → IfErr result (λ e. e.kind ≡ kind.Put fault.LaneGone → new ≡ record old { producer = after_gone key old.producer })
    → (IsErrAnd result (λ e. e.kind ≡ kind.Put fault.NumbersSpent) ↔ ((old.pending ≢ old.window) × (is_lane_gone key old.producer ≡ false) × (old.producer.put ≡ 2 ^ 40)))
    → IfErr result (λ e. e.kind ≢ kind.Put fault.LaneGone → new ≡ old) → Tries key action old result new
tries_put old new key action (Ok r) name lane added back full gone spent unchanged = record { added = added; number = ap (λ (o : OpName). o.number) name; lane = lane }
tries_put old new key action (Err e) name lane added back full gone spent unchanged =
    (back.0, back.1, tries_refused old new key e.kind full.0 gone (λ is. (spent.0 is).2) unchanged)

-- a refusal that is not final found the window full
pub refused_full : (old new : WindowState Ending) (key : DocKey) (k : WindowFaultKind) → is_final k ≡ false → IsRefused key k old new → FindsFull old new
refused_full old new key kind.WindowFull is r = r
refused_full old new key (kind.Put why) is r = absurd (cc)

pub refused_final : (old new : WindowState Ending) (key : DocKey) (k : WindowFaultKind) → is_final k ≡ true → IsRefused key k old new → FindsEnd key old new
refused_final old new key kind.WindowFull is r = absurd (cc)
refused_final old new key (kind.Put why) is r = r

-- ---- write after write

pub puts_count : (p : ProducerState) (ws : List Write) → (after_puts p ws).put ≡ p.put + length ws
puts_count p [] = sym (add-zero p.put)
puts_count p (w ∷ ws) = let h = puts_count (after_put w.0 w.1 p) ws in omega (arith, h)

puts_append : (p : ProducerState) (ws : List Write) (w : Write) → after_puts p (ws ++ w ∷ []) ≡ after_put w.0 w.1 (after_puts p ws)
puts_append p [] w = refl
puts_append p (x ∷ ws) w = puts_append (after_put x.0 x.1 p) ws w

-- as many lanes
pub lanes_kept : (old new : WindowState Ending) → Stays old new → length new.producer.ends ≡ length old.producer.ends
lanes_kept old new h =
    let a = length-map (open_puts new.producer.ends) identity in
    let b = length-map new.producer.ends (λ e. e.put) in
    let c = length-map (open_puts old.producer.ends) identity in
    let d = length-map old.producer.ends (λ e. e.put) in
    sym (a ∙ b) ∙ ap length h.ends ∙ c ∙ d

pub came_none : (old : WindowState Ending) (b : Batch) → vec_len b.items ≡ 0 → FitsFrom (length old.producer.ends) (old.producer.put + 1) [] b → CameBy old [] old b
came_none old b none fits = record { puts = refl; taken = sym (append-nil old.receipts.taken); fits = fits; count = none; open_now = refl }

pub came_heard : (old mid new : WindowState Ending) (es : List Event) (b c : Batch) → CameBy old es mid b → (h : Hears mid new b c) → vec_len c.items ≡ vec_len b.items → CameBy old (es ++ map WasHeard h.heard) new c
came_heard old mid new es b c p h len = record {
  puts = h.same ∙ p.puts ∙ ap (after_puts old.producer) (sym (puts_later es h.heard));
  taken = h.taken ∙ ap (λ l. l ++ h.heard) p.taken ∙ append_assoc old.receipts.taken (heard_in es) h.heard ∙ ap (λ l. old.receipts.taken ++ l) (sym (heard_later es h.heard));
  fits = h.fits (length old.producer.ends) (old.producer.put + 1) es p.fits;
  count = len ∙ p.count ∙ ap length (sym (puts_later es h.heard));
  open_now = h.open_now ∙ ap (λ n. open_after n (map WasHeard h.heard)) p.open_now ∙ sym (open_on old.pending es (map WasHeard h.heard));
}

pub came_put : (old mid new : WindowState Ending) (es : List Event) (key : DocKey) (action : Action) (r : Receipt) (b c : Batch) → length mid.producer.ends ≡ length old.producer.ends → CameBy old es mid b → IsPut key action r mid new
    → ((lanes n : ℕ) (events : List Event) (w : Write) → FitsFrom lanes n events b → r.name.number ≡ n + vec_len b.items → r.lane ≡ lane_of_document w.0 lanes → FitsFrom lanes n (events ++ WasPut w ∷ []) c)
    → vec_len c.items ≡ vec_len b.items + 1 → CameBy old (es ++ WasPut (key, action) ∷ []) new c
came_put old mid new es key action r b c lanes p put noted len =
    let w : Write = (key, action) in
    let at : mid.producer.put ≡ old.producer.put + length (puts_in es) = ap (λ (s : ProducerState). s.put) p.puts ∙ puts_count old.producer (puts_in es) in
    let is : r.name.number ≡ (old.producer.put + 1) + vec_len b.items = omega (arith, put.number, at, p.count) in
    let lane : r.lane ≡ lane_of_document key (length old.producer.ends) = put.lane ∙ ap (lane_of_document key) lanes in
    let more : length (puts_in es ++ w ∷ []) ≡ length (puts_in es) + 1 = length-append (puts_in es) (w ∷ []) in
    let all : length (puts_in (es ++ WasPut w ∷ [])) ≡ length (puts_in es) + 1 = ap length (puts_more es w) ∙ more in
    let none : heard_in (es ++ WasPut w ∷ []) ≡ heard_in es = heard_put es w in
    let pending : new.pending ≡ mid.pending + 1 = ap (λ (s : WindowState Ending). s.pending) put.added in
    record {
      puts = ap (λ (s : WindowState Ending). s.producer) put.added ∙ ap (λ s. after_put key action s) p.puts ∙ sym (puts_append old.producer (puts_in es) w) ∙ ap (after_puts old.producer) (sym (puts_more es w));
      taken = ap (λ (s : WindowState Ending). s.receipts.taken) put.added ∙ p.taken ∙ ap (λ l. old.receipts.taken ++ l) (sym none);
      fits = noted (length old.producer.ends) (old.producer.put + 1) es w p.fits is lane;
      count = omega (arith, len, p.count, all);
      open_now = pending ∙ ap (λ n. n + 1) p.open_now ∙ sym (open_on old.pending es (WasPut w ∷ []));
    }

-- ---- the end of the puts

pub some_all : (old new : WindowState Ending) (es : List Event) (others ws : List Write) (e : End) (b : Batch) → ws ≡ puts_in es ++ others → others ≡ [] → CameBy old es new b → PutsSome old ws e new b
some_all old new es others ws e b is none p = record {
  events = es;
  others = [];
  writes = is ∙ ap (λ l. puts_in es ++ l) none;
  taken = p.taken;
  fits = p.fits;
  count = p.count;
  why = p.puts;
}

pub some_full : (old mid new : WindowState Ending) (es : List Event) (w : Write) (others ws : List Write) (b : Batch) → ws ≡ puts_in es ++ w ∷ others → mid.window ≡ old.window → CameBy old es mid b → FindsFull mid new → PutsSome old ws end.Unput new b
some_full old mid new es w others ws b is window p full = record {
  events = es;
  others = w ∷ others;
  writes = is;
  taken = ap (λ (s : WindowState Ending). s.receipts.taken) full.0 ∙ p.taken;
  fits = p.fits;
  count = p.count;
  why = inl (
    refl,
    ap (λ (s : WindowState Ending). s.producer) full.0 ∙ p.puts,
    record {
      front = es;
      later = [];
      last = sym (append-nil es);
      full = sym p.open_now ∙ full.1 ∙ window;
    },
  );
}

why_gone : (old mid new : WindowState Ending) (es : List Event) (w : Write) (others : List Write) → mid.producer ≡ after_puts old.producer (puts_in es) → FindsEnd w.0 mid new → IsWhy old es (w ∷ others) end.Gone new
why_gone old mid new es w others puts (inl is) = inr (inl (refl, ap (λ (s : WindowState Ending). s.producer) is ∙ ap (λ s. after_gone w.0 s) puts))
why_gone old mid new es w others puts (inr is) =
    inr (inr (refl, ap (λ (s : WindowState Ending). s.producer.put) is.0 ∙ is.1, ap (λ (s : WindowState Ending). s.producer) is.0 ∙ puts))

taken_same : (key : DocKey) (mid new : WindowState Ending) → FindsEnd key mid new → new.receipts.taken ≡ mid.receipts.taken
taken_same key mid new (inl is) = ap (λ (s : WindowState Ending). s.receipts.taken) is
taken_same key mid new (inr is) = ap (λ (s : WindowState Ending). s.receipts.taken) is.0

pub some_gone : (old mid new : WindowState Ending) (es : List Event) (w : Write) (others ws : List Write) (b : Batch) → ws ≡ puts_in es ++ w ∷ others → CameBy old es mid b → FindsEnd w.0 mid new → PutsSome old ws end.Gone new b
some_gone old mid new es w others ws b is p gone = record {
  events = es;
  others = w ∷ others;
  writes = is;
  taken = taken_same w.0 mid new gone ∙ p.taken;
  fits = p.fits;
  count = p.count;
  why = why_gone old mid new es w others p.puts gone;
}

-- ---- the whole

full_later : (old : WindowState Ending) (es : List Event) (ns : List (Notice Ending)) → WasFull old es → WasFull old (es ++ map WasHeard ns)
full_later old es ns h = record {
  front = h.front;
  later = h.later ++ ns;
  last = ap (λ l. l ++ map WasHeard ns) h.last ∙ later_on h.front h.later ns;
  full = h.full;
}

no_ends : (ends : List End) (ws : List Write) → length ends ≡ length ws → ws ≡ [] → ends ≡ []
no_ends [] ws same none = refl
no_ends (e ∷ es) ws same none = absurd (omega (arith, same, ap length none))

unput_later : (old mid new : WindowState Ending) (es : List Event) (ns : List (Notice Ending)) (others : List Write) (e : End) (ends : List End) → new.producer ≡ mid.producer → length ends ≡ length others → AreAll e ends
    → IsWhy old es others e mid → AreUnput old (es ++ map WasHeard ns) others ends new.producer
unput_later old mid new es ns [] e ends same count all why =
    (no_ends ends [] count refl, same ∙ why ∙ ap (after_puts old.producer) (sym (puts_later es ns)))
unput_later old mid new es ns (w ∷ others) e ends same count all (inl why) =
    inl (subst (λ x. AreAll x ends) why.0 all, full_later old es ns why.2, same ∙ why.1 ∙ ap (after_puts old.producer) (sym (puts_later es ns)))
unput_later old mid new es ns (w ∷ others) e ends same count all (inr (inl why)) =
    inr (inl (subst (λ x. AreAll x ends) why.0 all, same ∙ why.1 ∙ ap (λ l. after_gone w.0 (after_puts old.producer l)) (sym (puts_later es ns))))
unput_later old mid new es ns (w ∷ others) e ends same count all (inr (inr why)) =
    inr (inr (subst (λ x. AreAll x ends) why.0 all, ap (λ (s : ProducerState). s.put) same ∙ why.1, same ∙ why.2 ∙ ap (after_puts old.producer) (sym (puts_later es ns))))

pub settles_all : (old mid new : WindowState Ending) (ws : List Write) (other : End) (ends unput : List End) (b c : Batch) → Stays old new → PutsSome old ws other mid b → Hears mid new b c → vec_len c.items ≡ vec_len b.items
    → length ends ≡ length ws → ends ≡ map end_in c.items.items ++ unput → AreAll other unput → Settles old ws ends new
settles_all old mid new ws other ends unput b c stays p h len each all same =
    let lanes = length old.producer.ends in
    let number = old.producer.put + 1 in
    let es = p.events ++ map WasHeard h.heard in
    let fits : FitsFrom lanes number es c = h.fits lanes number p.events p.fits in
    let ended : map end_in c.items.items ≡ ends_in lanes number es = ap (map end_in) fits.items ∙ ends_at_last lanes number es in
    let puts : puts_in es ≡ puts_in p.events = puts_later p.events h.heard in
    let count : length unput ≡ length p.others =
    let a = ap length all ∙ length-append (map end_in c.items.items) unput in
    let b = length-map c.items.items end_in in
    let d = ap length fits.items ∙ pending_count lanes number es ∙ ap length puts in
    let e = ap length p.writes ∙ length-append (puts_in p.events) p.others in
    omega (arith, a, b, d, e, each) in
    record {
      stays = stays;
      events = es;
      others = p.others;
      writes = p.writes ∙ ap (λ l. l ++ p.others) (sym puts);
      taken = h.taken ∙ ap (λ l. l ++ h.heard) p.taken ∙ append_assoc old.receipts.taken (heard_in p.events) h.heard ∙ ap (λ l. old.receipts.taken ++ l) (sym (heard_later p.events h.heard));
      unput = unput;
      all = all ∙ ap (λ l. l ++ unput) ended;
      count = count;
      why = unput_later old mid new p.events h.heard p.others other unput h.same count same p.why;
    }
