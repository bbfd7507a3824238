-- What was put is what was taken.
use Rattle.std.proofs.Common.{◌≡◌, ℕ, List, [], ◌∷◌, ◌++◌, Option, None, Some, Result, Ok, Err, refl, sym, subst, ap, ap₂, ◌∙◌, append-nil, append_assoc}
use Rattle.relay_action.specs.declared.action.Action.{Action}
use Rattle.relay_action.specs.declared.key.DocKey.{DocKey}
use Rattle.relay_ndjson.specs.declared.parser.Phase.TheVariants as phase
use Rattle.relay_ndjson.specs.Operations.{Operation}
use Rattle.relay_ndjson.specs.Reading.{Reading, Takes}
use Rattle.relay_words.specs.Taken.{TakesAll}
use Rattle.relay_resume.specs.declared.mark.Mark.{Mark}
use Rattle.relay_resume.specs.declared.mark.Place.{Place}
use Rattle.relay_resume.specs.Places.{place_behind}
use Rattle.relay_producer.specs.States.{ProducerState, after_put}
use Rattle.relay_common.specs.Putting.{after_puts}
use Rattle.relay_run.specs.declared.feed.FeedFault.{FeedFault}
use Rattle.relay_run.specs.declared.feed.FeedFault.TheVariants as fault
use Rattle.relay_run.specs.declared.feed.Next.{Next}
use Rattle.relay_run.specs.declared.feed.Next.TheVariants as next
use Rattle.relay_run.specs.Settling.{Tellings, teller_of}
use Rattle.relay_run.specs.Readers.{IsFedFrom}
use Rattle.relay_run.specs.Feeding.{Puts, Stops, end_of, ends_of, last_line, refused_end, with_places, FeedsTelling, FeedsAllTelling}

-- operations were taken of an open input, and put one after another; each was told by where it ends
pub record IsFedSoFar (old now : Reading) (before after : ProducerState) (start told : Tellings) : Type 0 where
  pub ops : List Operation
  pub taken : TakesAll old now ops
  pub fed : after ≡ after_puts before ops
  pub opens : now.phase ≡ phase.Open
  pub tells : told ≡ with_places start (ends_of start.start old now ops taken)

-- one more was taken, and where it ends is one place more
pub takes_end : (start : Mark) (old mid new : Reading) (ops : List Operation) (n : ℕ) (op : Operation) (t : TakesAll old mid ops) → Takes mid new n op
    → (u : TakesAll old new (ops ++ op ∷ [])) × (ends_of start old new (ops ++ op ∷ []) u ≡ ends_of start old mid ops t ++ end_of start new op ∷ [])
takes_end start old mid new [] n op t s = ((n, new, subst (λ (o : Reading). Takes o new n op) t s, refl), refl)
takes_end start old mid new (first ∷ ops) n op t s =
    let r = takes_end start t.1 mid new ops n op t.3 s in ((t.0, t.1, t.2, r.0), ap (λ (l : List Place). end_of start t.1 first ∷ l) r.1)

with_more : (start : Tellings) (a b : List Place) → with_places (with_places start a) b ≡ with_places start (a ++ b)
with_more start a b = ap (λ (l : List Place). record start { places = l }) (append_assoc start.places a b)

with_none : (start : Tellings) → start ≡ with_places start []
with_none start = ap (λ (l : List Place). record start { places = l }) (sym (append-nil start.places))

after_puts_more : (s : ProducerState) (ops : List Operation) (op : Operation) → after_puts s (ops ++ op ∷ []) ≡ after_put op.0 op.1 (after_puts s ops)
after_puts_more s [] op = refl
after_puts_more s (x ∷ xs) op = after_puts_more (after_put x.0 x.1 s) xs op

pub fed_none : (r : Reading) (p : ProducerState) (told : Tellings) → r.phase ≡ phase.Open → IsFedSoFar r r p p told told
fed_none r p told is = record { ops = []; taken = refl; fed = refl; opens = is; tells = with_none told }

pub fed_more : (old now new : Reading) (p q r : ProducerState) (start told more : Tellings) → IsFedSoFar old now p q start told → FeedsTelling now new q r told more (Ok next.Put)
    → IsFedSoFar old new p r start more
fed_more old now new p q r start told more h f =
    let n = f.0.0 in
    let op = f.0.1 in
    let t = takes_end start.start old now new h.ops n op h.taken f.0.2 in record {
      ops = h.ops ++ op ∷ [];
      taken = t.0;
      fed = f.0.4 ∙ ap (after_put op.0 op.1) h.fed ∙ sym (after_puts_more p h.ops op);
      opens = f.0.2.phase;
      tells = f.1 ∙ (ap (λ (s : Tellings). with_places s (end_of s.start new op ∷ [])) h.tells
          ∙ (with_more start (ends_of start.start old now h.ops h.taken) (end_of start.start new op ∷ []) ∙ ap (with_places start) (sym t.1)));
    }

-- the feeding stops here
pub fed_stops : (old now new : Reading) (p q after : ProducerState) (start told more : Tellings) (result : Result Unit FeedFault) → IsFedSoFar old now p q start told
    → (stops : Stops now new q after result) → more ≡ with_places told (refused_end told.start now new q after result stops) → FeedsAllTelling old new p after start more result
fed_stops old now new p q after start told more result h stops is =
    let P : ProducerState → Type 0 = λ x. (s : Stops now new x after result) × (more ≡ with_places start (ends_of start.start old now h.ops h.taken ++ refused_end start.start now new x after result s)) in
    let at : P q = (
      stops,
      is ∙ (ap (λ (s : Tellings). with_places s (refused_end s.start now new q after result stops)) h.tells
          ∙ with_more start (ends_of start.start old now h.ops h.taken) (refused_end start.start now new q after result stops)),
    ) in
    let x = subst P h.fed at in (record { ops = h.ops; rest = now; taken = h.taken; stops = x.0 }, x.1)

-- the end of the input stops the feeding
pub fed_ends : (old now new : Reading) (p q after : ProducerState) (start told more : Tellings) (n : Next) → n ≡ next.Ended → FeedsTelling now new q after told more (Ok n)
    → IsFedSoFar old now p q start told → FeedsAllTelling old new p after start more (Ok tt)
fed_ends old now new p q after start told more n is e h =
    let f = subst (λ (x : Next). FeedsTelling now new q after told more (Ok x)) is e in
    fed_stops old now new p q after start told more (Ok tt) h f.0 f.1

-- a step that fails stops the feeding
pub fed_fails : (old now new : Reading) (p q after : ProducerState) (start told more : Tellings) (e : FeedFault) → FeedsTelling now new q after told more (Err e)
    → IsFedSoFar old now p q start told → FeedsAllTelling old new p after start more (Err e)
fed_fails old now new p q after start told more e f h = fed_stops old now new p q after start told more (Err e) h f.0 f.1

-- the run is to stop
pub fed_stopped : (old now : Reading) (p q : ProducerState) (start told : Tellings) → IsFedSoFar old now p q start told → FeedsAllTelling old now p q start told (Err fault.Stopped)
fed_stopped old now p q start told h = fed_stops old now now p q q start told told (Err fault.Stopped) h (refl, refl) (with_none told)

-- an operation was told by where it ends
pub told_end : (told sent more : Tellings) (n line used : ℕ) (new : Reading) (op : Operation) → sent ≡ told → more ≡ record sent { places = sent.places ++ place_behind sent.start n used ∷ [] }
    → n ≡ last_line line op.1 → line ≡ new.line → used ≡ new.used → more ≡ with_places told (end_of told.start new op ∷ [])
told_end told sent more n line used new op same is e l u =
    subst (λ (t : Tellings). more ≡ with_places t (end_of t.start new op ∷ [])) same
    (is ∙ ap₂ (λ (k b : ℕ). with_places sent (place_behind sent.start k b ∷ [])) (e ∙ ap (λ (k : ℕ). last_line k op.1) l) u)

-- a put that is refused stops the feeding, after its operation was told
pub refused_stops : (old new : Reading) (p q : ProducerState) (told more : Tellings) (n : ℕ) (op : Operation) (e : FeedFault) → Takes old new n op → Puts op.0 op.1 p q (Err e)
    → more ≡ with_places told (end_of told.start new op ∷ []) → FeedsTelling old new p q told more (Err e)
refused_stops old new p q told more n op (fault.Input e) t h is = absurd h
refused_stops old new p q told more n op fault.NumbersSpent t h is = ((n, op, t, h.0, h.1), is)
refused_stops old new p q told more n op fault.LaneGone t h is = ((n, op, t, h), is)
refused_stops old new p q told more n op fault.Stopped t h is = absurd h

-- a put is not refused since a run stops
pub not_stopped : (key : DocKey) (action : Action) (p q : ProducerState) (e : FeedFault) → Puts key action p q (Err e) → e ≡ fault.Stopped → ⊥
not_stopped key action p q (fault.Input x) h is = absurd h
not_stopped key action p q fault.NumbersSpent h is = cc
not_stopped key action p q fault.LaneGone h is = cc
not_stopped key action p q fault.Stopped h is = absurd h

-- it told by the same end
pub same_teller : {S : Type 0} (left : S → Option (List ℕ)) (failed : S → ℕ) (index : Option (List ℕ)) (reader : Option S) (ops : List Operation) (before after : ProducerState) (told now : Tellings) (f : Option FeedFault) → IsFedFrom left failed index reader ops before after told now f
    → teller_of now ≡ teller_of told
same_teller left failed index None ops before after told now f h = ap teller_of h.3
same_teller left failed index (Some reader) ops before after told now f h = ap teller_of h.1.1
