-- Meeting what was taken with what was told, worker by worker and lane by lane.
use Rattle.std.proofs.Common.{◌≡◌, ℕ, List, [], ◌∷◌, ◌++◌, map, refl, ap, sym, ◌∙◌}
use Rattle.relay_receipts.specs.Ends.{Channel, TakeEnd}
use Rattle.relay_receipts.specs.Notices.{IsWellTaken}
use Rattle.relay_telling.specs.declared.ending.Ending.{Ending}
use Rattle.relay_telling.specs.declared.lane_tells.LaneTells.{LaneTells}
use Rattle.relay_telling.specs.declared.lane_tells.ProducerTell.{ProducerTell}
use Rattle.relay_telling.specs.Destinations.{identities, ends_of}
use Rattle.relay_telling.specs.New.{channels_of}
use Rattle.relay_serve.specs.Meeting.{IsMetBy, AllMet, LanesMet, AllWellTaken}

pub well_more : (ts : List (TakeEnd Ending)) (t : TakeEnd Ending) → AllWellTaken ts → IsWellTaken t.lanes t.taken → AllWellTaken (ts ++ t ∷ [])
well_more [] t all one = (one, tt)
well_more (x ∷ ts) t all one = (all.0, well_more ts t all.1 one)

pub met_more : (ts : List (TakeEnd Ending)) (es : List ProducerTell) (t : TakeEnd Ending) (e : ProducerTell) → AllMet ts es → IsMetBy t e → AllMet (ts ++ t ∷ []) (es ++ e ∷ [])
met_more [] [] t e all one = (one, tt)
met_more [] (y ∷ es) t e all one = absurd all
met_more (x ∷ ts) [] t e all one = absurd all
met_more (x ∷ ts) (y ∷ es) t e all one = (all.0, met_more ts es t e all.1 one)

pub lanes_more : (takes : List (TakeEnd Ending)) (ts : List LaneTells) (t : LaneTells) → LanesMet takes ts → AllMet takes t.ends.items → LanesMet takes (ts ++ t ∷ [])
lanes_more takes [] t all one = (one, tt)
lanes_more takes (x ∷ ts) t all one = (all.0, lanes_more takes ts t all.1 one)

-- the channels of a lane's ends
pub channels_are : (lane : ℕ) (channels : List (Channel Ending)) (es : List ProducerTell) → identities es ≡ ends_of lane channels → map (λ (e : ProducerTell). e.tell.channel) es ≡ channels
channels_are lane channels es h = first es ∙ ap (map (λ (k : Channel Ending × ℕ). k.0)) h ∙ second channels where
  first : (xs : List ProducerTell) → map (λ (e : ProducerTell). e.tell.channel) xs ≡ map (λ (k : Channel Ending × ℕ). k.0) (identities xs)
  first [] = refl
  first (x ∷ xs) = ap (λ l. x.tell.channel ∷ l) (first xs)

  second : (cs : List (Channel Ending)) → map (λ (k : Channel Ending × ℕ). k.0) (ends_of lane cs) ≡ cs
  second [] = refl
  second (c ∷ cs) = ap (λ l. c ∷ l) (second cs)

-- the next worker's end of its channel, and the lane's
pub record NextMet (ts left : List (TakeEnd Ending)) (es rest : List ProducerTell) (t : TakeEnd Ending) (e : ProducerTell) : Type 0 where
  pub same : t.channel ≡ e.tell.channel
  pub others : map (λ (x : ProducerTell). x.tell.channel) rest ≡ channels_of left

pub next_met : (ts left : List (TakeEnd Ending)) (es rest : List ProducerTell) (t : TakeEnd Ending) (e : ProducerTell) → map (λ (x : ProducerTell). x.tell.channel) es ≡ channels_of ts → es ≡ e ∷ rest → ts ≡ t ∷ left → NextMet ts left es rest t e
next_met ts left es rest t e h is_e is_t =
    let both : e.tell.channel ∷ map (λ (x : ProducerTell). x.tell.channel) rest ≡ t.channel ∷ channels_of left = ap (map (λ (x : ProducerTell). x.tell.channel)) (sym is_e) ∙ h ∙ ap channels_of is_t in
    record { same = (let s : t.channel ≡ e.tell.channel = cc in s); others = (let s : map (λ (x : ProducerTell). x.tell.channel) rest ≡ channels_of left = cc in s) }
