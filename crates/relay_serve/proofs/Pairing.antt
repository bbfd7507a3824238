-- What is handed to one thread after another, and comes back.
use Rattle.std.proofs.Common.{◌≡◌, ℕ, ◌+◌, List, [], ◌∷◌, ◌++◌, map, length, refl, ap, sym, ◌∙◌, arith, append_assoc}
use Rattle.std.proofs.lemmas.List.{map-append}
use Rattle.relay_queue.specs.Ends.{Queue}
use Rattle.relay_producer.specs.States.{ProducerState}
use Rattle.relay_receipts.specs.Ends.{Channel, TakeEnd}
use Rattle.relay_receipts.specs.Windows.{WindowState}
use Rattle.relay_telling.specs.declared.ending.Ending.{Ending}
use Rattle.relay_telling.specs.New.{channels_of, new_take}
use Rattle.relay_threads.specs.Relay.{AreNew}
use Rattle.relay_serve.specs.Workers.{AreUnused, channel_in, receipts_in}

-- one more of those that are left is done
pub moves_on : {A C : Type 0} (f : A → C) (done : List A) (one : A) (next : C) (rest all : List C) → f one ≡ next → map f done ++ next ∷ rest ≡ all → map f (done ++ one ∷ []) ++ rest ≡ all
moves_on f done one next rest all same h =
    ap (λ l. l ++ rest) (map-append f done (one ∷ [])) ∙ ap (λ y. (map f done ++ y ∷ []) ++ rest) same ∙ append_assoc (map f done) (next ∷ []) rest ∙ h

-- producers that were just made, and as many ends from which nothing was taken
pub unused : (queues : List Queue) (epoch p lanes : ℕ) (ps : List ProducerState) (channels : List (Channel Ending)) → length ps ≡ length channels → AreNew queues epoch p ps → AreUnused ps (map (new_take lanes) channels)
unused queues epoch p lanes [] [] count new = tt
unused queues epoch p lanes [] (c ∷ cs) count new = absurd (omega (arith, count))
unused queues epoch p lanes (x ∷ ps) [] count new = absurd (omega (arith, count))
unused queues epoch p lanes (x ∷ ps) (c ∷ cs) count new =
    (ap (λ (s : ProducerState). s.put) new.0, refl, unused queues epoch (p + 1) lanes ps cs (omega (arith, count)) new.1)

pub mapped : {B C D : Type 0} (g : C → D) (given : B → C) (threads : List B) → map (λ h. g (given h)) threads ≡ map g (map given threads)
mapped g given [] = refl
mapped g given (h ∷ hs) = ap (λ l. g (given h) ∷ l) (mapped g given hs)

-- the channels of ends that were paired
pub channels_paired : (ws : List (WindowState Ending)) (ts : List (TakeEnd Ending)) → map receipts_in ws ≡ ts → channels_of ts ≡ map channel_in ws
channels_paired ws ts same = ap channels_of (sym same) ∙ sym (mapped (λ (t : TakeEnd Ending). t.channel) receipts_in ws)

pub receipts_new : (ws : List (WindowState Ending)) (ts : List (TakeEnd Ending)) (lanes k : ℕ) → map receipts_in ws ≡ ts → ts ≡ map (new_take lanes) (channels_of ts) → lanes ≡ k → map receipts_in ws ≡ map (new_take k) (map channel_in ws)
receipts_new ws ts lanes k same new is =
    same ∙ new ∙ ap (λ n. map (new_take n) (channels_of ts)) is ∙ ap (map (new_take k)) (channels_paired ws ts same)

-- no end is left where no producer is
pub none_unused : (ps : List ProducerState) (ts : List (TakeEnd Ending)) → AreUnused ps ts → ps ≡ [] → ts ≡ []
none_unused [] [] h none = refl
none_unused [] (t ∷ ts) h none = absurd h
none_unused (p ∷ ps) ts h none = absurd (let n : length (p ∷ ps) ≡ 0 = ap length none in omega (arith, n))
