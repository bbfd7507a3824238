-- The sending rule: what is gathered from the candidates, and when it is sent.
use Rattle.std.specs.Prelude.{ℕ, List, [], ◌∷◌, ◌++◌, Option, Some, None, Bool, true, false, ◌&&◌, ◌||◌, nat_lt, nat_le, length}
use Rattle.relay_batch.specs.declared.item.Limits.{Limits}
use Rattle.relay_batch.specs.declared.item.BatchItem.{BatchItem}
use Rattle.relay_batch.specs.declared.offer.Offer.{Offer}
use Rattle.relay_batch.specs.declared.offer.Offer.TheVariants.{Busy, Closed, Added}
use Rattle.relay_batch.specs.Gathering.{Gathering, answer_to, is_ready}
use Rattle.relay_results.specs.Documents.{name_of}
use Rattle.relay_delivery.specs.Lane.{Entry}

-- one of three values, by the answer to an offer
abbrev pub by_answer : {A : Type 0} → Offer → A → A → A → A
by_answer Busy busy closed added = busy
by_answer Closed busy closed added = closed
by_answer Added busy closed added = added

abbrev pub with_item : BatchItem → Gathering → Gathering
with_item i g = record g { items = g.items ++ i ∷ [] }

-- the items are offered one after another until one is Closed or none is left
abbrev pub gathering_after : List BatchItem → Gathering → Gathering
gathering_after [] g = g
gathering_after (i ∷ is) g = by_answer (answer_to i g) (gathering_after is g) g (gathering_after is (with_item i g))

-- an offer was Closed
abbrev pub closes : List BatchItem → Gathering → Bool
closes [] g = false
closes (i ∷ is) g = by_answer (answer_to i g) (closes is g) true (closes is (with_item i g))

-- its version serves as the number of the document, since nothing older is held of that document
abbrev pub item_of : Entry → BatchItem
item_of e = record { name = name_of e.held.op; doc = e.held.version; version = e.held.version; bytes = e.bytes; cap = e.held.cap; taken_at = e.taken_at }

-- the entries that were added
abbrev pub chosen_entries : List Entry → Gathering → List Entry
chosen_entries [] g = []
chosen_entries (e ∷ es) g = by_answer (answer_to (item_of e) g) (chosen_entries es g) [] (e ∷ chosen_entries es (with_item (item_of e) g))

abbrev pub is_marked : ℕ → List BatchItem → Bool
is_marked mark [] = false
is_marked mark (i ∷ is) = nat_le i.version mark

-- what is gathered is sent if it is not empty and it is ready, an offer was Closed, it was flushed, or the lane is
-- closed
abbrev pub goes : ℕ → ℕ → Bool → Gathering → Bool → Bool
goes clock mark all_closed g closed = nat_lt 0 (length g.items) && (is_ready clock g || (closed || (is_marked mark g.items || all_closed)))

abbrev pub batch_if : Bool → List BatchItem → Option (List BatchItem)
batch_if true is = Some is
batch_if false is = None

abbrev pub batch_of : ℕ → ℕ → Bool → Limits → List BatchItem → Option (List BatchItem)
batch_of clock mark all_closed limits is =
    batch_if (goes clock mark all_closed (gathering_after is (record { limits = limits; items = [] })) (closes is (record { limits = limits; items = [] })))
    (gathering_after is (record { limits = limits; items = [] })).items
