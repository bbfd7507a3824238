-- What of one input is settled: the operations that were put, in order, which numbers were settled, and the mark.
use Rattle.std.specs.Prelude.{◌≡◌, ℕ, zero, suc, ◌+◌, ◌<◌, Bool, false, IsTrue, IsFalse, List, [], ◌∷◌, ◌++◌, length}
use Rattle.relay_action.specs.Streams.{one_more}
use Rattle.relay_results.specs.Words.{Mem}
use Rattle.relay_resume.specs.declared.mark.Mark.{Mark}
use Rattle.relay_resume.specs.declared.mark.Place.{Place}

-- Where an input is read from; where the lines of each operation end that was put since then, in order: they are
-- numbered from 1; and the numbers that were settled, each before or after its operation was put.
pub record History : Type 0 where
  pub start : Mark
  pub puts : List Place
  pub settled : List ℕ

-- nothing was put or settled yet
abbrev pub begun : Mark → History
begun start = record { start = start; puts = []; settled = [] }

-- one more operation was put
abbrev pub and_put : Place → History → History
and_put end h = record h { puts = h.puts ++ end ∷ [] }

-- the operation with this number is settled, or will be as soon as it is put
abbrev pub and_settled : ℕ → History → History
and_settled n h = record h { settled = h.settled ++ n ∷ [] }

-- ---- the mark

-- the first operations, so many, are settled
abbrev pub AreSettled : ℕ → List ℕ → Type 0
AreSettled count settled = (n : ℕ) → n < count → Mem (n + 1) settled

-- there is no operation here, or the one here, which has this number, is not settled
abbrev pub StopsAt : List Place → ℕ → List ℕ → Type 0
StopsAt [] n settled = Unit {0}
StopsAt (p ∷ ps) n settled = Mem n settled → ⊥

-- the place after an operation
abbrev pub after_one : Mark → Place → Mark
after_one m end = record { offset = end.offset; line = end.line; count = one_more m.count }

-- the place after all of these operations
abbrev pub after : Mark → List Place → Mark
after m [] = m
after m (p ∷ ps) = after (after_one m p) ps

-- The mark is the place after the longest run of settled operations from the start on: all of them are settled, and the
-- operation after them, if there is one, is not.
pub record IsMarkOf (h : History) (m : Mark) : Type 0 where
  pub done : List Place
  pub rest : List Place
  pub puts : h.puts ≡ done ++ rest
  pub settled : AreSettled (length done) h.settled
  pub stops : StopsAt rest (length done + 1) h.settled
  pub mark : m ≡ after h.start done

-- a history has one mark
abbrev pub MarksAreOne : Type 0
MarksAreOne = (h : History) (m n : Mark) → IsMarkOf h m → IsMarkOf h n → m ≡ n

-- ---- what a trail keeps of this

-- the mark; how many operations are before it; where those after it end; and whether each number after it is settled,
-- up to the last one that is
pub record Trailing : Type 0 where
  pub mark : Mark
  pub passed : ℕ
  pub ends : List Place
  pub noted : List Bool

-- whether the number at a place, from 0, is noted as settled
abbrev pub noted_at : ℕ → List Bool → Bool
noted_at place [] = false
noted_at zero (b ∷ bs) = b
noted_at (suc place) (b ∷ bs) = noted_at place bs

-- there is no operation after the mark, or the first one is not settled
abbrev pub StartsOpen : List Place → List Bool → Type 0
StartsOpen [] noted = Unit {0}
StartsOpen (p ∷ ps) noted = IsFalse (noted_at 0 noted)

-- the operations before the mark of a trail are settled, and it keeps the others, and which of the later numbers are
pub record Follows (h : History) (t : Trailing) : Type 0 where
  pub done : List Place
  pub puts : h.puts ≡ done ++ t.ends
  pub passed : t.passed ≡ length done
  pub settled : AreSettled (length done) h.settled
  pub noted : (place : ℕ) → IsTrue (noted_at place t.noted) → Mem (t.passed + place + 1) h.settled
  pub all : (place : ℕ) → Mem (t.passed + place + 1) h.settled → IsTrue (noted_at place t.noted)
  pub mark : t.mark ≡ after h.start done

-- a trail is that of this history: it follows it, and the first operation that it keeps is not settled
pub record IsOf (h : History) (t : Trailing) : Type 0 where
  pub follows : Follows h t
  pub stops : StartsOpen t.ends t.noted
