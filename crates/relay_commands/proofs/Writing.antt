-- What was written of a text, in parts.
use Rattle.std.proofs.Common.{◌≡◌, ℕ, ◌+◌, ◌<◌, ◌≤◌, min, List, [], ◌++◌, length, take, Option, None, Some, refl, ap, ◌∙◌, sym, arith, append_assoc, append-nil, length-append}
use Rattle.std.proofs.Math.Seq.{take-append-add}
use Rattle.std.specs.Io.KnownBytes.{append_known}
use Rattle.relay_action.specs.Streams.{most}
use Rattle.relay_action.proofs.Shown.{append_known-append}
use Rattle.relay_commands.specs.Sending.{WritesAllBut, Moves, MovesPart}

append_known-nothing : (shown : Option (List ℕ)) → append_known shown [] ≡ shown
append_known-nothing None = refl
append_known-nothing (Some bytes) = ap Some (append-nil bytes)

-- nothing was written
pub moves_none : (text : List ℕ) (sent : ℕ) (before : Option (List ℕ)) → sent ≤ most → Moves text sent before text sent before
moves_none text sent before h = record {
  part = [];
  whole = refl;
  writes = sym (append_known-nothing before);
  count_is = omega arith;
}

pub writes_nothing : (before : Option (List ℕ)) → WritesAllBut before before [] [] 0
writes_nothing before = record { front = []; whole = refl; writes = sym (append_known-nothing before); count = omega arith }

pub writes_after_move : (before now after : Option (List ℕ)) (all text rest : List ℕ) (sent count : ℕ) → WritesAllBut before now all text sent → Moves text sent now rest count after → WritesAllBut before after all rest count
writes_after_move before now after all text rest sent count w m = record {
  front = w.front ++ m.part;
  whole = w.whole ∙ (ap (λ t. w.front ++ t) m.whole ∙ sym (append_assoc w.front m.part rest));
  writes = m.writes ∙ (ap (λ s. append_known s m.part) w.writes ∙ append_known-append before w.front m.part);
  count = let n = length-append w.front m.part in let a = w.count in let b = m.count_is in omega (arith, n, a, b);
}

pub writes_more : (before now : Option (List ℕ)) (all text text' more all' : List ℕ) (sent : ℕ) → WritesAllBut before now all text sent → text' ≡ text ++ more → all' ≡ all ++ more → WritesAllBut before now all' text' sent
writes_more before now all text text' more all' sent w e f = record {
  front = w.front;
  whole = f ∙ (ap (λ t. t ++ more) w.whole ∙ (append_assoc w.front text more ∙ ap (λ t. w.front ++ t) (sym e)));
  writes = w.writes;
  count = w.count;
}

-- all of it was written
pub writes_all : (before now after : Option (List ℕ)) (all text : List ℕ) (sent : ℕ) → WritesAllBut before now all text sent → after ≡ append_known now text → after ≡ append_known before all
writes_all before now after all text sent w e =
    e ∙ (ap (λ s. append_known s text) w.writes ∙ (append_known-append before w.front text ∙ ap (append_known before) (sym w.whole)))

-- a part of it was
pub record WritesPart (before after : Option (List ℕ)) (all : List ℕ) (count : ℕ) : Type 0 where
  pub cut : ℕ
  pub less : cut < length all
  pub count_is : count ≡ min cut most
  pub writes : after ≡ append_known before (take cut all)

pub writes_part : (before now after : Option (List ℕ)) (all text : List ℕ) (sent count : ℕ) → WritesAllBut before now all text sent → MovesPart text sent now after count → WritesPart before after all count
writes_part before now after all text sent count w m =
    let n : length all ≡ length w.front + length text = ap length w.whole ∙ length-append w.front text in
    let less = m.less in
    let a = w.count in
    let b = m.count_is in
    record {
      cut = length w.front + m.cut;
      less = omega (arith, n, less);
      count_is = omega (arith, a, b);
      writes =
          m.writes
          ∙ (ap (λ s. append_known s (take m.cut text)) w.writes
          ∙ (append_known-append before w.front (take m.cut text)
          ∙ (ap (append_known before) (sym (take-append-add w.front text m.cut)) ∙ ap (λ t. append_known before (take (length w.front + m.cut) t)) (sym w.whole))));
    }
