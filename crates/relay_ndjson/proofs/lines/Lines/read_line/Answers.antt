use Rattle.std.proofs.Common.{None, ◌∙◌, ap}
use Rattle.std.proofs.lemmas.Result.{err_from_is_err_and}
use Rattle.std.specs.Io.KnownBytes.{prepend_known}
use Rattle.relay_ndjson.proofs.Pieces.{bytes_ended, line_ended, line_refused, line_goes_on}
use Rattle.relay_ndjson.proofs.lines.Lines.read_line.Goals as goal

pub pieces-preserved : goal.pieces-preserved
pieces-preserved g c =
    let begun = c.pieces.self.text.items in
    let taken = c.pieces.invariant.taken ∙ ap (prepend_known begun) c.refill.ensures.left in
    let part = rw c.in-More.is at c.in_ok-take_part.ensures.part in
    record {
      taken = line_goes_on begun c.refill.new.self c.take_part.new.self.text.items c.take_part.new.self.piece _ _ taken part;
      unbroken = part.0;
      start = part.1;
      failed = c.in_ok-refill.ensures.failed ∙ c.pieces.invariant.failed;
      count = c.take_part.ensures.count ∙ c.pieces.invariant.count;
      used = c.take_part.ensures.used ∙ c.pieces.invariant.used;
    }

pub returns-in_err-take_part-clause-line : goal.returns-in_err-take_part-clause-line
returns-in_err-take_part-clause-line g c =
    let p = err_from_is_err_and c.from_residual-in_err-take_part.result c.from_residual-in_err-take_part.ensures.1 in
    let begun = c.pieces.self.text.items in
    let taken = c.pieces.invariant.taken ∙ ap (prepend_known begun) c.refill.ensures.left in
    rw (p.1, p.2) (line_refused begun c.refill.new.self c.take_part.new.self.text.items c.take_part.new.self.piece _ None _ c.in_err-take_part.field-0.0 taken c.in_err-take_part.ensures.part)

pub returns-in-End-clause-line : goal.returns-in-End-clause-line
returns-in-End-clause-line g c =
    let begun = c.pieces.self.text.items in
    let taken = c.pieces.invariant.taken ∙ ap (prepend_known begun) c.refill.ensures.left in
    let part = rw c.in-End.is at c.in_ok-take_part.ensures.part in
    line_ended begun c.refill.new.self c.take_part.new.self.text.items c.take_part.new.self.piece _ _ taken part

pub returns-in-End-clause-bytes : goal.returns-in-End-clause-bytes
returns-in-End-clause-bytes g c =
    let begun = c.pieces.self.text.items in
    let taken = c.pieces.invariant.taken ∙ ap (prepend_known begun) c.refill.ensures.left in
    let part = rw c.in-End.is at c.in_ok-take_part.ensures.bytes in
    bytes_ended begun c.refill.new.self c.take_part.new.self.text.items c.take_part.new.self.piece c.take_part.new.self.end _ _ taken part
