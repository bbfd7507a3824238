use Rattle.std.proofs.Common.{length}
use Rattle.std.specs.Fmt.{decimal}
use Rattle.relay_http.specs.WrittenAnswer.{answer_text, reason_of}
use Rattle.relay_http.proofs.Answers.{answer_ended}
use Rattle.relay_http.proofs.message.gather_answer.Goals as goal

pub returns : goal.returns
returns c = answer_ended c.extend_from_slice.result (answer_text (decimal c.args.status) (reason_of c.args.status) (decimal (length c.args.body.now)) c.args.keep) c.answer_head.new.text.items c.args.body.now c.as_bytes.result.now c.extend_from_slice.new.self.items c.in_ok-answer_head.ensures c.as_bytes.ensures.value c.extend_from_slice.ensures.items
