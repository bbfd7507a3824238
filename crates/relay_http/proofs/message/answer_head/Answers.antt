use Rattle.std.proofs.Common.{rules}
use Rattle.std.specs.Fmt.{decimal}
use Rattle.relay_http.specs.WrittenAnswer.{reason_of}
use Rattle.relay_http.proofs.Answers.{answer_joined}
use Rattle.relay_http.proofs.message.answer_head.Goals as goal

pub returns : goal.returns
returns c = answer_joined c.extend_from_slice-6.result (decimal c.args.status) (reason_of c.args.status) (decimal c.args.size) c.ending.result.now c.extend_from_slice.new.self.items c.extend_from_slice-2.new.self.items c.push.new.self.items c.extend_from_slice-3.new.self.items c.extend_from_slice-4.new.self.items c.extend_from_slice-5.new.self.items c.extend_from_slice-6.new.self.items c.args.keep (search rules) (search rules) (search rules) (search rules) c.in_ok-extend_from_slice-4.ensures.items (search rules) c.extend_from_slice-6.ensures.items c.ending.ensures
