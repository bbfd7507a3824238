use Rattle.relay_producer.proofs.Reading.{put_is_one}
use Rattle.relay_producer.proofs.law.law_of_puts.Goals as goal

pub returns : goal.returns
returns c = put_is_one
