use Rattle.std.proofs.Common.{rules, subst, sym}
use Rattle.std.specs.Prelude.{option_map, string_bytes}
use Rattle.relay_run.specs.Readers.{IsFedFrom}
use Rattle.relay_run.specs.Settling.{Tellings}
use Rattle.relay_run.proofs.producing.run_producer.Goals as goal

pub returns : goal.returns
returns g c =
    let fed = c.feed_given-fault.ensures.fed in
    let P : Tellings → Type 0 = λ now. IsFedFrom g.S.ByteStream.left g.S.ByteStream.failed (option_map string_bytes c.args.index) c.args.reader fed.0 c.args.producer c.feed_given-fault.new.producer c.args.telling now c.feed_given-fault.result in record {
      fed = record {
        ops = fed.0;
        after = c.feed_given-fault.new.producer;
        fed = subst P (sym c.flush.ensures) (search rules);
        closes = search rules;
        same = search rules;
        identity = search rules;
      };
    }
