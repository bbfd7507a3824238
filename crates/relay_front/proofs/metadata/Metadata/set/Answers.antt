use Rattle.relay_front.proofs.Given.{put_index, put_id, put_type, put_other}
use Rattle.relay_front.proofs.metadata.Metadata.set.Goals as goal

pub returns-in-text : goal.returns-in-text
returns-in-text c = put_index c.args.self.now c.args.name.now c.args.leaf c.in-text.is

pub returns-in-text-2 : goal.returns-in-text-2
returns-in-text-2 c = put_id c.args.self.now c.args.name.now c.args.leaf c.in-text-2.is

pub returns-in-text-3 : goal.returns-in-text-3
returns-in-text-3 c d ms at h = put_type c.args.self.now c.args.name.now c.in-text-3.is d ms h

pub returns-in_default : goal.returns-in_default
returns-in_default c d ms at h =
    put_other c.args.self.now c.first_other-self.result c.args.name.now c.in_default.not-text c.in_default.not-text-2 c.in_default.not-text-3 d ms (c.first_other-self.ensures d ms at) h
