use Rattle.relay_ndjson.proofs.Fields.{put_index, put_id, put_version, put_version_type, put_other}
use Rattle.relay_ndjson.proofs.metadata.Metadata.set.Goals as goal

pub returns-in-text : goal.returns-in-text
returns-in-text c = put_index c.args.self.now c.args.name.now c.args.leaf c.in-text.is

pub returns-in-text-2 : goal.returns-in-text-2
returns-in-text-2 c = put_id c.args.self.now c.args.name.now c.args.leaf c.in-text-2.is

pub returns-in-version : goal.returns-in-version
returns-in-version c = put_version c.args.self.now c.args.name.now c.args.leaf c.in-version.is

pub returns-in-version_type : goal.returns-in-version_type
returns-in-version_type c = put_version_type c.args.self.now c.args.name.now c.args.leaf c.in-version_type.is

pub returns-in_default : goal.returns-in_default
returns-in_default c =
    let d = c.in_default in
    λ x ms leaf. put_other c.args.self.now c.args.name.now d.not-text d.not-text-2 d.not-version d.not-version_type x ms
