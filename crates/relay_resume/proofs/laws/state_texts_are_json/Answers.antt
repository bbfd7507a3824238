use Rattle.relay_resume.proofs.Json.{read-state}
use Rattle.relay_resume.proofs.laws.state_texts_are_json.Goals as goal

pub returns : goal.returns
returns c = read-state
