use Rattle.relay_resume.proofs.Marked.{readers_know_places}
use Rattle.relay_resume.proofs.laws.readers_know_places.Goals as goal

pub returns : goal.returns
returns c = readers_know_places
