-- The theorem is proved among the lemmas.
use Rattle.verdicts.proofs.Stopping.{stops_first}
use Rattle.verdicts.proofs.theorems.stops_first.Goals as goal

pub returns : goal.returns
returns c = stops_first
