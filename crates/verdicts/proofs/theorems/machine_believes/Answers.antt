-- The theorem is proved among the lemmas.
use Rattle.verdicts.proofs.Bridge.{machine_believes}
use Rattle.verdicts.proofs.theorems.machine_believes.Goals as goal

pub returns : goal.returns
returns c = machine_believes
