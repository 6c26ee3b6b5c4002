-- The theorem is proved among the lemmas.
use Rattle.verdicts.proofs.Worked.{examples}
use Rattle.verdicts.proofs.theorems.examples_stand.Goals as goal

pub returns : goal.returns
returns c = examples
