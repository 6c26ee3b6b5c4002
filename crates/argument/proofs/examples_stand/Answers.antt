use Rattle.argument.proofs.examples_stand.Goals as goal
use Rattle.argument.proofs.Examples.{examples}

pub returns : goal.returns
returns c = examples
