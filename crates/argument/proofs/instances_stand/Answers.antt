use Rattle.argument.proofs.instances_stand.Goals as goal
use Rattle.argument.proofs.Instances.{instances}

pub returns : goal.returns
returns c = instances
