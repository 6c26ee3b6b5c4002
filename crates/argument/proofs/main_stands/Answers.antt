use Rattle.argument.proofs.main_stands.Goals as goal
use Rattle.argument.proofs.Main.{main}

pub returns : goal.returns
returns c = main
