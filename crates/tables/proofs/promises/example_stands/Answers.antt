-- The example is worked out in `proofs/Theorems.antt`.
use Rattle.tables.proofs.Theorems.{example_modulo31}
use Rattle.tables.proofs.promises.example_stands.Goals as goal

pub returns : goal.returns
returns c = example_modulo31
