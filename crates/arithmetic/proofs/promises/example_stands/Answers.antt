-- The example is worked out in `proofs/Theorems.antt`.
use Rattle.arithmetic.proofs.Theorems.{example_modulo_31}
use Rattle.arithmetic.proofs.promises.example_stands.Goals as goal

pub returns : goal.returns
returns c = example_modulo_31
