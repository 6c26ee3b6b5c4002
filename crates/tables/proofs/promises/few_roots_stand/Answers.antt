-- The theorem is proved in `proofs/Theorems.antt`.
use Rattle.tables.proofs.Theorems.{few_roots}
use Rattle.tables.proofs.promises.few_roots_stand.Goals as goal

pub returns : goal.returns
returns c = few_roots
