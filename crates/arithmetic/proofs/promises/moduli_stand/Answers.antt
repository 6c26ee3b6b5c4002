-- No number up to the square root divides any of them, which is tried in `proofs/WholeMersenne.antt`.
use Rattle.arithmetic.proofs.WholeMersenne.{whole31, whole_examples}
use Rattle.arithmetic.proofs.promises.moduli_stand.Goals as goal

pub returns : goal.returns
returns c = record { program = whole31; examples = whole_examples }
