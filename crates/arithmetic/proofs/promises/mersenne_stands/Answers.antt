-- No number up to 2^16 divides it, which is tried in `proofs/WholeMersenne.antt`.
use Rattle.arithmetic.proofs.WholeMersenne.{whole31}
use Rattle.arithmetic.proofs.promises.mersenne_stands.Goals as goal

pub returns : goal.returns
returns c = whole31
