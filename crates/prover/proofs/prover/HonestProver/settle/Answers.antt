-- Nothing but the factor and the value at x may change.
use Rattle.prover.proofs.ProverHears.{alike_settled, coins_settled, layer_settled}
use Rattle.prover.proofs.prover.HonestProver.settle.Goals as goal

pub returns-clause-alike : goal.returns-clause-alike
returns-clause-alike c = alike_settled _ _ _ c.settle_left.ensures.same c.settle_right.ensures.same

pub returns-clause-coins : goal.returns-clause-coins
returns-clause-coins c = coins_settled _ _ _ c.settle_left.ensures.same c.settle_right.ensures.same

pub returns-clause-layer : goal.returns-clause-layer
returns-clause-layer c = layer_settled _ _ _ c.settle_left.ensures.same c.settle_right.ensures.same
