-- Zeros are reduced.
use Rattle.std.proofs.Common.{refl}
use Rattle.arithmetic.specs.Numbers.{all_reduced}
use Rattle.claims.proofs.drawn.Drawn.new.Goals as goal

pub invariant_of-result-clause-reduced : goal.invariant_of-result-clause-reduced
unfolding all_reduced
invariant_of-result-clause-reduced c = refl
