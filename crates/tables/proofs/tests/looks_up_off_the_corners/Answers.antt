-- All numbers are small.
use Rattle.std.proofs.Common.{refl}
use Rattle.arithmetic.specs.Numbers.{all_reduced}
use Rattle.tables.proofs.tests.looks_up_off_the_corners.Goals as goal

pub mle_at-requires : goal.mle_at-requires
unfolding all_reduced
mle_at-requires c d = record { length = refl; reduced = tt; point_reduced = tt }
