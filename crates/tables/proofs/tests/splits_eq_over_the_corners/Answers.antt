-- All numbers are small, and there is room for four.
use Rattle.std.proofs.Common.{refl, lit≤}
use Rattle.arithmetic.specs.Numbers.{all_reduced}
use Rattle.tables.proofs.tests.splits_eq_over_the_corners.Goals as goal

pub eq_table-requires : goal.eq_table-requires
unfolding all_reduced
eq_table-requires c d = record { room = lit≤ tt; point_reduced = tt }

pub eq_at-requires : goal.eq_at-requires
unfolding all_reduced
eq_at-requires c d = record { length = refl; a_reduced = tt; b_reduced = tt }
