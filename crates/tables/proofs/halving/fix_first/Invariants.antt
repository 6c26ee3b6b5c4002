-- The first i places are fixed, and the others are as they were.
use Rattle.std.proofs.Common.{◌≡◌}
use Rattle.arithmetic.specs.Numbers.{modulo}
use Rattle.tables.proofs.HalvingSteps.{partly_fixed}
use Rattle.tables.proofs.halving.fix_first.Given as goal

abbrev pub invariant-loop-i : goal.invariant-loop-i
invariant-loop-i g l =
    l.table ≡ partly_fixed (modulo g.M.Modular.modulus) l.r l.half l.i l.initial.table
