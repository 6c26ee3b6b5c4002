-- Whatever the other coordinates are, the live part leads to the value that the whole led to.
use Rattle.claims.proofs.Summing.{Fixing}
use Rattle.claims.proofs.sums.fix_variables.Given as goal

abbrev pub invariant-loop-r : goal.invariant-loop-r
invariant-loop-r g l = Fixing g.M.Modular.modulus l.initial.table l.point l.table l.r-index l.len
