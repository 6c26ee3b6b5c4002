-- The live part of the table leads to the value and to the words that the whole had led to.
use Rattle.tables.proofs.HalvingSteps.{Halving}
use Rattle.tables.proofs.halving.mle_at.Given as goal

abbrev pub invariant-loop-r : goal.invariant-loop-r
invariant-loop-r g l = Halving g.M.Modular.modulus l.initial.table l.point l.table l.r-index l.len
