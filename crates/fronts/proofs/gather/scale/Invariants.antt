-- The numbers that were passed are scaled.
use Rattle.fronts.proofs.Gathering.{Scaled}
use Rattle.fronts.proofs.gather.scale.Given as goal

abbrev pub invariant-loop-x : goal.invariant-loop-x
invariant-loop-x g l = Scaled g.M.Modular.modulus l.factor l.initial.table l.x-index l.table
