-- The first i places have the sums, the others are as they were, and all are reduced.
use Rattle.claims.proofs.Adding.{Added}
use Rattle.claims.proofs.wiring.weights.add_tables.Given as goal

abbrev pub invariant-loop-i : goal.invariant-loop-i
invariant-loop-i g l = Added g.M.Modular.modulus l.initial.table l.other l.i l.table
