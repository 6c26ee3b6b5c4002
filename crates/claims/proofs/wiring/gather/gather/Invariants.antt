-- What is gathered so far and the gates that are still to come are the whole wiring.
use Rattle.std.proofs.Common.{length}
use Rattle.circuits.specs.Views.{gates_seen}
use Rattle.claims.proofs.Gathering.{Gathering}
use Rattle.claims.proofs.wiring.gather.gather.Given as goal

abbrev pub invariant-loop-gate : goal.invariant-loop-gate
invariant-loop-gate g l = Gathering g.M.Modular.modulus l.weights l.at_x l.at_y (gates_seen l.layer) (length l.yielded) l.gathered
