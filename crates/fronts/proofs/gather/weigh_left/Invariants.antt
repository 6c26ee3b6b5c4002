-- The weights of the gates that were passed are taken at x.
use Rattle.circuits.specs.Views.{gates_seen}
use Rattle.fronts.proofs.Gathering.{Weighed}
use Rattle.fronts.proofs.gather.weigh_left.Given as goal

abbrev pub invariant-loop-i : goal.invariant-loop-i
invariant-loop-i g l = Weighed g.M.Modular.modulus (gates_seen l.layer) l.initial.weights l.eq_at_x l.i l.weights
