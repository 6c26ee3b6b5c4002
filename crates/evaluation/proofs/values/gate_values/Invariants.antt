-- The places up to this one hold the values of their gates.
use Rattle.std.proofs.Common.{◌≡◌, take}
use Rattle.arithmetic.specs.Numbers.{modulo}
use Rattle.circuits.specs.Circuit.{gate_values}
use Rattle.circuits.specs.Views.{gates_seen}
use Rattle.evaluation.proofs.values.gate_values.Given as goal

abbrev pub invariant-loop-i : goal.invariant-loop-i
invariant-loop-i g l =
    take l.i l.values ≡ take l.i (gate_values (modulo g.M.Modular.modulus) l.below (gates_seen l.layer))
