-- The front holds the values of the copies so far.
use Rattle.std.proofs.Common.{◌≡◌, ◌*◌, [], ◌∷◌, take}
use Rattle.arithmetic.specs.Numbers.{modulo}
use Rattle.circuits.specs.Circuit.{all_values}
use Rattle.circuits.specs.Views.{layer_seen}
use Rattle.evaluation.proofs.values.layer_values.Given as goal

abbrev pub invariant-loop-copy : goal.invariant-loop-copy
invariant-loop-copy g l =
    take (l.copy * l.gates) l.values
    ≡ all_values (modulo g.M.Modular.modulus) (layer_seen l.layer ∷ []) l.places l.copy l.below
