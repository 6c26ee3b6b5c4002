-- The examples compute.
use Rattle.std.proofs.Common.{refl}
use Rattle.circuits.specs.Circuit.{gates_fit, layers_fit, gate_values, copy_values, all_values}
use Rattle.circuits.specs.Words.{gates_of, layers_of, kinds_known, shaped}
use Rattle.circuits.proofs.examples.examples_stand.Goals as goal

pub returns : goal.returns
unfolding gates_fit layers_fit gate_values copy_values all_values gates_of layers_of kinds_known shaped
returns c = record { circuit = refl; outputs = refl; refused = λ inputs room. refl }
