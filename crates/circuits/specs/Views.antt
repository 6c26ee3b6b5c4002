-- What the code's types stand for: its kinds and gates, and the parts of a circuit that a view shows.
-- The contracts of the views are stated by these.
use Rattle.std.specs.Prelude.{ℕ, ◌/◌, ◌^◌, List, [], length}
use Rattle.circuits.specs.Circuit.{sum, product}
use Rattle.circuits.specs.Circuit as circuit
use Rattle.circuits.specs.Words.{circuit_of, gates_of, layers_of}
use Rattle.circuits.specs.declared.gate.Gate.{Gate}
use Rattle.circuits.specs.declared.gate.Kind.{Kind}
use Rattle.circuits.specs.declared.gate.Kind.TheVariants.{Sum, Product}
use Rattle.circuits.specs.declared.view.CircuitView.{CircuitView}
use Rattle.circuits.specs.declared.view.LayersView.{LayersView}
use Rattle.circuits.specs.declared.view.LayerView.{LayerView}
use Rattle.circuits.specs.declared.view.Gates.{Gates}

abbrev pub kind_meant : Kind → circuit.Kind
kind_meant Sum = sum
kind_meant Product = product

abbrev pub gate_meant : Gate → circuit.Gate
gate_meant g = record { kind = kind_meant g.kind; left = g.left; right = g.right }

-- what is read where no gate stands
abbrev pub no_gate : circuit.Gate
no_gate = record { kind = sum; left = 0; right = 0 }

-- what is read where no layer stands
abbrev pub no_layer : circuit.Layer
no_layer = record { size = 0; gates = [] }

-- ---- a circuit
abbrev pub words_seen : CircuitView → List ℕ
words_seen v = v.words.now

abbrev pub circuit_seen : CircuitView → circuit.Circuit
circuit_seen v = circuit_of (words_seen v)

-- ---- layers from one of them down
abbrev pub layers_seen : LayersView → List circuit.Layer
layers_seen v = layers_of v.count v.words.now

-- the bits of the copies, and of the inputs, of the circuit that they are of
abbrev pub copies_above : LayersView → ℕ
copies_above v = v.copies

abbrev pub inputs_below : LayersView → ℕ
inputs_below v = v.inputs

-- ---- one layer
abbrev pub size_seen : LayerView → ℕ
size_seen v = v.size

-- the size of what lies below it
abbrev pub places_below : LayerView → ℕ
places_below v = v.below

abbrev pub gates_seen : LayerView → List circuit.Gate
gates_seen v = gates_of (2 ^ v.size) v.words.now

-- those that an iterator over them has left
abbrev pub gates_left : Gates → List circuit.Gate
gates_left v = gates_of (length v.words.now / 3) v.words.now

abbrev pub layer_seen : LayerView → circuit.Layer
layer_seen v = record { size = size_seen v; gates = gates_seen v }
