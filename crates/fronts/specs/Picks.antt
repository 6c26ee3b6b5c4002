-- What a choice picks of a gate: its place in the tables, and the value at its other place.
-- Two choices are used: the left place with the value at the right one, and the right place with one value for all.
use Rattle.std.specs.Prelude.{◌≡◌, ℕ, ◌<◌}
use Rattle.circuits.specs.Circuit as circuit
use Rattle.circuits.specs.Views.{gate_meant}
use Rattle.circuits.specs.declared.gate.Gate.{Gate}

-- both of a gate's places are below n
abbrev pub Within : ℕ → Gate → Type 0
Within n gate = (gate.left < n) × (gate.right < n)

-- at each gate with places below n, a call of the choice gives its place and its other value
abbrev pub Picks : ℕ → (Gate → ℕ × ℕ → Type 0) → (circuit.Gate → ℕ) → (circuit.Gate → ℕ) → Type 0
Picks n calls place other =
    (gate : Gate) (r : ℕ × ℕ) → Within n gate → calls gate r → (r.0 ≡ place (gate_meant gate)) × (r.1 ≡ other (gate_meant gate))
