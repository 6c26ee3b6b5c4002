-- Parts of a circuit's words: the layers from one of them down, and the gates of one layer.
-- These hold of each part of a lawful circuit; the views carry them along.
use Rattle.std.specs.Prelude.{ℕ, ◌+◌, ◌*◌, ◌^◌, Bool, ◌&&◌, List, length, drop, ◌==◌, nat_le}
use Rattle.circuits.specs.Circuit.{Gate, gates_fit, layers_fit}
use Rattle.circuits.specs.Words.{word, kind_of, gates_of, layers_of, kinds_known, shaped}

-- the words of just n layers of a circuit, down to its inputs
unfoldable pub are_layers : ℕ → ℕ → ℕ → List ℕ → Bool
are_layers copies inputs n ws = nat_le (copies + inputs) 16 && (shaped copies n ws && layers_fit (layers_of n ws) inputs)

-- the words of the gates of one layer of a given size, over one of the size below
unfoldable pub is_layer : ℕ → ℕ → List ℕ → Bool
is_layer size below ws =
    nat_le size 16 && (nat_le below 16 && (length ws == 3 * 2 ^ size && gates_fit (2 ^ below) (gates_of (2 ^ size) ws)))

-- how many words the layer takes that these words start with
abbrev pub layer_length : List ℕ → ℕ
layer_length ws = 1 + 3 * 2 ^ word ws 0

-- the words start with those of a layer within the limits, its gates' kinds known
unfoldable pub starts_layer : ℕ → List ℕ → Bool
starts_layer copies ws =
    nat_le 1 (length ws) &&
    (nat_le (copies + word ws 0) 16 && (nat_le (layer_length ws) (length ws) && kinds_known (2 ^ word ws 0) (drop 1 ws)))

-- the gate at a place among the words of gates
abbrev pub gate_at : List ℕ → ℕ → Gate
gate_at ws i = record { kind = kind_of (word ws (3 * i)); left = word ws (3 * i + 1); right = word ws (3 * i + 2) }
