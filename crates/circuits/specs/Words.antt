-- Circuits in words, with their limits, and what `run` answers and leaves.
-- Words: copies, inputs, how many layers; for each layer its size, and for each gate 0 (sum) or 1 (product), left, right.
use Rattle.std.specs.Prelude.{ℕ, zero, suc, ◌+◌, ◌*◌, ◌^◌, Bool, true, cond, not, ◌&&◌, List, [], ◌∷◌, length, drop, ◌==◌, nat_le, nat_lt, slice_index}
use Rattle.arithmetic.specs.Numbers.{modulo, all_reduced}
use Rattle.circuits.specs.Circuit.{Kind, sum, product, Gate, Layer, Circuit, lawful, output_size, outputs}

-- the modulus of the programs, 2^31 - 1
abbrev pub modulus : ℕ
modulus = 2147483647

abbrev pub word : List ℕ → ℕ → ℕ
word ws i = slice_index ws i

abbrev pub kind_of : ℕ → Kind
kind_of w = cond (w == 1) product sum

unfoldable pub gates_of : ℕ → List ℕ → List Gate
gates_of zero ws = []
gates_of (suc n) ws =
    record { kind = kind_of (word ws 0); left = word ws 1; right = word ws 2 } ∷ gates_of n (drop 3 ws)

unfoldable pub layers_of : ℕ → List ℕ → List Layer
layers_of zero ws = []
layers_of (suc n) ws =
    record { size = word ws 0; gates = gates_of (2 ^ word ws 0) (drop 1 ws) } ∷ layers_of n (drop (1 + 3 * 2 ^ word ws 0) ws)

abbrev pub circuit_of : List ℕ → Circuit
circuit_of ws = record { copies = word ws 0; inputs = word ws 1; layers = layers_of (word ws 2) (drop 3 ws) }

-- each of n gates has a known kind
unfoldable pub kinds_known : ℕ → List ℕ → Bool
kinds_known zero ws = true
kinds_known (suc n) ws = nat_lt (word ws 0) 2 && kinds_known n (drop 3 ws)

-- the words are just those of n layers, within the limits on sizes
unfoldable pub shaped : ℕ → ℕ → List ℕ → Bool
shaped copies zero ws = length ws == 0
shaped copies (suc n) ws =
    nat_le 1 (length ws) &&
    (nat_le (copies + word ws 0) 16 &&
    (nat_le (1 + 3 * 2 ^ word ws 0) (length ws) &&
    (kinds_known (2 ^ word ws 0) (drop 1 ws) && shaped copies n (drop (1 + 3 * 2 ^ word ws 0) ws))))

-- the words of a lawful circuit within the limits
abbrev pub is_circuit : List ℕ → Bool
is_circuit ws =
    nat_le 3 (length ws) &&
    (nat_le (length ws) (2 ^ 19) &&
    (nat_le (word ws 0 + word ws 1) 16 &&
    (nat_le 1 (word ws 2) && (nat_le (word ws 2) 32 && (shaped (word ws 0) (word ws 2) (drop 3 ws) && lawful (circuit_of ws))))))

-- ---- working out
-- the first of 1, 2, 3 that applies, else 0
abbrev pub run_verdict : List ℕ → List ℕ → ℕ → ℕ
run_verdict cs vs room =
    let c = circuit_of cs in
    cond (not (is_circuit cs)) 1
    (cond (not (length vs == 2 ^ (c.copies + c.inputs) && room == 2 ^ (c.copies + output_size c))) 2
    (cond (not (all_reduced (modulo modulus) vs)) 3 0))

-- what the room then holds: the outputs, or, after a refusal, what it held
abbrev pub run_leaves : List ℕ → List ℕ → List ℕ → List ℕ
run_leaves cs vs room =
    cond (run_verdict cs vs (length room) == 0) (outputs (modulo modulus) (circuit_of cs) vs) room
