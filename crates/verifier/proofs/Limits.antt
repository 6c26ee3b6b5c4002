-- How large a layer's parts can be, from the limits on a circuit's words.
-- Copies and any size together take at most 16 bits, so a layer's sum has at most 32 variables.
use Rattle.std.proofs.Common.{◌≡◌, ℕ, zero, suc, ◌+◌, ◌-◌, ◌^◌, ◌≤◌, true, leb, List, length, drop, subst, arith}
use Rattle.std.proofs.lemmas.Bool.{and_parts, leb-true}
use Rattle.circuits.specs.Circuit.{size_below}
use Rattle.circuits.specs.Parts.{are_layers, layer_length}
use Rattle.circuits.specs.Words.{layers_of, shaped, word, circuit_of, is_circuit}
use Rattle.circuits.proofs.Parts.{layers_parts}
use Rattle.circuits.proofs.Steps.{shaped_starts, length-layers_of}
use Rattle.verdicts.specs.Machine.{variables}

top_limit : (copies inputs n : ℕ) (ws : List ℕ) → copies + inputs ≤ 16 → shaped copies n ws ≡ true → copies + size_below (layers_of n ws) inputs ≤ 16
unfolding layers_of
top_limit copies inputs zero ws h e = h
top_limit copies inputs (suc n) ws h e = (shaped_starts copies (suc n) ws (omega arith) e).limit

pub variables_limit : (copies inputs n : ℕ) (ws : List ℕ) → are_layers copies inputs n ws ≡ true → variables copies inputs (layers_of n ws) ≤ 32
unfolding layers_of
variables_limit copies inputs zero ws e = omega arith
variables_limit copies inputs (suc n) ws e =
    let parts = layers_parts copies inputs (suc n) ws e in
    let others : shaped copies (suc n - 1) (drop (layer_length ws) ws) ≡ true = (shaped_starts copies (suc n) ws (omega arith) parts.form).rest in
    let here : suc n - 1 ≡ n = omega arith in
    let rest : shaped copies n (drop (layer_length ws) ws) ≡ true = subst (λ (m : ℕ). shaped copies m (drop (layer_length ws) ws) ≡ true) here others in
    omega (arith, top_limit copies inputs n (drop (layer_length ws) ws) parts.limit rest)

-- a circuit has at most 32 layers
pub layers_limit : (ws : List ℕ) → is_circuit ws ≡ true → length (circuit_of ws).layers ≤ 32
layers_limit ws e =
    let a = (and_parts (leb 3 (length ws)) _ e).1 in
    let b = (and_parts (leb (length ws) (2 ^ 19)) _ a).1 in
    let c = (and_parts (leb (word ws 0 + word ws 1) 16) _ b).1 in
    let d = (and_parts (leb 1 (word ws 2)) _ c).1 in
    let f = (and_parts (leb (word ws 2) 32) _ d).0 in
    omega (arith, leb-true (word ws 2) 32 f, length-layers_of (word ws 2) (drop 3 ws))
