-- What is known of words of which nothing is refused.
-- Whoever knows it of words needs no check of them.
use Rattle.std.specs.Prelude.{◌≡◌, ◌+◌, ◌^◌, ℕ, true, List, length}
use Rattle.arithmetic.specs.Numbers.{modulo, all_reduced}
use Rattle.circuits.specs.Circuit.{output_size}
use Rattle.circuits.specs.Words.{modulus, circuit_of, is_circuit}

-- of what `house` is given: circuit and inputs
pub record IsGiven (cs vs : List ℕ) : Type 0 where
  pub circuit : is_circuit cs ≡ true
  pub inputs : length vs ≡ 2 ^ ((circuit_of cs).copies + (circuit_of cs).inputs)
  pub inputs_reduced : all_reduced (modulo modulus) vs ≡ true

-- of what `judge` holds: circuit, inputs and claimed outputs
pub record IsHeld (cs vs claimed : List ℕ) : Type 0 where
  pub given : IsGiven cs vs
  pub claimed_whole : length claimed ≡ 2 ^ ((circuit_of cs).copies + output_size (circuit_of cs))
  pub claimed_reduced : all_reduced (modulo modulus) claimed ≡ true
