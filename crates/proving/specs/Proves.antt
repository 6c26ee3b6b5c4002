-- What the call that proves asks of its words, and what it leaves in the room.
-- A refusal leaves all as it was.
use Rattle.std.specs.Prelude.{◌≡◌, ℕ, ◌+◌, ◌^◌, true, T, List, length}
use Rattle.arithmetic.specs.Numbers.{modulo, all_reduced}
use Rattle.argument.specs.Argument.{coins_of}
use Rattle.argument.specs.Honest.{honest}
use Rattle.argument.specs.Transcript.{answer_words, spoken}
use Rattle.circuits.specs.Words.{modulus, circuit_of, is_circuit}

pub record Ready (cs vs coins : List ℕ) (room work : ℕ) : Type 0 where
  pub circuit : is_circuit cs ≡ true
  pub inputs_many : length vs ≡ 2 ^ ((circuit_of cs).copies + (circuit_of cs).inputs)
  pub room_many : room ≡ answer_words (circuit_of cs)
  pub coins_many : length coins ≡ coins_of (circuit_of cs)
  pub work_many : work ≡ 262144
  pub inputs_reduced : all_reduced (modulo modulus) vs ≡ true
  pub coins_reduced : all_reduced (modulo modulus) coins ≡ true

-- what stands in the room afterwards: what the honest prover says along the coins
pub record Answered (cs vs coins room : List ℕ) : Type 0 where
  pub room_is : room ≡ spoken (honest (modulo modulus) (circuit_of cs) vs) (circuit_of cs) coins
  pub room_reduced : T (all_reduced (modulo modulus) room)
