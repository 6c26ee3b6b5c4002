-- That the main promise is not empty, and that its count is not too large: moduli, a circuit and a cheat that meet all it asks.
-- The cheat is believed on just as many rows as the count allows.
use Rattle.std.specs.Prelude.{◌≡◌, ℕ, ◌+◌, ◌*◌, ◌^◌, ◌<◌, true, T, List, [], ◌∷◌}
use Rattle.arithmetic.specs.Numbers.{modulo, Whole}
use Rattle.arithmetic.specs.Counting.{count_rows}
use Rattle.circuits.specs.Circuit.{Circuit, lawful, output_size, outputs}
use Rattle.circuits.specs.Words.{circuit_of, is_circuit}
use Rattle.argument.specs.Sumcheck.{Prover}
use Rattle.argument.specs.Argument.{coins_of, chances_of, accepts}
use Rattle.argument.specs.Promise.{Sized}

-- one copy, one input, one layer of one gate: the square of the input
abbrev pub square_words : List ℕ
square_words = 0 ∷ 0 ∷ 1 ∷ 0 ∷ 1 ∷ 0 ∷ 0 ∷ []

abbrev pub square : Circuit
square = circuit_of square_words

abbrev pub input : List ℕ
input = 2 ∷ []

-- the square of 2 is claimed to be 3
abbrev pub claimed : List ℕ
claimed = 3 ∷ []

-- for the two values, both of which should be 2, the cheat answers 1 and 3, whose product is 3
abbrev pub cheat : Prover ℕ
cheat coins = 1 ∷ 3 ∷ []

-- modulo p all that the main promise asks is met, and the cheat is believed on as many rows as there are chances: on the
-- one at which 1 + 3 s is 2 + 2 s
pub record Attained (p : ℕ) : Type 0 where
  pub whole : Whole p
  pub above : 3 < p
  pub circuit_lawful : T (lawful square)
  pub inputs_sized : Sized p (2 ^ (square.copies + square.inputs)) input
  pub claimed_sized : Sized p (2 ^ (square.copies + output_size square)) claimed
  pub claimed_wrong : claimed ≡ outputs (modulo p) square input → ⊥
  pub believed : count_rows (modulo p) (coins_of square) (accepts (modulo p) square input claimed cheat) * p ≡ chances_of square * p ^ coins_of square

pub record Instances : Type 0 where
  pub in_words : is_circuit square_words ≡ true
  pub modulo_5 : Attained 5
  pub modulo_31 : Attained 31
