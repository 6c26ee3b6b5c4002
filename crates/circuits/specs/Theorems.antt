-- Examples that the definitions must give: a circuit of one product, and the same with a place that is not there.
-- `examples_stand` promises them.
use Rattle.std.specs.Prelude.{◌≡◌, ℕ, true, List, [], ◌∷◌}
use Rattle.arithmetic.specs.Numbers.{modulo}
use Rattle.circuits.specs.Circuit.{outputs}
use Rattle.circuits.specs.Words.{circuit_of, is_circuit, run_verdict}

-- one copy, two inputs, one layer of one gate: the product of the two
abbrev pub one_product : List ℕ
one_product = 0 ∷ 1 ∷ 1 ∷ 0 ∷ 1 ∷ 0 ∷ 1 ∷ []

-- the same, with the second place one too far
abbrev pub place_too_far : List ℕ
place_too_far = 0 ∷ 1 ∷ 1 ∷ 0 ∷ 1 ∷ 0 ∷ 2 ∷ []

abbrev pub ProductIsCircuit : Type 0
ProductIsCircuit = is_circuit one_product ≡ true

abbrev pub ProductOfThreeAndFive : Type 0
ProductOfThreeAndFive = outputs (modulo 31) (circuit_of one_product) (3 ∷ 5 ∷ []) ≡ 15 ∷ []

abbrev pub TooFarIsRefused : Type 0
TooFarIsRefused = (inputs : List ℕ) (room : ℕ) → run_verdict place_too_far inputs room ≡ 1
