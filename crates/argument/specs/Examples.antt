-- The argument worked out by hand: the product of 3 and 5 modulo 31, argued with the coins 2, 4 and 3.
-- One copy of a circuit of one gate, so its outputs take no coin, and its one layer takes two variables and one coin more.
use Rattle.std.specs.Prelude.{◌≡◌, ℕ, Bool, true, false, T, List, [], ◌∷◌}
use Rattle.arithmetic.specs.Numbers.{Numbers, modulo}
use Rattle.circuits.specs.Circuit.{Circuit, lawful, outputs}
use Rattle.circuits.specs.Words.{circuit_of}
use Rattle.argument.specs.Sumcheck.{Prover, nth, rounds}
use Rattle.argument.specs.Argument.{first_claim, coins_of, chances_of, accepts}
use Rattle.argument.specs.Honest.{honest}

abbrev pub numbers : Numbers ℕ
numbers = modulo 31

-- copies 0, inputs 1, one layer: of size 0, a product of the places 0 and 1
abbrev pub circuit : Circuit
circuit = circuit_of (0 ∷ 1 ∷ 1 ∷ 0 ∷ 1 ∷ 0 ∷ 1 ∷ [])

abbrev pub inputs : List ℕ
inputs = 3 ∷ 5 ∷ []

abbrev pub prover : Prover ℕ
prover = honest numbers circuit inputs

-- what a claim of this one output makes the first total
abbrev pub total_of : ℕ → ℕ
total_of claimed = (first_claim numbers circuit (claimed ∷ []) []).total

-- the test that the first answer has to pass
abbrev pub first_test : ℕ → Bool
first_test claimed = numbers.equal (numbers.add (nth numbers (prover []) 0) (nth numbers (prover []) 1)) (total_of claimed)

pub record Examples : Type 0 where
  pub circuit_lawful : T (lawful circuit)
  pub output : outputs numbers circuit inputs ≡ 15 ∷ []
  pub coins : coins_of circuit ≡ 3
  pub chances : chances_of circuit ≡ 7
  -- the honest answers
  pub first_answer : prover [] ≡ 15 ∷ 0 ∷ 27 ∷ 3 ∷ []
  pub second_answer : prover (2 ∷ []) ≡ 0 ∷ 27 ∷ 26 ∷ 28 ∷ []
  pub two_values : prover (2 ∷ 4 ∷ []) ≡ 7 ∷ 11 ∷ []
  -- 15 is believed
  pub first_passes : first_test 15 ≡ true
  pub believed : accepts numbers circuit inputs (15 ∷ []) prover (2 ∷ 4 ∷ 3 ∷ []) ≡ true
  -- 16 is not, and it is the first answer that fails: 15 + 0 is not 16, whatever coins fall and whatever comes after
  pub first_total : total_of 16 ≡ 16
  pub first_fails : first_test 16 ≡ false
  pub stopped :
      (next : List ℕ → Prover ℕ → ℕ → List ℕ → Bool) (drawn : List ℕ) →
      rounds numbers 1 next prover (total_of 16) drawn ≡ false
  pub refused : (drawn : List ℕ) → accepts numbers circuit inputs (16 ∷ []) prover drawn ≡ false
