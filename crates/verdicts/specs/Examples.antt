-- The worked examples, as one table.
-- A cubic, a table of four numbers, and the product of 3 and 5 argued with the coins 2, 4 and 3, all modulo 31; then words.
use Rattle.std.specs.Prelude.{◌≡◌, ℕ, true, false, List, [], ◌∷◌, length}
use Rattle.arithmetic.specs.Numbers.{Numbers, modulo}
use Rattle.arithmetic.specs.Cubic.{interpolate}
use Rattle.tables.specs.Multilinear.{mle}
use Rattle.circuits.specs.Circuit.{Circuit, outputs}
use Rattle.circuits.specs.Words.{circuit_of, is_circuit, run_verdict}
use Rattle.argument.specs.Sumcheck.{Prover}
use Rattle.argument.specs.Argument.{coins_of, chances_of, accepts}
use Rattle.argument.specs.Honest.{honest}
use Rattle.argument.specs.Transcript.{judged, prove_verdict}
use Rattle.verdicts.specs.declared.verdict.Place.TheVariants.{Variable}
use Rattle.verdicts.specs.declared.verdict.Verdict.TheVariants.{Believed, Stopped}
use Rattle.verdicts.specs.Machine.{verdict}

abbrev pub numbers : Numbers ℕ
numbers = modulo 31

-- one copy, two inputs, one layer: of one gate, the product of the places 0 and 1
abbrev pub words : List ℕ
words = 0 ∷ 1 ∷ 1 ∷ 0 ∷ 1 ∷ 0 ∷ 1 ∷ []

-- a gate that takes the place 2, which is not there
abbrev pub wrong_words : List ℕ
wrong_words = 0 ∷ 1 ∷ 1 ∷ 0 ∷ 1 ∷ 0 ∷ 2 ∷ []

abbrev pub circuit : Circuit
circuit = circuit_of words

abbrev pub inputs : List ℕ
inputs = 3 ∷ 5 ∷ []

abbrev pub prover : Prover ℕ
prover = honest numbers circuit inputs

abbrev pub answers : List (List ℕ)
answers = (15 ∷ 0 ∷ 27 ∷ 3 ∷ []) ∷ (0 ∷ 27 ∷ 26 ∷ 28 ∷ []) ∷ (7 ∷ 11 ∷ []) ∷ []

abbrev pub coins : List ℕ
coins = 2 ∷ 4 ∷ 3 ∷ []

pub record Examples : Type 0 where
  -- the polynomial through 1, 4, 9, 16
  pub cubic_at_4 : interpolate numbers (1 ∷ 4 ∷ 9 ∷ 16 ∷ []) 4 ≡ 25
  pub cubic_at_30 : interpolate numbers (1 ∷ 4 ∷ 9 ∷ 16 ∷ []) 30 ≡ 0
  -- the polynomial through the table 1, 2, 3, 4 is 1 + 2 a + b
  pub table_at_5_7 : mle numbers (1 ∷ 2 ∷ 3 ∷ 4 ∷ []) (5 ∷ 7 ∷ []) ≡ 18
  -- the circuit's output, how many coins it takes, and the count of its chances
  pub output : outputs numbers circuit inputs ≡ 15 ∷ []
  pub coin_count : coins_of circuit ≡ 3
  pub chances : chances_of circuit ≡ 7
  -- the honest answers
  pub first_answer : prover [] ≡ 15 ∷ 0 ∷ 27 ∷ 3 ∷ []
  pub second_answer : prover (2 ∷ []) ≡ 0 ∷ 27 ∷ 26 ∷ 28 ∷ []
  pub two_values : prover (2 ∷ 4 ∷ []) ≡ 7 ∷ 11 ∷ []
  -- 15 is believed, by the definition and by the machine
  pub accepted : accepts numbers circuit inputs (15 ∷ []) prover coins ≡ true
  pub believed : verdict numbers circuit inputs (15 ∷ []) answers coins ≡ Believed
  -- with 16 the honest prover is never believed, and the machine stops at its first answer, whatever comes after
  pub refused : (drawn : List ℕ) → accepts numbers circuit inputs (16 ∷ []) prover drawn ≡ false
  pub stopped :
      (others : List (List ℕ)) (coin : ℕ) (later : List ℕ) →
      verdict numbers circuit inputs (16 ∷ []) (prover [] ∷ others) (coin ∷ later) ≡ Stopped 0 (Variable 0)
  -- the words are a circuit; with 2 for the last 1 they are none, and every call answers 1, whatever else it is given
  pub a_circuit : is_circuit words ≡ true
  pub no_circuit : is_circuit wrong_words ≡ false
  pub none_judged : (vs claimed said drawn : List ℕ) → judged wrong_words vs claimed said drawn ≡ 1
  pub none_proved : (vs drawn : List ℕ) (room work : ℕ) → prove_verdict wrong_words vs drawn room work ≡ 1
  pub none_run : (vs : List ℕ) (room : ℕ) → run_verdict wrong_words vs room ≡ 1
  -- modulo 2^31 - 1: answers of 9 numbers are too few
  pub nine_answers : (said : List ℕ) → length said ≡ 9 → judged words inputs (15 ∷ []) said coins ≡ 2
