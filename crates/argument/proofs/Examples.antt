-- The worked example, by computing.
-- Where any coins may fall, the first answer is tested before the first of them counts.
use Rattle.std.proofs.Common.{◌≡◌, ℕ, Bool, true, false, eqb, List, [], ◌∷◌, length, refl}
use Rattle.std.proofs.lemmas.Bool.{and_right}
use Rattle.arithmetic.specs.Numbers.{all_reduced}
use Rattle.arithmetic.specs.Cubic.{newton, differences}
use Rattle.tables.specs.Multilinear.{mle, blend, eq_poly, bits_of, sum_corners}
use Rattle.circuits.specs.Circuit.{product, Gate, Layer, gates_fit, layers_fit, gate_values, copy_values, all_values, outputs}
use Rattle.circuits.specs.Words.{layers_of, gates_of}
use Rattle.argument.specs.Claims.{share_sum, wiring, shared_wiring}
use Rattle.argument.specs.Sumcheck.{Prover, rounds, respond}
use Rattle.argument.specs.Argument.{values, believes, first_claim, coins_of, layer_coins, layer_chances, accepts}
use Rattle.argument.specs.Honest.{two_values, honest_from}
use Rattle.argument.specs.Examples.{numbers, circuit, inputs, prover, total_of, first_test, Examples}

-- what the honest answers are computed with, and what the verifier's tests are
answering : Unit {0}
unfolding honest_from respond two_values sum_corners mle blend eq_poly bits_of wiring shared_wiring all_values copy_values gate_values layers_of gates_of
answering = tt

judging : Unit {0}
unfolding believes rounds values share_sum newton differences all_reduced layer_coins
judging = tt

answers_first : prover [] ≡ 15 ∷ 0 ∷ 27 ∷ 3 ∷ []
unfolding answering
answers_first = refl

answers_second : prover (2 ∷ []) ≡ 0 ∷ 27 ∷ 26 ∷ 28 ∷ []
unfolding answering
answers_second = refl

answers_values : prover (2 ∷ 4 ∷ []) ≡ 7 ∷ 11 ∷ []
unfolding answering
answers_values = refl

passes : first_test 15 ≡ true
unfolding answering
passes = refl

believes_it : accepts numbers circuit inputs (15 ∷ []) prover (2 ∷ 4 ∷ 3 ∷ []) ≡ true
unfolding answering judging
believes_it = refl

total_first : total_of 16 ≡ 16
unfolding mle layers_of gates_of
total_first = refl

fails : first_test 16 ≡ false
unfolding answering
fails = refl

stops : (next : List ℕ → Prover ℕ → ℕ → List ℕ → Bool) (drawn : List ℕ) → rounds numbers 1 next prover (total_of 16) drawn ≡ false
unfolding answering judging
stops next [] = refl
stops next (r ∷ drawn) = refl

refuses : (drawn : List ℕ) → accepts numbers circuit inputs (16 ∷ []) prover drawn ≡ false
unfolding believes rounds layers_of gates_of
refuses drawn =
    let claim = first_claim numbers circuit (16 ∷ []) [] in
    let gate : Gate = record { kind = product; left = 0; right = 1 } in
    let layer : Layer = record { size = 0; gates = gate ∷ [] } in
    and_right (eqb (length drawn) (coins_of circuit)) (believes numbers 0 circuit.layers 1 inputs claim prover drawn)
    (stops (λ x. rounds numbers 1 (λ y. values numbers layer 1 claim [] x y (believes numbers 0 [] 1 inputs))) drawn)

right_output : outputs numbers circuit inputs ≡ 15 ∷ []
unfolding all_values copy_values gate_values layers_of gates_of
right_output = refl

three_coins : coins_of circuit ≡ 3
unfolding layers_of gates_of layer_coins
three_coins = refl

pub examples : Examples
unfolding layers_of gates_of layers_fit gates_fit layer_chances
examples =
    record {
      circuit_lawful = tt;
      output = right_output;
      coins = three_coins;
      chances = refl;
      first_answer = answers_first;
      second_answer = answers_second;
      two_values = answers_values;
      first_passes = passes;
      believed = believes_it;
      first_total = total_first;
      first_fails = fails;
      stopped = stops;
      refused = refuses;
    }
