-- The worked examples, by computing.
-- Where any coins may fall, the first answer is tested before the first of them counts.
use Rattle.std.proofs.Common.{◌≡◌, ℕ, Bool, true, false, eqb, List, [], ◌∷◌, length, refl}
use Rattle.std.proofs.lemmas.Bool.{and_right}
use Rattle.arithmetic.specs.Numbers.{all_reduced}
use Rattle.arithmetic.specs.Cubic.{interpolate, newton, differences}
use Rattle.tables.specs.Multilinear.{mle, blend, eq_poly, bits_of, sum_corners}
use Rattle.circuits.specs.Circuit.{product, Gate, Layer, gates_fit, layers_fit, gate_values, copy_values, all_values, outputs}
use Rattle.circuits.specs.Words.{layers_of, gates_of, kinds_known, shaped, is_circuit, run_verdict}
use Rattle.argument.specs.Claims.{share_sum, wiring, shared_wiring}
use Rattle.argument.specs.Sumcheck.{Prover, rounds, respond}
use Rattle.argument.specs.Argument.{values, believes, first_claim, coins_of, chances_of, layer_coins, layer_chances, accepts}
use Rattle.argument.specs.Honest.{two_values, honest_from}
use Rattle.argument.specs.Transcript.{layer_words, judged, prove_verdict}
use Rattle.verdicts.specs.declared.verdict.Place.TheVariants.{Variable}
use Rattle.verdicts.specs.declared.verdict.Verdict.TheVariants.{Believed, Stopped}
use Rattle.verdicts.specs.Machine.{fits, next, doubt, settled, resume, verdict}
use Rattle.verdicts.specs.Examples.{numbers, words, wrong_words, circuit, inputs, prover, answers, coins, Examples}

-- what the circuit, the honest answers, the verifier's tests and the machine's steps are computed with
reading : Unit {0}
unfolding layers_of gates_of gates_fit layers_fit shaped kinds_known
reading = tt

answering : Unit {0}
unfolding honest_from respond two_values sum_corners mle blend eq_poly bits_of wiring shared_wiring all_values copy_values gate_values reading
answering = tt

testing : Unit {0}
unfolding believes rounds values share_sum newton differences all_reduced layer_coins
testing = tt

stepping : Unit {0}
unfolding fits next doubt settled resume
stepping = tt

cubics : (interpolate numbers (1 ∷ 4 ∷ 9 ∷ 16 ∷ []) 4 ≡ 25) × (interpolate numbers (1 ∷ 4 ∷ 9 ∷ 16 ∷ []) 30 ≡ 0)
unfolding testing
cubics = (refl, refl)

tables : mle numbers (1 ∷ 2 ∷ 3 ∷ 4 ∷ []) (5 ∷ 7 ∷ []) ≡ 18
unfolding answering
tables = refl

counts : (outputs numbers circuit inputs ≡ 15 ∷ []) × (coins_of circuit ≡ 3) × (chances_of circuit ≡ 7)
unfolding answering layer_coins layer_chances
counts = (refl, refl, refl)

honestly : (prover [] ≡ 15 ∷ 0 ∷ 27 ∷ 3 ∷ []) × (prover (2 ∷ []) ≡ 0 ∷ 27 ∷ 26 ∷ 28 ∷ []) × (prover (2 ∷ 4 ∷ []) ≡ 7 ∷ 11 ∷ [])
unfolding answering
honestly = (refl, refl, refl)

accepting : accepts numbers circuit inputs (15 ∷ []) prover coins ≡ true
unfolding answering testing
accepting = refl

believing : verdict numbers circuit inputs (15 ∷ []) answers coins ≡ Believed
unfolding answering testing stepping
believing = refl

refusing_first :
    (next : List ℕ → Prover ℕ → ℕ → List ℕ → Bool) (drawn : List ℕ) →
    rounds numbers 1 next prover (first_claim numbers circuit (16 ∷ []) []).total drawn ≡ false
unfolding answering testing
refusing_first next [] = refl
refusing_first next (r ∷ drawn) = refl

refusing : (drawn : List ℕ) → accepts numbers circuit inputs (16 ∷ []) prover drawn ≡ false
unfolding believes rounds layers_of gates_of
refusing drawn =
    let claim = first_claim numbers circuit (16 ∷ []) [] in
    let gate : Gate = record { kind = product; left = 0; right = 1 } in
    let layer : Layer = record { size = 0; gates = gate ∷ [] } in
    and_right (eqb (length drawn) (coins_of circuit)) (believes numbers 0 circuit.layers 1 inputs claim prover drawn)
    (refusing_first (λ x. rounds numbers 1 (λ y. values numbers layer 1 claim [] x y (believes numbers 0 [] 1 inputs))) drawn)

stopping :
    (others : List (List ℕ)) (coin : ℕ) (later : List ℕ) →
    verdict numbers circuit inputs (16 ∷ []) (prover [] ∷ others) (coin ∷ later) ≡ Stopped 0 (Variable 0)
unfolding answering testing stepping
stopping others coin later = refl

lawfulness : (is_circuit words ≡ true) × (is_circuit wrong_words ≡ false)
unfolding reading
lawfulness = (refl, refl)

none : (vs claimed said drawn : List ℕ) (room work : ℕ) →
    (judged wrong_words vs claimed said drawn ≡ 1) × (prove_verdict wrong_words vs drawn room work ≡ 1) × (run_verdict wrong_words vs room ≡ 1)
unfolding reading
none vs claimed said drawn room work = (refl, refl, refl)

nine : (said : List ℕ) → length said ≡ 9 → judged words inputs (15 ∷ []) said coins ≡ 2
unfolding reading layer_coins layer_words
nine said e = rw e

pub examples : Examples
examples =
    record {
      cubic_at_4 = cubics.0;
      cubic_at_30 = cubics.1;
      table_at_5_7 = tables;
      output = counts.0;
      coin_count = counts.1;
      chances = counts.2;
      first_answer = honestly.0;
      second_answer = honestly.1;
      two_values = honestly.2;
      accepted = accepting;
      believed = believing;
      refused = refusing;
      stopped = stopping;
      a_circuit = lawfulness.0;
      no_circuit = lawfulness.1;
      none_judged = λ vs claimed said drawn. (none vs claimed said drawn 0 0).0;
      none_proved = λ vs drawn room work. (none vs [] [] drawn room work).1;
      none_run = λ vs room. (none vs [] [] [] room 0).2;
      nine_answers = nine;
    }
