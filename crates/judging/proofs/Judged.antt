-- The definition of judging at words that were checked: what is left is whether the argument is accepted.
-- And whether it is accepted is what the machine's verdict says.
use Rattle.std.proofs.Common.{◌≡◌, ℕ, ◌+◌, ◌^◌, Bool, true, cond, not, ◌&&◌, eqb, List, length, sym, refl, ap, ◌∙◌}
use Rattle.std.proofs.lemmas.Bool.{and_parts, and_from, eqb-true}
use Rattle.arithmetic.specs.Numbers.{all_reduced}
use Rattle.circuits.specs.Circuit.{output_size}
use Rattle.circuits.specs.Words.{modulus, circuit_of, is_circuit}
use Rattle.argument.specs.Argument.{coins_of, accepts}
use Rattle.argument.specs.Transcript.{answer_words, prover_of, judged}
use Rattle.verdicts.specs.declared.verdict.Verdict.{Verdict}
use Rattle.verdicts.specs.declared.verdict.Verdict.TheVariants.{Believed, Stopped}
use Rattle.verdicts.specs.Machine.{number_of, is_believed, verdict}
use Rattle.verdicts.proofs.Bridge.{machine_believes}
use Rattle.claims.specs.Meaning.{numbers}
use Rattle.judging.specs.Checks.{Checked, answers_in}

passed : (a b c : Bool) (x : ℕ) → a ≡ true → b ≡ true → c ≡ true → cond (not a) 1 (cond (not b) 2 (cond (not c) 3 x)) ≡ x
passed a b c x ea eb ec =
    ap (λ (t : Bool). cond (not t) 1 (cond (not b) 2 (cond (not c) 3 x))) ea ∙
    ap (λ (t : Bool). cond (not t) 2 (cond (not c) 3 x)) eb ∙ ap (λ (t : Bool). cond (not t) 3 x) ec

four_true : (a b c d : Bool) → a ≡ true → b ≡ true → c ≡ true → d ≡ true → (a && (b && (c && d))) ≡ true
four_true a b c d ea eb ec ed =
    and_from a (b && (c && d)) ea (and_from b (c && d) eb (and_from c d ec ed))

number_is : (v : Verdict) → cond (is_believed v) 0 4 ≡ number_of v
number_is Believed = refl
number_is (Stopped layer place) = refl

module _ (cs vs claimed messages coins : List ℕ) (h : Checked cs vs claimed messages coins) where
  pub inputs_count : eqb (length vs) (2 ^ ((circuit_of cs).copies + (circuit_of cs).inputs)) ≡ true
  inputs_count = (and_parts (eqb (length vs) (2 ^ ((circuit_of cs).copies + (circuit_of cs).inputs))) (eqb (length claimed) (2 ^ ((circuit_of cs).copies + output_size (circuit_of cs)))) h.counts).0

  pub outputs_count : eqb (length claimed) (2 ^ ((circuit_of cs).copies + output_size (circuit_of cs))) ≡ true
  outputs_count = (and_parts (eqb (length vs) (2 ^ ((circuit_of cs).copies + (circuit_of cs).inputs))) (eqb (length claimed) (2 ^ ((circuit_of cs).copies + output_size (circuit_of cs)))) h.counts).1

  pub words_count : eqb (length messages) (answer_words (circuit_of cs)) ≡ true
  words_count = (and_parts (eqb (length messages) (answer_words (circuit_of cs))) (eqb (length coins) (coins_of (circuit_of cs))) h.lengths).0

  pub coins_count : eqb (length coins) (coins_of (circuit_of cs)) ≡ true
  coins_count = (and_parts (eqb (length messages) (answer_words (circuit_of cs))) (eqb (length coins) (coins_of (circuit_of cs))) h.lengths).1

  judged_checked : judged cs vs claimed messages coins ≡ cond (accepts numbers (circuit_of cs) vs claimed (prover_of (circuit_of cs) messages) coins) 0 4
  judged_checked =
      passed (is_circuit cs) _ _ _ h.circuit
      (four_true (eqb (length vs) (2 ^ ((circuit_of cs).copies + (circuit_of cs).inputs)))
      (eqb (length claimed) (2 ^ ((circuit_of cs).copies + output_size (circuit_of cs)))) (eqb (length messages) (answer_words (circuit_of cs)))
      (eqb (length coins) (coins_of (circuit_of cs))) inputs_count outputs_count words_count coins_count)
      (four_true (all_reduced numbers vs) (all_reduced numbers claimed) (all_reduced numbers messages) (all_reduced numbers coins) h.inputs_reduced
      h.claimed_reduced h.messages_reduced h.coins_reduced)

  pub judged-verdict : (v : Verdict) →
      let c = circuit_of cs in
      v ≡ verdict numbers c vs claimed (answers_in c messages) coins →
      number_of v ≡ judged cs vs claimed messages coins
  judged-verdict v e =
      let c = circuit_of cs in
      let answers = answers_in c messages in
      let enough : length coins ≡ coins_of c = eqb-true (length coins) (coins_of c) coins_count in
      sym (number_is v) ∙ ap (λ (w : Verdict). cond (is_believed w) 0 4) e ∙
      ap (λ (b : Bool). cond b 0 4) (machine_believes modulus c vs claimed answers coins enough) ∙ sym judged_checked
