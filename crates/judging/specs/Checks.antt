-- What has been checked of a call's words before the verifier begins.
-- Each test is one of those of the definition of judging.
use Rattle.std.specs.Prelude.{◌≡◌, ℕ, ◌+◌, ◌^◌, Bool, true, ◌&&◌, List, length, ◌==◌}
use Rattle.arithmetic.specs.Numbers.{all_reduced}
use Rattle.circuits.specs.Circuit.{Circuit, output_size}
use Rattle.circuits.specs.Words.{circuit_of, is_circuit}
use Rattle.argument.specs.Argument.{coins_of}
use Rattle.argument.specs.Transcript.{answers_of, answer_words, judged}
use Rattle.verdicts.specs.declared.verdict.Verdict.{Verdict}
use Rattle.verdicts.specs.Machine.{verdict}
use Rattle.claims.specs.Meaning.{numbers}
use Rattle.judging.specs.declared.call.Transcript.{Transcript}

-- as many inputs and outputs as the circuit has
abbrev pub counts_fit : Circuit → ℕ → ℕ → Bool
counts_fit c inputs outputs = inputs == 2 ^ (c.copies + c.inputs) && outputs == 2 ^ (c.copies + output_size c)

-- as many words of answers and coins as it takes
abbrev pub lengths_fit : Circuit → ℕ → ℕ → Bool
lengths_fit c words coins = words == answer_words c && coins == coins_of c

-- the answers of a circuit's argument, cut out of the words in which they lie side by side
abbrev pub answers_in : Circuit → List ℕ → List (List ℕ)
answers_in c ws = answers_of c.copies c.layers c.inputs ws

pub record Checked (cs vs claimed messages coins : List ℕ) : Type 0 where
  pub circuit : is_circuit cs ≡ true
  pub counts : counts_fit (circuit_of cs) (length vs) (length claimed) ≡ true
  pub lengths : lengths_fit (circuit_of cs) (length messages) (length coins) ≡ true
  pub inputs_reduced : all_reduced numbers vs ≡ true
  pub claimed_reduced : all_reduced numbers claimed ≡ true
  pub messages_reduced : all_reduced numbers messages ≡ true
  pub coins_reduced : all_reduced numbers coins ≡ true

-- the same of a call's words, what is answered to them, and the verdict over them
abbrev pub checked : Transcript → Type 0
checked t = Checked t.circuit.now t.inputs.now t.claimed.now t.messages.now t.coins.now

abbrev pub judged_so : Transcript → ℕ
judged_so t = judged t.circuit.now t.inputs.now t.claimed.now t.messages.now t.coins.now

abbrev pub verdict_so : Transcript → Verdict
verdict_so t =
    let c = circuit_of t.circuit.now in
    verdict numbers c t.inputs.now t.claimed.now (answers_in c t.messages.now) t.coins.now
