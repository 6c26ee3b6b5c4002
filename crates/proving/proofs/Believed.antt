-- What the honest prover says along the coins, written down, is believed of the right outputs.
-- The written prover answers as the honest one does, and nothing but answers counts.
use Rattle.std.proofs.Common.{◌≡◌, ℕ, ◌+◌, ◌-◌, ◌^◌, ◌<◌, ◌≤◌, Bool, true, cond, not, ◌&&◌, eqb, List, [], ◌++◌, length, get_or, take, drop, Ok, Err, Result, MatchResult, sym, refl, ap, ◌∙◌, ap₂, le_of_eq, arith, length-drop, take-add, pow-add}
use Rattle.std.proofs.lemmas.List.{length-take-le, take_at, drop_at}
use Rattle.std.proofs.lemmas.Bool.{and_from, eq-eqb}
use Rattle.arithmetic.specs.Numbers.{modulo, all_reduced}
use Rattle.refusals.specs.Refusals.{number_of, answer_of}
use Rattle.refusals.specs.declared.Refusal.{Refusal}
use Rattle.refusals.specs.declared.Refusal.TheVariants.{NoCircuit, WrongCount, NotReduced, NotBelieved, UnknownForm}
use Rattle.arithmetic.proofs.Truth.{path_of_T, T_of_path}
use Rattle.circuits.specs.Circuit.{Circuit, lawful, output_size, outputs}
use Rattle.circuits.specs.Words.{modulus, circuit_of, is_circuit}
use Rattle.circuits.proofs.Parts.{circuit_layers}
use Rattle.circuits.proofs.Reduced.{reduced_each}
use Rattle.evaluation.proofs.WorkingOut.{all_below}
use Rattle.tables.proofs.ReducedLists.{reduced_from}
use Rattle.argument.specs.Argument.{accepts, coins_of, first_coins, first_claim, layer_coins}
use Rattle.argument.specs.Honest.{honest, honest_from}
use Rattle.argument.specs.Claims.{Claim}
use Rattle.argument.specs.Transcript.{answers_of, answer_words, answers_along, judged, prover_of}
use Rattle.argument.proofs.Copies.{all_values_full}
use Rattle.argument.proofs.Main.{main}
use Rattle.proving.specs.Proves.{Ready, Answered}
use Rattle.prover.proofs.OpeningSteps.{circuit_lawful}
use Rattle.proving.proofs.Splitting.{along_shift}
use Rattle.arithmetic.proofs.WholeMersenne.{whole31}
use Rattle.proving.proofs.Written.{written_honest}

-- tests that all pass
all_pass : (A B C D : Bool) → A ≡ true → B ≡ true → C ≡ true → D ≡ true → ◌≡◌ {A = ℕ} (cond (not A) 1 (cond (not B) 2 (cond (not C) 3 (cond D 0 4)))) 0
all_pass A B C D a b c d = rw (a, b, c, d) refl

module _ (cs vs coins room : List ℕ) (work : ℕ) (ready : Ready cs vs coins (length room) work) (answered : Answered cs vs coins room) where
  abbrev c : Circuit
  c = circuit_of cs

  says_after : (z later : List ℕ) → length z ≡ first_coins c →
      honest_from (modulo modulus) c.copies c.layers c.inputs vs (first_claim (modulo modulus) c (outputs (modulo modulus) c vs) z) later ≡
      honest (modulo modulus) c vs (z ++ later)
  says_after z later e =
      sym
      (ap₂ (λ (d e : List ℕ). honest_from (modulo modulus) c.copies c.layers c.inputs vs (first_claim (modulo modulus) c (outputs (modulo modulus) c vs) d) e)
      (take_at z later (first_coins c) e) (drop_at z later (first_coins c) e))

  same_answers : (n : ℕ) → first_coins c ≤ n → n < length coins → prover_of c room (take n coins) ≡ honest (modulo modulus) c vs (take n coins)
  same_answers n enough few =
      let first : ℕ = first_coins c in
      let z : List ℕ = take first coins in
      let rest : List ℕ = drop first coins in
      let k : Claim ℕ = first_claim (modulo modulus) c (outputs (modulo modulus) c vs) z in
      let L : ℕ = layer_coins c.copies c.layers c.inputs in
      let many : length coins ≡ first + L = ready.coins_many in
      let long : length z ≡ first = length-take-le first coins (omega arith) in
      let count : length (take n coins) ≡ n = length-take-le n coins (omega arith) in
      let left : length coins - first ≡ L = omega arith in
      let start : first ≡ first + 0 = omega arith in
      let words : room ≡ answers_along L (honest_from (modulo modulus) c.copies c.layers c.inputs vs k) 0 rest =
      answered.room_is
      ∙ ap₂ (λ (m i : ℕ). answers_along m (honest (modulo modulus) c vs) i coins) left start
      ∙ along_shift (honest (modulo modulus) c vs) (honest_from (modulo modulus) c.copies c.layers c.inputs vs k) coins first (λ later. says_after z later long) L 0 in
      let place : first + (n - first) ≡ n = omega arith in
      ap (λ (i : ℕ). get_or (answers_of c.copies c.layers c.inputs room) (i - first) []) count
      ∙ written_honest (modulo modulus) c.copies c.layers c.inputs vs k rest room (length-drop first coins ∙ left) words (n - first) (omega arith)
      ∙ says_after z (take (n - first) rest) long
      ∙ ap (honest (modulo modulus) c vs) (sym (take-add first (n - first) coins) ∙ ap (λ (i : ℕ). take i coins) place)

  law : lawful c ≡ true
  law = circuit_lawful cs ready.circuit

  accepted : accepts (modulo modulus) c vs (outputs (modulo modulus) c vs) (prover_of c room) coins ≡ true
  accepted =
      main.1.1 modulus c vs (outputs (modulo modulus) c vs) (prover_of c room) (honest (modulo modulus) c vs) coins same_answers
      ∙ path_of_T (accepts (modulo modulus) c vs (outputs (modulo modulus) c vs) (honest (modulo modulus) c vs) coins)
      (main.0 modulus whole31 (omega arith) c (T_of_path (lawful c) law) vs
      (ready.inputs_many, T_of_path (all_reduced (modulo modulus) vs) ready.inputs_reduced) coins
      (ready.coins_many, T_of_path (all_reduced (modulo modulus) coins) ready.coins_reduced))

  outputs_many : length (outputs (modulo modulus) c vs) ≡ 2 ^ (c.copies + output_size c)
  outputs_many =
      all_values_full (modulo modulus) c.layers c.inputs (circuit_layers cs ready.circuit).fits c.copies vs
      (le_of_eq (sym (ready.inputs_many ∙ pow-add 2 c.copies c.inputs)))
      ∙ sym (pow-add 2 c.copies (output_size c))

  outputs_reduced : all_reduced (modulo modulus) (outputs (modulo modulus) c vs) ≡ true
  outputs_reduced =
      path_of_T (all_reduced (modulo modulus) (outputs (modulo modulus) c vs))
      (reduced_from modulus (outputs (modulo modulus) c vs)
      (λ i h. all_below modulus (omega arith) c.layers (2 ^ c.inputs) (2 ^ c.copies) vs (reduced_each modulus vs (omega arith) ready.inputs_reduced) i))

  pub judged-zero : judged cs vs (outputs (modulo modulus) c vs) room coins ≡ 0
  judged-zero =
      let os : List ℕ = outputs (modulo modulus) c vs in
      let A : Bool = eqb (length vs) (2 ^ (c.copies + c.inputs)) in
      let B : Bool = eqb (length os) (2 ^ (c.copies + output_size c)) in
      let C : Bool = eqb (length room) (answer_words c) in
      let D : Bool = eqb (length coins) (coins_of c) in
      let E : List ℕ → Bool = all_reduced (modulo modulus) in
      all_pass (is_circuit cs) (A && (B && (C && D))) (E vs && (E os && (E room && E coins))) (accepts (modulo modulus) c vs os (prover_of c room) coins)
      ready.circuit
      (and_from A (B && (C && D)) (eq-eqb (length vs) _ ready.inputs_many)
      (and_from B (C && D) (eq-eqb (length os) _ outputs_many) (and_from C D (eq-eqb (length room) _ ready.room_many) (eq-eqb (length coins) _ ready.coins_many))))
      (and_from (E vs) (E os && (E room && E coins)) ready.inputs_reduced
      (and_from (E os) (E room && E coins) outputs_reduced (and_from (E room) (E coins) (path_of_T (E room) answered.room_reduced) ready.coins_reduced)))
      accepted

-- a call that answers 0 has done its work
never_zero : (e : Refusal) → number_of e ≡ 0 → ⊥
never_zero NoCircuit is = absurd (omega arith)
never_zero WrongCount is = absurd (omega arith)
never_zero NotReduced is = absurd (omega arith)
never_zero NotBelieved is = absurd (omega arith)
never_zero UnknownForm is = absurd (omega arith)

pub done_at_zero : {X A : Type 0} (B : Refusal → Type 0) (r : Result X Refusal) → MatchResult r (λ _. A) B → answer_of r ≡ 0 → A
done_at_zero B (Ok x) done is = done
done_at_zero B (Err e) refused is = absurd (never_zero e is)
