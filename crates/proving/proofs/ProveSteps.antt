-- From the answers of the prover at the outputs' layer to what the honest prover says along all coins.
-- The coins that choose the outputs' point come before all answers.
use Rattle.std.proofs.Common.{◌≡◌, ℕ, ◌+◌, ◌-◌, ◌≤◌, List, length, take, drop, sym, ap, ◌∙◌, ap₂, arith, length-drop}
use Rattle.std.proofs.lemmas.List.{take_rest}
use Rattle.arithmetic.specs.Numbers.{modulo}
use Rattle.argument.specs.Argument.{first_coins}
use Rattle.argument.specs.Honest.{honest}
use Rattle.argument.specs.Transcript.{answers_along, spoken}
use Rattle.circuits.specs.Circuit.{Circuit}
use Rattle.circuits.specs.Words.{modulus}
use Rattle.prover.specs.Provers.{Opened, speaks}
use Rattle.prover.specs.declared.prover.HonestProver.{HonestProver}
use Rattle.proving.proofs.Splitting.{along_shift}

-- the coins after the first ones, as they were lent
pub later_coins : (coins : List ℕ) (first n : ℕ) → first ≡ n → take (length coins - first) (drop first coins) ≡ drop n coins
later_coins coins first n e = take_rest coins first ∙ ap (λ (k : ℕ). drop k coins) e

pub room_spoken : (c : Circuit) (vs coins rest room : List ℕ) (t : HonestProver) → Opened c vs coins t → first_coins c ≤ length coins →
    rest ≡ drop (first_coins c) coins → room ≡ answers_along (length rest) (speaks t) 0 rest →
    room ≡ spoken (honest (modulo modulus) c vs) c coins
room_spoken c vs coins rest room t opened enough er is =
    let first : ℕ = first_coins c in
    let many : length rest ≡ length coins - first = ap length er ∙ length-drop first coins in
    let start : first + 0 ≡ first = omega arith in
    is ∙ ap₂ (λ (n : ℕ) (d : List ℕ). answers_along n (speaks t) 0 d) many er
    ∙ sym
    (along_shift (honest (modulo modulus) c vs) (speaks t) coins first opened.says (length coins - first) 0)
    ∙ ap (λ (n : ℕ). answers_along (length coins - first) (honest (modulo modulus) c vs) n coins) start
