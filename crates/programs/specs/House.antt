-- What `house` prints, line by line: answers, and where a line is no coin, a refusal.
-- It is given a prover, as a function of the coins so far, and the lines that hold the coins.
use Rattle.std.specs.Prelude.{ℕ, zero, suc, List, [], ◌∷◌, ◌++◌, Ok, Err, codes, decimal, Option, Result}
use Rattle.arithmetic.specs.Numbers.{modulo}
use Rattle.refusals.specs.Refusals.{number_of}
use Rattle.refusals.specs.declared.Refusal.{Refusal}
use Rattle.circuits.specs.Circuit.{Circuit}
use Rattle.circuits.specs.Words.{modulus}
use Rattle.argument.specs.Sumcheck.{Prover, after}
use Rattle.argument.specs.Argument.{first_coins, layer_coins}
use Rattle.argument.specs.Honest.{honest}
use Rattle.texts.specs.Texts.{numbers_of, line_of}
use Rattle.programs.specs.OneNumber.{one_number, reduced_only}

pub data Uttered : Type 0 where
  answer : List ℕ → Uttered
  refusal : ℕ → Uttered

abbrev pub uttered_text : Uttered → List ℕ
uttered_text (answer numbers) = line_of numbers
uttered_text (refusal n) = codes "no " ++ decimal n

-- the coin in a line: a line that isn't one number is 5, a number of p or more 3
abbrev pub coin_heard : Option (List ℕ) → Result ℕ Refusal
coin_heard numbers = reduced_only (one_number numbers)

abbrev pub go_on : Result ℕ Refusal → (ℕ → List Uttered) → List Uttered
go_on (Ok r) go = go r
go_on (Err e) go = refusal (number_of e) ∷ []

-- n answers, a coin after each; no line where a coin is due is 2
unfoldable pub answering : ℕ → Prover ℕ → List (List ℕ) → List Uttered
answering zero f lines = []
answering (suc n) f [] = answer (f []) ∷ refusal 2 ∷ []
answering (suc n) f (line ∷ lines) = answer (f []) ∷ go_on (coin_heard (numbers_of line)) (λ r. answering n (after r f) lines)

-- the first coins, n of them, before which nothing is answered
unfoldable pub listening : ℕ → (Prover ℕ → List (List ℕ) → List Uttered) → Prover ℕ → List (List ℕ) → List Uttered
listening zero go f lines = go f lines
listening (suc n) go f [] = refusal 2 ∷ []
listening (suc n) go f (line ∷ lines) = go_on (coin_heard (numbers_of line)) (λ r. listening n go (after r f) lines)

-- all that is printed, for a circuit and inputs that are not refused
abbrev pub house_says : Circuit → List ℕ → List (List ℕ) → List Uttered
house_says c vs lines =
    listening (first_coins c) (answering (layer_coins c.copies c.layers c.inputs))
    (honest (modulo modulus) c vs) lines
