-- What `judge` prints, line by line: coins, and in the end a verdict or a refusal.
-- It is given the words of DICE, each a number or none, and the lines of the house.
use Rattle.std.specs.Prelude.{ℕ, zero, suc, Bool, true, false, cond, List, [], ◌∷◌, ◌++◌, Some, None, codes, decimal, Option, nat_lt}
use Rattle.arithmetic.specs.Numbers.{modulo}
use Rattle.circuits.specs.Circuit.{Layer, Circuit}
use Rattle.circuits.specs.Words.{modulus}
use Rattle.argument.specs.Argument.{first_coins}
use Rattle.verdicts.specs.Machine.{Stand, fits, next, doubt, settled, start}
use Rattle.verdicts.specs.Shown.{verdict_text}
use Rattle.verdicts.specs.declared.verdict.Verdict.{Verdict}
use Rattle.verdicts.specs.declared.verdict.Verdict.TheVariants.{Believed, Stopped}
use Rattle.texts.specs.Texts.{numbers_of}

pub data Said : Type 0 where
  coin : ℕ → Said
  verdict : Verdict → Said
  refusal : ℕ → Said

-- ---- as text
abbrev pub said_text : Said → List ℕ
said_text (coin r) = decimal r
said_text (verdict v) = verdict_text v
said_text (refusal n) = codes "no " ++ decimal n

-- ---- coins out of DICE
-- where a coin is due: none left is 2, a word that is no number 5, a number of p or more 3
abbrev pub drawn : List (Option ℕ) → (ℕ → List (Option ℕ) → List Said) → List Said
drawn [] go = refusal 2 ∷ []
drawn (None ∷ dice) go = refusal 5 ∷ []
drawn (Some r ∷ dice) go = cond (nat_lt r modulus) (coin r ∷ go r dice) (refusal 3 ∷ [])

-- where it would be believed, nothing may be left
abbrev pub closed : List (Option ℕ) → Said
closed [] = verdict Believed
closed (None ∷ dice) = refusal 5
closed (Some r ∷ dice) = refusal 2

-- ---- the talk
abbrev pub at_inputs : List Layer → Bool
at_inputs [] = true
at_inputs (l ∷ ls) = false

abbrev pub ending : Verdict → List (Option ℕ) → Said
ending Believed dice = closed dice
ending (Stopped layer place) dice = verdict (Stopped layer place)

-- a line that holds no answer that fits is not believed; after one that does, a coin is drawn
abbrev pub heard : Stand ℕ → Option (List ℕ) → (List ℕ → List Said) → List Said
heard s None go = verdict (doubt s) ∷ []
heard s (Some answer) go = cond (fits (modulo modulus) s answer) (go answer) (verdict (doubt s) ∷ [])

-- from here on, vs being the inputs: at the inputs the claim is settled; before, the end of the house's lines is not
-- believed
unfoldable pub talk : List ℕ → Stand ℕ → List (Option ℕ) → List (List ℕ) → List Said
talk vs s dice [] =
    cond (at_inputs s.layers) (ending (settled (modulo modulus) vs s) dice ∷ []) (verdict (doubt s) ∷ [])
talk vs s dice (line ∷ lines) =
    cond (at_inputs s.layers) (ending (settled (modulo modulus) vs s) dice ∷ [])
    (heard s (numbers_of line) (λ answer. drawn dice (λ r rest. talk vs (next (modulo modulus) s answer r) rest lines)))

-- the first coins, n of them, after those of z
unfoldable pub opening : ℕ → List ℕ → List (Option ℕ) → (List ℕ → List (Option ℕ) → List Said) → List Said
opening zero z dice go = go z dice
opening (suc n) z dice go = drawn dice (λ r rest. opening n (z ++ (r ∷ [])) rest go)

-- all that is printed, for a circuit, inputs and claimed outputs that are not refused
abbrev pub judge_says : Circuit → List ℕ → List ℕ → List (Option ℕ) → List (List ℕ) → List Said
judge_says c vs claimed dice lines =
    opening (first_coins c) [] dice (λ z rest. talk vs (start (modulo modulus) c claimed z) rest lines)
