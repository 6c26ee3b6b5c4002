-- What is true of whole runs of `judge` and `house`, line by line.
-- Each statement is a type; a proof of the type is the theorem.
use Rattle.std.specs.Prelude.{◌≡◌, ℕ, zero, suc, ◌+◌, ◌-◌, ◌^◌, T, List, [], ◌∷◌, ◌++◌, map, length, take, Some, Option}
use Rattle.std.specs.List.{ContainsAt as Has}
use Rattle.arithmetic.specs.Numbers.{modulo}
use Rattle.circuits.specs.Circuit.{Circuit, lawful, outputs}
use Rattle.circuits.specs.Words.{modulus}
use Rattle.argument.specs.Sumcheck.{Prover}
use Rattle.argument.specs.Argument.{first_coins, coins_of, accepts}
use Rattle.argument.specs.Honest.{honest}
use Rattle.argument.specs.Promise.{Sized}
use Rattle.argument.specs.Transcript.{written}
use Rattle.verdicts.specs.declared.verdict.Verdict.TheVariants.{Believed}
use Rattle.texts.specs.Texts.{numbers_of, line_of}
use Rattle.programs.specs.Judge.{coin, verdict, said_text, judge_says}
use Rattle.programs.specs.House.{answer, uttered_text, house_says}

-- the first of these lines hold these numbers, a line for each row of them; what comes after those lines may be anything
abbrev pub ReadAs : List (List ℕ) → List (List ℕ) → Type 0
ReadAs lines [] = Unit {0}
ReadAs [] (numbers ∷ others) = ⊥
ReadAs (line ∷ lines) (numbers ∷ others) = (numbers_of line ≡ Some numbers) × ReadAs lines others

-- all that a line with a coin holds
abbrev pub alone : ℕ → List ℕ
alone r = r ∷ []

-- what a prover answers along these coins, one answer before each of m coins, of which the first has n before it
unfoldable pub answers_in_turn : ℕ → Prover ℕ → ℕ → List ℕ → List (List ℕ)
answers_in_turn zero f n coins = []
answers_in_turn (suc m) f n coins = f (take n coins) ∷ answers_in_turn m f (n + 1) coins

-- what the honest prover answers along these coins, one answer before each coin after the first ones
abbrev pub honest_answers : Circuit → List ℕ → List ℕ → List (List ℕ)
honest_answers c vs coins =
    answers_in_turn (length coins - first_coins c) (honest (modulo modulus) c vs) (first_coins c) coins

-- Whatever the house says, `believed` is printed only where DICE holds just as many coins as it takes, the first lines of
-- the house are answers, one for each coin after the first ones, and the argument with these answers and coins is
-- accepted.
abbrev pub BelievedOnlyWhere : Type 0
BelievedOnlyWhere =
    (c : Circuit) (vs claimed : List ℕ) (dice : List (Option ℕ)) (lines : List (List ℕ)) →
    Has (judge_says c vs claimed dice lines) (verdict Believed) →
    (coins : List ℕ) × (answers : List (List ℕ)) × (dice ≡ map Some coins) × Sized modulus (coins_of c) coins ×
    (length coins ≡ first_coins c + length answers) × ReadAs lines answers ×
    T (accepts (modulo modulus) c vs claimed (written (first_coins c) answers) coins)

-- To as many coins as it takes, a line each, the house says what the honest prover answers along them, and nothing else.
abbrev pub HouseSaysHonest : Type 0
HouseSaysHonest =
    (c : Circuit) (vs coins : List ℕ) (lines : List (List ℕ)) → Sized modulus (coins_of c) coins →
    ReadAs lines (map alone coins) → house_says c vs lines ≡ map answer (honest_answers c vs coins)

-- With these answers for lines the right outputs are believed, whatever coins DICE holds, as many as it takes: all that
-- is printed is the coins and `believed`.
abbrev pub RightOutputsAreBelieved : Type 0
RightOutputsAreBelieved =
    (c : Circuit) → T (lawful c) → (vs : List ℕ) → Sized modulus (2 ^ (c.copies + c.inputs)) vs →
    (coins : List ℕ) → Sized modulus (coins_of c) coins →
    judge_says c vs (outputs (modulo modulus) c vs) (map Some coins) (map line_of (honest_answers c vs coins)) ≡
    map coin coins ++ (verdict Believed ∷ [])

-- The two programs with each other: where the house is given the lines that the judge prints, and the judge those that
-- the house prints, right outputs are believed.
abbrev pub HouseConvincesJudge : Type 0
HouseConvincesJudge =
    (c : Circuit) → T (lawful c) → (vs : List ℕ) → Sized modulus (2 ^ (c.copies + c.inputs)) vs →
    (coins : List ℕ) → Sized modulus (coins_of c) coins →
    let printed = map coin coins ++ (verdict Believed ∷ []) in
    judge_says c vs (outputs (modulo modulus) c vs) (map Some coins)
    (map uttered_text (house_says c vs (map said_text printed))) ≡
    printed
