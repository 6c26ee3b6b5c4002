-- The main promise of judging, for the numbers modulo 2^31 - 1 and for words that lie side by side.
-- However the words are made out of the coins, no word of an answer may depend on a coin that falls after that answer.
use Rattle.std.specs.Prelude.{◌≡◌, ℕ, ◌+◌, ◌-◌, ◌*◌, ◌^◌, ◌<◌, ◌≤◌, cond, T, List, [], ◌∷◌, length, take, ◌≢◌, nat_eq, nat_le}
use Rattle.arithmetic.specs.Numbers.{modulo}
use Rattle.arithmetic.specs.Counting.{count_rows}
use Rattle.circuits.specs.Circuit.{Layer, Circuit, size_below, output_size, outputs}
use Rattle.circuits.specs.Words.{modulus, circuit_of, is_circuit}
use Rattle.argument.specs.Argument.{first_coins, coins_of, chances_of}
use Rattle.argument.specs.Promise.{Sized}
use Rattle.argument.specs.Sumcheck.{Prover}
use Rattle.argument.specs.Transcript.{judged, spoken}

-- how many words the first n answers take
unfoldable pub words_of : ℕ → List Layer → ℕ → ℕ → ℕ
words_of copies [] inputs n = 0
words_of copies (l ∷ ls) inputs n =
    let v = copies + 2 * size_below ls inputs in
    cond (nat_le n v) (4 * n) (4 * v + 2 + words_of copies ls inputs (n - (v + 1)))

-- Answers as words, made out of the coins, with no look ahead: rows of coins that agree in the first coins and in the
-- next n get answers that agree in the first n + 1, those that are given before another coin falls.
abbrev pub NoLookAhead : Circuit → (List ℕ → List ℕ) → Type 0
NoLookAhead c messages =
    (n : ℕ) (coins others : List ℕ) → take (first_coins c + n) coins ≡ take (first_coins c + n) others →
    let said = words_of c.copies c.layers c.inputs (n + 1) in
    take said (messages coins) ≡ take said (messages others)

-- Claimed outputs that are not the right ones are answered 0 on at most chances_of c p-ths of all rows of coins, however
-- the answers are made out of the coins before them.
abbrev pub JudgesSoundly : List ℕ → List ℕ → List ℕ → Type 0
JudgesSoundly cs vs claimed =
    let c = circuit_of cs in
    let N = modulo modulus in
    T (is_circuit cs) → Sized modulus (2 ^ (c.copies + c.inputs)) vs →
    Sized modulus (2 ^ (c.copies + output_size c)) claimed → (claimed ≢ outputs N c vs) →
    (messages : List ℕ → List ℕ) → NoLookAhead c messages →
    count_rows N (coins_of c) (λ coins. nat_eq (judged cs vs claimed (messages coins) coins) 0) * modulus ≤
    chances_of c * modulus ^ coins_of c

-- No look ahead asked of whole rows of coins alone, so that what a prover answers along the coins has none.
abbrev pub NoLookAheadInRows : Circuit → (List ℕ → List ℕ) → Type 0
NoLookAheadInRows c messages =
    (n : ℕ) (coins others : List ℕ) → length coins ≡ coins_of c → length others ≡ coins_of c →
    take (first_coins c + n) coins ≡ take (first_coins c + n) others →
    let said = words_of c.copies c.layers c.inputs (n + 1) in
    take said (messages coins) ≡ take said (messages others)

-- The same bound of all such answers.
abbrev pub JudgesRowsSoundly : List ℕ → List ℕ → List ℕ → Type 0
JudgesRowsSoundly cs vs claimed =
    let c = circuit_of cs in
    let N = modulo modulus in
    T (is_circuit cs) → Sized modulus (2 ^ (c.copies + c.inputs)) vs →
    Sized modulus (2 ^ (c.copies + output_size c)) claimed → (claimed ≢ outputs N c vs) →
    (messages : List ℕ → List ℕ) → NoLookAheadInRows c messages →
    count_rows N (coins_of c) (λ coins. nat_eq (judged cs vs claimed (messages coins) coins) 0) * modulus ≤
    chances_of c * modulus ^ coins_of c

-- A prover each of whose answers has as many words as it should, after n coins that follow the first ones.
abbrev pub WellSized : Circuit → Prover ℕ → Type 0
WellSized c f =
    (coins : List ℕ) → first_coins c ≤ length coins → length coins < coins_of c →
    let n = length coins - first_coins c in
    let words = words_of c.copies c.layers c.inputs in
    words (n + 1) ≡ words n + length (f coins)

-- The same of what such a prover answers along the coins: it looks at no coin to come.
abbrev pub JudgesProversSoundly : List ℕ → List ℕ → List ℕ → Type 0
JudgesProversSoundly cs vs claimed =
    let c = circuit_of cs in
    let N = modulo modulus in
    T (is_circuit cs) → Sized modulus (2 ^ (c.copies + c.inputs)) vs →
    Sized modulus (2 ^ (c.copies + output_size c)) claimed → (claimed ≢ outputs N c vs) →
    (f : Prover ℕ) → WellSized c f →
    count_rows N (coins_of c) (λ coins. nat_eq (judged cs vs claimed (spoken f c coins) coins) 0) * modulus ≤
    chances_of c * modulus ^ coins_of c
