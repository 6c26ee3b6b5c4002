-- Answers and coins as words that lie side by side, and what judging and proving answer, for p = 2^31 - 1.
-- For each layer an answer of four words for each variable, and then one of two; a coin after each answer.
use Rattle.std.specs.Prelude.{ℕ, zero, suc, ◌+◌, ◌-◌, ◌*◌, ◌^◌, cond, not, ◌&&◌, List, [], ◌∷◌, ◌++◌, length, take, drop, ◌==◌, slice_index_or}
use Rattle.arithmetic.specs.Numbers.{modulo, all_reduced}
use Rattle.circuits.specs.Circuit.{Layer, Circuit, size_below, output_size}
use Rattle.circuits.specs.Words.{modulus, circuit_of, is_circuit}
use Rattle.argument.specs.Sumcheck.{Prover}
use Rattle.argument.specs.Argument.{first_coins, coins_of, accepts}

-- ---- answers
unfoldable pub fours : ℕ → List ℕ → List (List ℕ)
fours zero ws = []
fours (suc n) ws = take 4 ws ∷ fours n (drop 4 ws)

unfoldable pub answers_of : ℕ → List Layer → ℕ → List ℕ → List (List ℕ)
answers_of copies [] inputs ws = []
answers_of copies (l ∷ ls) inputs ws =
    let v = copies + 2 * size_below ls inputs in
    fours v ws ++ (take 2 (drop (4 * v) ws) ∷ answers_of copies ls inputs (drop (4 * v + 2) ws))

-- how many words the answers take
unfoldable pub layer_words : ℕ → List Layer → ℕ → ℕ
layer_words copies [] inputs = 0
layer_words copies (l ∷ ls) inputs = (4 * (copies + 2 * size_below ls inputs) + 2) + layer_words copies ls inputs

abbrev pub answer_words : Circuit → ℕ
answer_words c = layer_words c.copies c.layers c.inputs

-- the prover that gives these answers in turn, the first of them after k coins, whatever the coins are
abbrev pub written : ℕ → List (List ℕ) → Prover ℕ
written k answers coins = slice_index_or answers (length coins - k) []

abbrev pub prover_of : Circuit → List ℕ → Prover ℕ
prover_of c ws = written (first_coins c) (answers_of c.copies c.layers c.inputs ws)

-- what a prover answers along these coins, one answer before each coin after the first n
unfoldable pub answers_along : ℕ → Prover ℕ → ℕ → List ℕ → List ℕ
answers_along zero f n coins = []
answers_along (suc m) f n coins = f (take n coins) ++ answers_along m f (n + 1) coins

abbrev pub spoken : Prover ℕ → Circuit → List ℕ → List ℕ
spoken f c coins = answers_along (length coins - first_coins c) f (first_coins c) coins

-- ---- the calls: the first number that applies
-- 1 no circuit; 2 not as many inputs, outputs, words of answers or coins as it takes; 3 a number of p or more; 4 not believed
abbrev pub judged : List ℕ → List ℕ → List ℕ → List ℕ → List ℕ → ℕ
judged cs vs claimed answers coins =
    let c = circuit_of cs in
    let N = modulo modulus in
    cond (not (is_circuit cs)) 1
    (cond
    (not
    (length vs == 2 ^ (c.copies + c.inputs) &&
    (length claimed == 2 ^ (c.copies + output_size c) &&
    (length answers == answer_words c && length coins == coins_of c))))
    2
    (cond (not (all_reduced N vs && (all_reduced N claimed && (all_reduced N answers && all_reduced N coins)))) 3
    (cond (accepts N c vs claimed (prover_of c answers) coins) 0 4)))

-- room: for the answers; work: memory to work in
abbrev pub prove_verdict : List ℕ → List ℕ → List ℕ → ℕ → ℕ → ℕ
prove_verdict cs vs coins room work =
    let c = circuit_of cs in
    let N = modulo modulus in
    cond (not (is_circuit cs)) 1
    (cond
    (not
    (length vs == 2 ^ (c.copies + c.inputs) &&
    (room == answer_words c && (length coins == coins_of c && work == 2 ^ 18))))
    2
    (cond (not (all_reduced N vs && all_reduced N coins)) 3 0))
