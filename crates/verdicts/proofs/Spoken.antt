-- What a prover answers along the coins looks at no coin to come, where its answers are as long as they should be.
-- The first answers are a front of all, whose length is known, and each of them is made out of the coins before it.
use Rattle.std.proofs.Common.{◌≡◌, ℕ, zero, suc, ◌+◌, ◌-◌, ◌*◌, ◌<◌, ◌≤◌, leb, List, [], ◌∷◌, ◌++◌, length, take, drop, sym, refl, ap, ◌∙◌, ap₂, append_assoc, add-zero, suc-add, zero-add, arith, length-append}
use native.Mathlib.Decide.{dec_lt}
use Rattle.std.proofs.lemmas.List.{take_all, take_at, take-take, length-take-le}
use Rattle.std.proofs.lemmas.Bool.{le-leb, cond-true}
use Rattle.circuits.specs.Circuit.{Layer, Circuit, size_below}
use Rattle.argument.specs.Sumcheck.{Prover}
use Rattle.argument.specs.Argument.{first_coins, coins_of}
use Rattle.argument.specs.Transcript.{fours, answers_along, spoken}
use Rattle.verdicts.specs.Soundness.{words_of, NoLookAheadInRows, WellSized}

pub fours-length : (n : ℕ) (ws : List ℕ) → length (fours n ws) ≡ n
unfolding fours
fours-length zero ws = refl
fours-length (suc n) ws = ap suc (fours-length n (drop 4 ws))

pub along_append :
    (g : Prover ℕ) (coins : List ℕ) (v m n : ℕ) →
    answers_along (v + m) g n coins ≡ answers_along v g n coins ++ answers_along m g (n + v) coins
unfolding answers_along
along_append g coins zero m n =
    ap (λ (k : ℕ). answers_along k g n coins) (zero-add m) ∙ ap (λ (k : ℕ). answers_along m g k coins) (sym (add-zero n))
along_append g coins (suc v) m n =
    let place : n + 1 + v ≡ n + suc v = omega arith in
    ap (λ (k : ℕ). answers_along k g n coins) (suc-add v m) ∙
    ap (λ (l : List ℕ). g (take n coins) ++ l)
    (along_append g coins v m (n + 1) ∙ ap (λ (k : ℕ). answers_along v g (n + 1) coins ++ answers_along m g k coins) place) ∙
    sym (append_assoc (g (take n coins)) (answers_along v g (n + 1) coins) (answers_along m g (n + suc v) coins))

-- rows that agree in the first m coins get the same answers up to the one that m coins come before
along_agrees :
    (g : Prover ℕ) (coins others : List ℕ) (m : ℕ) → take m coins ≡ take m others → (j n : ℕ) → n + j ≤ m + 1 →
    answers_along j g n coins ≡ answers_along j g n others
unfolding answers_along
along_agrees g coins others m e zero n h = refl
along_agrees g coins others m e (suc j) n h =
    let fewer : take n coins ≡ take n others =
    sym (take-take n m coins (omega arith)) ∙ ap (take n) e ∙ take-take n m others (omega arith)
    in
    ap₂ {C = List ℕ} (λ (a b : List ℕ). a ++ b) (ap g fewer) (along_agrees g coins others m e j (n + 1) (omega arith))

-- how long the j answers are that come after the first i, words being the length of so many answers
along_length :
    (g : Prover ℕ) (coins : List ℕ) (words : ℕ → ℕ) (k total : ℕ) →
    ((t : ℕ) → t < total → words (t + 1) ≡ words t + length (g (take (k + t) coins))) →
    (j i : ℕ) → i + j ≤ total → words i + length (answers_along j g (k + i) coins) ≡ words (i + j)
unfolding answers_along
along_length g coins words k total sized zero i h = add-zero (words i) ∙ ap words (sym (add-zero i))
along_length g coins words k total sized (suc j) i h =
    let here = sized i (omega arith) in
    let rest = along_length g coins words k total sized j (i + 1) (omega arith) in
    let place : k + i + 1 ≡ k + (i + 1) = omega arith in
    let shifted : answers_along j g (k + i + 1) coins ≡ answers_along j g (k + (i + 1)) coins =
    ap (λ (n : ℕ). answers_along j g n coins) place
    in
    let joined = length-append (g (take (k + i) coins)) (answers_along j g (k + i + 1) coins) in
    let end : words (i + 1 + j) ≡ words (i + suc j) = ap words (let e : i + 1 + j ≡ i + suc j = omega arith in e) in
    let lengths : length (answers_along j g (k + i + 1) coins) ≡ length (answers_along j g (k + (i + 1)) coins) = ap length shifted in
    omega (arith, here, rest, joined, end, lengths)

words_none : (copies : ℕ) (ls : List Layer) (inputs : ℕ) → words_of copies ls inputs 0 ≡ 0
unfolding words_of
words_none copies [] inputs = refl
words_none copies (l ∷ ls) inputs =
    let v = copies + 2 * size_below ls inputs in
    cond-true (leb 0 v) (4 * 0) (4 * v + 2 + words_of copies ls inputs (0 - (v + 1))) (le-leb 0 v (omega arith))

pub spoken_blind : (c : Circuit) (f : Prover ℕ) → WellSized c f → NoLookAheadInRows c (spoken f c)
spoken_blind c f sized n coins others lc lo same = go (dec_lt n total)
  where
    k : ℕ
    k = first_coins c

    total : ℕ
    total = coins_of c - k

    words : ℕ → ℕ
    words = words_of c.copies c.layers c.inputs

    -- each answer along a whole row
    along : (xs : List ℕ) → length xs ≡ coins_of c → (t : ℕ) → t < total → words (t + 1) ≡ words t + length (f (take (k + t) xs))
    along xs lx t h =
        let long : length (take (k + t) xs) ≡ k + t = length-take-le (k + t) xs (omega arith) in
        let count : length (take (k + t) xs) - k ≡ t = omega arith in
        ap (λ (i : ℕ). words (i + 1)) (sym count) ∙ sized (take (k + t) xs) (omega arith) (omega arith) ∙
        ap (λ (i : ℕ). words i + length (f (take (k + t) xs))) count

    front : (xs : List ℕ) → length xs ≡ coins_of c → n < total → take (words (n + 1)) (spoken f c xs) ≡ answers_along (n + 1) f k xs
    front xs lx h =
        let rest : ℕ = total - (n + 1) in
        let count : length xs - k ≡ n + 1 + rest = omega arith in
        let zero_is : words 0 ≡ 0 = words_none c.copies c.layers c.inputs in
        let start : answers_along (n + 1) f (k + 0) xs ≡ answers_along (n + 1) f k xs =
        ap (λ (i : ℕ). answers_along (n + 1) f i xs) (add-zero k)
        in
        let from : words 0 + length (answers_along (n + 1) f (k + 0) xs) ≡ words (0 + (n + 1)) =
        along_length f xs words k total (along xs lx) (n + 1) 0 (omega arith)
        in
        let upto : words (0 + (n + 1)) ≡ words (n + 1) = ap words (zero-add (n + 1)) in
        let long : length (answers_along (n + 1) f k xs) ≡ words (n + 1) = omega (arith, ap length start, from, upto, zero_is) in
        ap (λ (i : ℕ). take (words (n + 1)) (answers_along i f k xs)) count ∙
        ap (take (words (n + 1))) (along_append f xs (n + 1) rest k) ∙
        take_at (answers_along (n + 1) f k xs) (answers_along rest f (k + (n + 1)) xs) (words (n + 1)) long

    go : Dec (n < total) → take (words (n + 1)) (spoken f c coins) ≡ take (words (n + 1)) (spoken f c others)
    go (yes h) =
        front coins lc h ∙ along_agrees f coins others (k + n) same (n + 1) k (omega arith) ∙ sym (front others lo h)
    go (no h) =
        let whole : coins ≡ others =
        sym (take_all (k + n) coins (omega arith)) ∙ same ∙ take_all (k + n) others (omega arith)
        in
        ap (λ (xs : List ℕ). take (words (n + 1)) (spoken f c xs)) whole
