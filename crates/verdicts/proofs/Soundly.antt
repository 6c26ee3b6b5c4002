-- Judging is sound: words made with no look ahead are what some prover answers, and for provers it is proved already.
-- The prover cuts its answer out of the words made from the coins so far and zeros, which have that answer's words already.
use Rattle.std.proofs.Common.{◌≡◌, ℕ, zero, suc, ◌+◌, ◌-◌, ◌*◌, ◌^◌, ◌<◌, ◌≤◌, Bool, true, false, cond, not, ◌&&◌, T, eqb, leb, ◌⊎◌, List, [], ◌∷◌, ◌++◌, length, get_or, take, drop, replicate, sym, refl, ap, ◌∙◌, subst, inl, inr, le_trans, le_of_eq, mul-le-mul_right, arith, lit<, length-append}
use lib.ListN.{length-replicate}
use Rattle.std.proofs.lemmas.List.{take-take, take_at, drop-take, drop-drop, length-take-le, get_or_append_left, get_or-append_right, get_or_at}
use Rattle.std.proofs.lemmas.Bool.{le-leb, lt-leb, cond-true, cond-false, cases_order}
use Rattle.arithmetic.proofs.WholeMersenne.{whole31}
use Rattle.arithmetic.specs.Numbers.{modulo, all_reduced}
use Rattle.arithmetic.specs.Counting.{indicator}
use Rattle.arithmetic.proofs.Counting.{row_length, sum_rows-le}
use Rattle.arithmetic.proofs.Truth.{and_right}
use Rattle.circuits.specs.Circuit.{Layer, Circuit, size_below, output_size, lawful}
use Rattle.circuits.specs.Words.{modulus, word, circuit_of, shaped, is_circuit}
use Rattle.argument.specs.Sumcheck.{Prover}
use Rattle.argument.specs.Argument.{first_coins, coins_of, accepts}
use Rattle.argument.specs.Transcript.{fours, answers_of, answer_words, prover_of, spoken, judged}
use Rattle.argument.proofs.Main.{main}
use Rattle.verdicts.specs.Soundness.{words_of, NoLookAheadInRows, JudgesSoundly, JudgesRowsSoundly, JudgesProversSoundly}
use Rattle.verdicts.proofs.Spoken.{fours-length, spoken_blind}

fours_at : (n : ℕ) (ws : List ℕ) (j : ℕ) → j < n → get_or (fours n ws) j [] ≡ take 4 (drop (4 * j) ws)
unfolding fours
fours_at zero ws j h = absurd (omega arith)
fours_at (suc n) ws zero h = refl
fours_at (suc n) ws (suc j) h =
    fours_at n (drop 4 ws) j (omega arith) ∙
    ap (take 4) (drop-drop (4 * j) 4 ws ∙ ap (λ (m : ℕ). drop m ws) (let e : 4 + 4 * j ≡ 4 * suc j = omega arith in e))

-- words that agree up to some place agree on each part before it
part_agrees :
    (w start size : ℕ) (ws us : List ℕ) → start + size ≤ w → take w ws ≡ take w us →
    take size (drop start ws) ≡ take size (drop start us)
part_agrees w start size ws us h e =
    sym (drop-take start size ws) ∙ ap (drop start) (sym (take-take (start + size) w ws h)) ∙
    ap (λ (xs : List ℕ). drop start (take (start + size) xs)) e ∙ ap (drop start) (take-take (start + size) w us h) ∙
    drop-take start size us

-- the j-th answer is cut out of the words of the first j + 1 answers
answer_agrees :
    (copies inputs : ℕ) (ls : List Layer) (ws us : List ℕ) (j : ℕ) →
    take (words_of copies ls inputs (j + 1)) ws ≡ take (words_of copies ls inputs (j + 1)) us →
    get_or (answers_of copies ls inputs ws) j [] ≡ get_or (answers_of copies ls inputs us) j []
unfolding answers_of words_of
answer_agrees copies inputs [] ws us j e = refl
answer_agrees copies inputs (l ∷ ls) ws us j e =
    by_order (cases_order j v) (λ h. answer_agrees copies inputs ls (drop (4 * v + 2) ws) (drop (4 * v + 2) us) (j - (v + 1)) h)
  where
    v : ℕ
    v = copies + 2 * size_below ls inputs

    w : ℕ
    w = cond (leb (j + 1) v) (4 * (j + 1)) (4 * v + 2 + words_of copies ls inputs (j + 1 - (v + 1)))

    rest : List ℕ → List (List ℕ)
    rest xs = take 2 (drop (4 * v) xs) ∷ answers_of copies ls inputs (drop (4 * v + 2) xs)

    early : (xs : List ℕ) → j < v → get_or (fours v xs ++ rest xs) j [] ≡ take 4 (drop (4 * j) xs)
    early xs h =
        let h' : j < length (fours v xs) = omega (arith, fours-length v xs) in
        get_or_append_left (fours v xs) (rest xs) [] j h' ∙ fours_at v xs j h

    late : (xs : List ℕ) → v < j → get_or (fours v xs ++ rest xs) j [] ≡ get_or (answers_of copies ls inputs (drop (4 * v + 2) xs)) (j - (v + 1)) []
    late xs h =
        get_or-append_right (fours v xs) (rest xs) v j [] (fours-length v xs) (omega arith) ∙
        ap (λ (n : ℕ). get_or (rest xs) n []) (let e : j - v ≡ suc (j - (v + 1)) = omega arith in e)

    w-early : j < v → w ≡ 4 * (j + 1)
    w-early h = cond-true (leb (j + 1) v) (4 * (j + 1)) _ (le-leb (j + 1) v (omega arith))

    w-late : v ≤ j → w ≡ 4 * v + 2 + words_of copies ls inputs (j + 1 - (v + 1))
    w-late h = cond-false (leb (j + 1) v) (4 * (j + 1)) _ (lt-leb (j + 1) v (omega arith))

    by_order :
        (j ≡ v) ⊎ ((j < v) ⊎ (v < j)) →
        (take (words_of copies ls inputs (j - (v + 1) + 1)) (drop (4 * v + 2) ws) ≡
        take (words_of copies ls inputs (j - (v + 1) + 1)) (drop (4 * v + 2) us) →
        get_or (answers_of copies ls inputs (drop (4 * v + 2) ws)) (j - (v + 1)) [] ≡
        get_or (answers_of copies ls inputs (drop (4 * v + 2) us)) (j - (v + 1)) []) →
        get_or (fours v ws ++ rest ws) j [] ≡ get_or (fours v us ++ rest us) j []
    by_order (inl e') below =
        let long : 4 * v + 2 ≤ w = subst (λ n. 4 * v + 2 ≤ n) (sym (w-late (omega arith))) (omega arith) in
        get_or_at (fours v ws) (take 2 (drop (4 * v) ws)) _ [] j (fours-length v ws ∙ sym e') ∙ part_agrees w (4 * v) 2 ws us long e ∙
        sym (get_or_at (fours v us) (take 2 (drop (4 * v) us)) _ [] j (fours-length v us ∙ sym e'))
    by_order (inr (inl h)) below =
        let long : 4 * j + 4 ≤ w = subst (λ n. 4 * j + 4 ≤ n) (sym (w-early h)) (omega arith) in
        early ws h ∙ part_agrees w (4 * j) 4 ws us long e ∙ sym (early us h)
    by_order (inr (inr h)) below =
        let m = j - (v + 1) in
        let more = words_of copies ls inputs (m + 1) in
        let count : j + 1 - (v + 1) ≡ m + 1 = omega arith in
        let long : 4 * v + 2 + more ≤ w =
        subst (λ n. 4 * v + 2 + more ≤ n) (sym (w-late (omega arith)))
        (le_of_eq (ap (λ n. 4 * v + 2 + words_of copies ls inputs n) (sym count)))
        in
        late ws h ∙ below (part_agrees w (4 * v + 2) more ws us long e) ∙ sym (late us h)

-- the two tests of the call before the argument itself
abbrev counts_right : List ℕ → List ℕ → List ℕ → List ℕ → List ℕ → Bool
counts_right cs vs claimed answers coins =
    let c = circuit_of cs in
    eqb (length vs) (2 ^ (c.copies + c.inputs)) &&
    (eqb (length claimed) (2 ^ (c.copies + output_size c)) &&
    (eqb (length answers) (answer_words c) && eqb (length coins) (coins_of c)))

abbrev lists_reduced : List ℕ → List ℕ → List ℕ → List ℕ → Bool
lists_reduced vs claimed answers coins =
    let N = modulo modulus in
    all_reduced N vs && (all_reduced N claimed && (all_reduced N answers && all_reduced N coins))

-- what the call answers 0 is accepted
zero_accepted :
    (b₁ b₂ b₃ b₄ : Bool) →
    T (eqb (cond (not b₁) 1 (cond (not b₂) 2 (cond (not b₃) 3 (cond b₄ 0 4)))) 0) → b₄ ≡ true
zero_accepted true true true true h = refl
zero_accepted true true true false h = absurd h
zero_accepted true true false b₄ h = absurd h
zero_accepted true false b₃ b₄ h = absurd h
zero_accepted false b₂ b₃ b₄ h = absurd h

indicator_implies : (a b : Bool) → (T a → b ≡ true) → indicator a ≤ indicator b
indicator_implies true b h = rw (h tt) (omega arith)
indicator_implies false b h = omega arith

last_of_seven : (a b c d e f g : Bool) → T (a && (b && (c && (d && (e && (f && g)))))) → T g
last_of_seven a b c d e f g h =
    and_right f g
    (and_right e (f && g)
    (and_right d (e && (f && g))
    (and_right c (d && (e && (f && g)))
    (and_right b (c && (d && (e && (f && g)))) (and_right a (b && (c && (d && (e && (f && g))))) h)))))

circuit_lawful : (cs : List ℕ) → T (is_circuit cs) → T (lawful (circuit_of cs))
circuit_lawful cs h =
    last_of_seven (leb 3 (length cs)) (leb (length cs) (2 ^ 19)) (leb (word cs 0 + word cs 1) 16) (leb 1 (word cs 2))
    (leb (word cs 2) 32) (shaped (word cs 0) (word cs 2) (drop 3 cs)) (lawful (circuit_of cs)) h

-- the coins so far, and zeros for those to come
padded : Circuit → List ℕ → List ℕ
padded c coins = coins ++ replicate (coins_of c - length coins) 0

padded_length : (c : Circuit) (coins : List ℕ) → length coins ≤ coins_of c → length (padded c coins) ≡ coins_of c
unfolding padded
padded_length c coins h =
    length-append coins (replicate (coins_of c - length coins) 0) ∙
    ap (λ (n : ℕ). length coins + n) (length-replicate (coins_of c - length coins) 0) ∙ omega arith

-- the prover that the words are what is said by
cutting : Circuit → (List ℕ → List ℕ) → Prover ℕ
cutting c messages coins = prover_of c (messages (padded c coins)) coins

cutting_agrees :
    (c : Circuit) (messages : List ℕ → List ℕ) → NoLookAheadInRows c messages → (coins : List ℕ) → length coins ≡ coins_of c →
    (n : ℕ) → first_coins c ≤ n → n < length coins →
    cutting c messages (take n coins) ≡ prover_of c (messages coins) (take n coins)
unfolding cutting padded
cutting_agrees c messages blind coins whole n h l =
    let m = n - first_coins c in
    let row = padded c (take n coins) in
    let long : length (take n coins) ≡ n = length-take-le n coins (omega arith) in
    let place : first_coins c + m ≡ n = omega arith in
    let same : take (first_coins c + m) row ≡ take (first_coins c + m) coins =
    ap (λ (i : ℕ). take i row) place ∙ take_at (take n coins) (replicate (coins_of c - length (take n coins)) 0) n long ∙
    ap (λ (i : ℕ). take i coins) (sym place)
    in
    ap (λ (i : ℕ). get_or (answers_of c.copies c.layers c.inputs (messages row)) (i - first_coins c) []) long ∙
    answer_agrees c.copies c.inputs c.layers (messages row) (messages coins) m
    (blind m row coins (padded_length c (take n coins) (omega arith)) whole same) ∙
    sym (ap (λ (i : ℕ). get_or (answers_of c.copies c.layers c.inputs (messages coins)) (i - first_coins c) []) long)

pub judges_rows_soundly : (cs vs claimed : List ℕ) → JudgesRowsSoundly cs vs claimed
judges_rows_soundly cs vs claimed lawful-words given stated wrong messages blind =
    let c = circuit_of cs in
    let N = modulo modulus in
    let f = cutting c messages in
    let accepted : (coins : List ℕ) → length coins ≡ coins_of c → T (eqb (judged cs vs claimed (messages coins) coins) 0) → accepts N c vs claimed f coins ≡ true =
    λ coins whole h.
    main.1.1 modulus c vs claimed f (prover_of c (messages coins)) coins
    (λ n first below. cutting_agrees c messages blind coins whole n first below) ∙
    zero_accepted (is_circuit cs) (counts_right cs vs claimed (messages coins) coins)
    (lists_reduced vs claimed (messages coins) coins) (accepts N c vs claimed (prover_of c (messages coins)) coins) h
    in
    le_trans
    (mul-le-mul_right modulus
    (sum_rows-le N (coins_of c) _ _
    (λ coins r.
    indicator_implies (eqb (judged cs vs claimed (messages coins) coins) 0) (accepts N c vs claimed f coins)
    (accepted coins (row_length N (coins_of c) coins r)))))
    (main.1.0 modulus whole31 (lit< tt) c (circuit_lawful cs lawful-words) vs given claimed stated wrong f)

pub judges_soundly : (cs vs claimed : List ℕ) → JudgesSoundly cs vs claimed
judges_soundly cs vs claimed lawful-words given stated wrong messages blind =
    judges_rows_soundly cs vs claimed lawful-words given stated wrong messages (λ n coins others lc lo same. blind n coins others same)

pub judges_provers_soundly : (cs vs claimed : List ℕ) → JudgesProversSoundly cs vs claimed
judges_provers_soundly cs vs claimed lawful-words given stated wrong f sized =
    judges_rows_soundly cs vs claimed lawful-words given stated wrong (spoken f (circuit_of cs)) (spoken_blind (circuit_of cs) f sized)
