-- The house says what the honest prover answers along the coins, and with it the judge believes right outputs.
-- Both programs follow the same coins: the house takes each one into the prover, which then answers from there on.
use Rattle.std.proofs.Common.{◌≡◌, ℕ, zero, suc, ◌+◌, ◌-◌, ◌≤◌, Bool, true, cond, ltb, List, [], ◌∷◌, ◌++◌, map, length, take, drop, Some, Ok, Err, Option, sym, refl, ap, ◌∙◌, arith, take-append-drop}
use mathlib.Core.Path.{fun_ext}
use Rattle.std.proofs.lemmas.List.{append-nil, append_assoc, length_push, length-drop, length-take-le, take_at}
use Rattle.std.proofs.lemmas.Bool.{and_parts}
use Rattle.arithmetic.specs.Numbers.{all_reduced}
use Rattle.arithmetic.proofs.Truth.{path_of_T}
use Rattle.circuits.specs.Circuit.{outputs}
use Rattle.circuits.specs.Words.{modulus}
use Rattle.refusals.specs.declared.Refusal.TheVariants.{NotReduced}
use Rattle.argument.specs.Sumcheck.{Prover, after}
use Rattle.argument.specs.Argument.{first_coins, layer_coins}
use Rattle.argument.specs.Honest.{honest}
use Rattle.verdicts.specs.declared.verdict.Verdict.TheVariants.{Believed}
use Rattle.claims.specs.Meaning.{numbers as N}
use Rattle.texts.specs.Texts.{numbers_of, line_of}
use Rattle.texts.proofs.RoundTrip.{round_trip}
use Rattle.programs.specs.Judge.{Said, coin, verdict, said_text, judge_says}
use Rattle.programs.specs.House.{Uttered, answer, uttered_text, coin_heard, go_on, answering, listening, house_says}
use Rattle.programs.specs.Theorems.{ReadAs, alone, answers_in_turn, honest_answers, HouseSaysHonest, HouseConvincesJudge}
use Rattle.programs.proofs.RightTalk.{reduced_words, reduced_drop, right_outputs_are_believed}

-- a line that holds a coin is taken as that coin
coin_taken : (line : List ℕ) (r : ℕ) (go : ℕ → List Uttered) → numbers_of line ≡ Some (alone r) → ltb r modulus ≡ true →
    go_on (coin_heard (numbers_of line)) go ≡ go r
coin_taken line r go reads below =
    ap (λ (ns : Option (List ℕ)). go_on (coin_heard ns) go) reads ∙
    ap (λ (b : Bool). go_on (cond b (Ok r) (Err NotReduced)) go) below

read_drop : (n : ℕ) (lines : List (List ℕ)) (coins : List ℕ) → ReadAs lines (map alone coins) →
    ReadAs (drop n lines) (map alone (drop n coins))
read_drop zero lines coins h = h
read_drop (suc n) lines [] h = tt
read_drop (suc n) [] (r ∷ coins) h = absurd h
read_drop (suc n) (line ∷ lines) (r ∷ coins) h = read_drop n lines coins h.1

-- ---- the first coins
listening_hears :
    (n : ℕ) (go : Prover ℕ → List (List ℕ) → List Uttered) (f : Prover ℕ) (coins : List ℕ) (lines : List (List ℕ)) →
    n ≤ length coins → all_reduced N coins ≡ true → ReadAs lines (map alone coins) →
    listening n go f lines ≡ go (λ later. f (take n coins ++ later)) (drop n lines)
unfolding listening all_reduced
listening_hears zero go f coins lines l below h = refl
listening_hears (suc n) go f [] lines l below h = absurd (omega arith)
listening_hears (suc n) go f (r ∷ coins) [] l below h = absurd h
listening_hears (suc n) go f (r ∷ coins) (line ∷ lines) l below h =
    let reduced = and_parts (ltb r modulus) (all_reduced N coins) below in
    coin_taken line r (λ q. listening n go (after q f) lines) h.0 reduced.0 ∙
    listening_hears n go (after r f) coins lines (omega arith) reduced.1 h.1

-- ---- an answer before each of the others, z having been drawn
answering_honestly : (later z : List ℕ) (f : Prover ℕ) (lines : List (List ℕ)) → all_reduced N later ≡ true →
    ReadAs lines (map alone later) →
    answering (length later) (λ w. f (z ++ w)) lines ≡ map answer (answers_in_turn (length later) f (length z) (z ++ later))
unfolding answering answers_in_turn all_reduced
answering_honestly [] z f lines below h = refl
answering_honestly (r ∷ later) z f [] below h = absurd h
answering_honestly (r ∷ later) z f (line ∷ lines) below h =
    let reduced = and_parts (ltb r modulus) (all_reduced N later) below in
    let n : ℕ = length later in
    let now : f (z ++ []) ≡ f (take (length z) (z ++ (r ∷ later))) =
    ap f (append-nil z ∙ sym (take_at z (r ∷ later) (length z) refl))
    in
    let drawn : (λ w. f (z ++ (r ∷ w))) ≡ (λ w. f ((z ++ (r ∷ [])) ++ w)) =
    fun_ext (λ w. ap f (sym (append_assoc z (r ∷ []) w)))
    in
    let then : answering n (λ w. f (z ++ (r ∷ w))) lines ≡ map answer (answers_in_turn n f (length z + 1) (z ++ (r ∷ later))) =
    ap (λ (g : Prover ℕ). answering n g lines) drawn ∙
    answering_honestly later (z ++ (r ∷ [])) f lines reduced.1 h.1 ∙
    ap (λ (m : ℕ). map answer (answers_in_turn n f m ((z ++ (r ∷ [])) ++ later))) (length_push z r) ∙
    ap (λ (w : List ℕ). map answer (answers_in_turn n f (length z + 1) w)) (append_assoc z (r ∷ []) later)
    in
    ap
    (λ (said : List Uttered). answer (f (z ++ [])) ∷ said)
    (coin_taken line r (λ q. answering n (after q (λ w. f (z ++ w))) lines) h.0 reduced.0 ∙ then) ∙
    ap (λ (a : List ℕ). answer a ∷ map answer (answers_in_turn n f (length z + 1) (z ++ (r ∷ later)))) now

-- ---- a whole run of the house
pub house_says_honest : HouseSaysHonest
house_says_honest c vs coins lines sized h =
    let k : ℕ = first_coins c in
    let m : ℕ = layer_coins c.copies c.layers c.inputs in
    let f : Prover ℕ = honest N c vs in
    let z : List ℕ = take k coins in
    let later : List ℕ = drop k coins in
    let count : length coins ≡ k + m = sized.0 in
    let below : all_reduced N coins ≡ true = path_of_T (all_reduced N coins) sized.1 in
    let later-count : length later ≡ m = omega (arith, length-drop k coins) in
    let z-count : length z ≡ k = length-take-le k coins (omega arith) in
    listening_hears k (answering m) f coins lines (omega arith) below h ∙
    ap (λ (n : ℕ). answering n (λ w. f (z ++ w)) (drop k lines)) (sym later-count) ∙
    answering_honestly later z f (drop k lines) (reduced_drop k coins below) (read_drop k lines coins h) ∙
    ap (λ (n : ℕ). map answer (answers_in_turn n f (length z) (z ++ later))) (length-drop k coins) ∙
    ap (λ (n : ℕ). map answer (answers_in_turn (length coins - k) f n (z ++ later))) z-count ∙
    ap (λ (w : List ℕ). map answer (answers_in_turn (length coins - k) f k w)) (take-append-drop k coins)

-- ---- both together
coins_read : (coins : List ℕ) (after : List Said) → all_reduced N coins ≡ true →
    ReadAs (map said_text (map coin coins ++ after)) (map alone coins)
unfolding all_reduced line_of
coins_read [] after below = tt
coins_read (r ∷ coins) after below =
    let reduced = and_parts (ltb r modulus) (all_reduced N coins) below in
    ((round_trip (r ∷ []) ((reduced_words (r ∷ coins) below).0, tt)).0, coins_read coins after reduced.1)

answers_as_text : (answers : List (List ℕ)) → map uttered_text (map answer answers) ≡ map line_of answers
answers_as_text [] = refl
answers_as_text (a ∷ answers) = ap (λ (texts : List (List ℕ)). line_of a ∷ texts) (answers_as_text answers)

pub house_convinces_judge : HouseConvincesJudge
house_convinces_judge c law vs given coins sized =
    let printed : List Said = map coin coins ++ (verdict Believed ∷ []) in
    let below : all_reduced N coins ≡ true = path_of_T (all_reduced N coins) sized.1 in
    let says : house_says c vs (map said_text printed) ≡ map answer (honest_answers c vs coins) =
    house_says_honest c vs coins (map said_text printed) sized (coins_read coins (verdict Believed ∷ []) below)
    in
    let lines : map uttered_text (house_says c vs (map said_text printed)) ≡ map line_of (honest_answers c vs coins) =
    ap (map uttered_text) says ∙ answers_as_text (honest_answers c vs coins)
    in
    ap (judge_says c vs (outputs N c vs) (map Some coins)) lines ∙
    right_outputs_are_believed c law vs given coins sized
