-- With the honest answers for lines, the judge prints the coins and `believed` for right outputs.
-- The argument is accepted, so each answer fits where the verifier stands; and what fits is read as it was written.
use Rattle.std.proofs.Common.{◌≡◌, ℕ, zero, suc, ◌+◌, ◌-◌, ◌^◌, ◌<◌, ◌≤◌, Bool, true, false, cond, ◌&&◌, eqb, ltb, List, [], ◌∷◌, ◌++◌, map, length, get_or, take, drop, Some, Option, sym, refl, ap, ◌∙◌, add-zero, arith, lit<, take-append-drop}
use Rattle.std.specs.List.{AllByRecursion}
use Rattle.std.proofs.lemmas.List.{append-nil, append_assoc, map-append, length-drop, length-take-le}
use Rattle.std.proofs.lemmas.Bool.{and_parts, cond-true, cond-false, ltb-true, false≢true}
use Rattle.arithmetic.proofs.WholeMersenne.{whole31}
use Rattle.arithmetic.specs.Numbers.{all_reduced}
use Rattle.arithmetic.proofs.Truth.{path_of_T}
use Rattle.circuits.specs.Circuit.{outputs}
use Rattle.circuits.specs.Words.{modulus}
use Rattle.argument.specs.Sumcheck.{Prover, well_formed, nth}
use Rattle.argument.specs.Argument.{first_coins, layer_coins, accepts}
use Rattle.argument.specs.Honest.{honest}
use Rattle.argument.specs.Transcript.{written}
use Rattle.argument.proofs.Main.{main}
use Rattle.verdicts.specs.declared.verdict.Verdict.{Verdict}
use Rattle.verdicts.specs.declared.verdict.Verdict.TheVariants.{Believed, Stopped}
use Rattle.verdicts.specs.Machine.{is_believed, Stand, variable_due, size_under, point_c, point_x, point_y, expected_of, fits_variable, fits_values, fits, next, doubt, settled, resume, start}
use Rattle.verdicts.specs.Machine as machine
use Rattle.claims.specs.Meaning.{numbers as N}
use Rattle.verdicts.proofs.Bridge.{machine_believes}
use Rattle.texts.specs.Texts.{numbers_of, line_of}
use Rattle.texts.proofs.RoundTrip.{round_trip}
use Rattle.programs.specs.Judge.{Said, coin, verdict, refusal, drawn, at_inputs, ending, heard, talk, opening}
use Rattle.programs.specs.Theorems.{answers_in_turn, honest_answers, RightOutputsAreBelieved}
use Rattle.programs.proofs.CoinsLeft.{CoinsLeft, none_left, some_left, next_left, start_left}

-- ---- what fits is read as it was written
pub reduced_words : (ns : List ℕ) → all_reduced N ns ≡ true → AllByRecursion (λ n. n < 2 ^ 32) ns
unfolding all_reduced
reduced_words [] h = tt
reduced_words (n ∷ ns) h =
    let p = and_parts (ltb n modulus) (all_reduced N ns) h in
    let small : n < modulus = ltb-true n modulus p.0 in
    (omega arith, reduced_words ns p.1)

well_formed_reduced : (n : ℕ) (a : List ℕ) (b : Bool) → (well_formed N n a && b) ≡ true → all_reduced N a ≡ true
well_formed_reduced n a b h =
    (and_parts (eqb (length a) n) (all_reduced N a) (and_parts (well_formed N n a) b h).0).1

fits_reduced : (s : Stand ℕ) (a : List ℕ) → fits N s a ≡ true → all_reduced N a ≡ true
unfolding fits
fits_reduced s a h = go (variable_due s) h
  where
    go : (b : Bool) → cond b (fits_variable N s a) (fits_values N s a) ≡ true → all_reduced N a ≡ true
    go true e = well_formed_reduced 4 a (N.equal (N.add (nth N a 0) (nth N a 1)) s.total) e
    go false e =
        well_formed_reduced 2 a
        (N.equal
        (expected_of N s.layers (size_under s) s.claim (point_c s) (point_x s) (point_y s) (nth N a 0) (nth N a 1))
        s.total)
        e

fits_reads : (s : Stand ℕ) (a : List ℕ) → fits N s a ≡ true → numbers_of (line_of a) ≡ Some a
fits_reads s a h = (round_trip a (reduced_words a (fits_reduced s a h))).0

-- ---- from a stand on
believed_of_is_believed : (v : Verdict) → is_believed v ≡ true → v ≡ Believed
believed_of_is_believed Believed e = refl
believed_of_is_believed (Stopped layer place) e = absurd (false≢true e)

believed_step : (b : Bool) (v : Verdict) (s : Stand ℕ) → cond b v (doubt s) ≡ Believed → (b ≡ true) × (v ≡ Believed)
unfolding doubt
believed_step true v s e = (refl, e)
believed_step false v s e = absurd (false≢true (ap is_believed e))

talk_believes : (vs coins : List ℕ) (answers : List (List ℕ)) (s : Stand ℕ) → CoinsLeft s (length coins) →
    length answers ≡ length coins → all_reduced N coins ≡ true → resume N vs s answers coins ≡ Believed →
    talk vs s (map Some coins) (map line_of answers) ≡ map coin coins ++ (verdict Believed ∷ [])
unfolding talk resume all_reduced
talk_believes vs [] [] s left count below e =
    cond-true (at_inputs s.layers) (ending (settled N vs s) [] ∷ []) (verdict (doubt s) ∷ []) (none_left s left) ∙
    ap (λ (v : Verdict). ending v [] ∷ []) e
talk_believes vs [] (a ∷ answers) s left count below e = absurd (omega arith)
talk_believes vs (r ∷ coins) [] s left count below e = absurd (omega arith)
talk_believes vs (r ∷ coins) (a ∷ answers) s left count below e =
    let step = believed_step (fits N s a) (resume N vs (next N s a r) answers coins) s e in
    let reduced = and_parts (ltb r modulus) (all_reduced N coins) below in
    let later : List (List ℕ) = map line_of answers in
    let dice : List (Option ℕ) = map Some (r ∷ coins) in
    let go : List ℕ → List Said = λ answer. drawn dice (λ q rest. talk vs (next N s answer q) rest later) in
    cond-false (at_inputs s.layers) (ending (settled N vs s) dice ∷ []) (heard s (numbers_of (line_of a)) go)
    (some_left s (length coins) left) ∙
    ap (λ (ns : Option (List ℕ)). heard s ns go) (fits_reads s a step.0) ∙
    cond-true (fits N s a) (go a) (verdict (doubt s) ∷ []) step.0 ∙
    cond-true (ltb r modulus) (coin r ∷ talk vs (next N s a r) (map Some coins) later) (refusal 3 ∷ []) reduced.0 ∙
    ap (λ (said : List Said). coin r ∷ said)
    (talk_believes vs coins answers (next N s a r) (next_left N s (length coins) a r left) (omega arith) reduced.1
    step.1)

-- ---- the first coins
opening_draws : (n : ℕ) (z coins : List ℕ) (go : List ℕ → List (Option ℕ) → List Said) → n ≤ length coins →
    all_reduced N coins ≡ true →
    opening n z (map Some coins) go ≡ map coin (take n coins) ++ go (z ++ take n coins) (map Some (drop n coins))
unfolding opening all_reduced
opening_draws zero z coins go l below = ap (λ (w : List ℕ). go w (map Some coins)) (sym (append-nil z))
opening_draws (suc n) z [] go l below = absurd (omega arith)
opening_draws (suc n) z (r ∷ coins) go l below =
    let reduced = and_parts (ltb r modulus) (all_reduced N coins) below in
    cond-true (ltb r modulus) (coin r ∷ opening n (z ++ (r ∷ [])) (map Some coins) go) (refusal 3 ∷ []) reduced.0 ∙
    ap (λ (said : List Said). coin r ∷ said)
    (opening_draws n (z ++ (r ∷ [])) coins go (omega arith) reduced.1 ∙
    ap (λ (w : List ℕ). map coin (take n coins) ++ go w (map Some (drop n coins)))
    (append_assoc z (r ∷ []) (take n coins)))

pub reduced_drop : (n : ℕ) (xs : List ℕ) → all_reduced N xs ≡ true → all_reduced N (drop n xs) ≡ true
unfolding all_reduced
reduced_drop zero xs h = h
reduced_drop (suc n) [] h = h
reduced_drop (suc n) (x ∷ xs) h = reduced_drop n xs (and_parts (ltb x modulus) (all_reduced N xs) h).1

-- ---- the answers in turn
in_turn_count : (m : ℕ) (f : Prover ℕ) (n : ℕ) (coins : List ℕ) → length (answers_in_turn m f n coins) ≡ m
unfolding answers_in_turn
in_turn_count zero f n coins = refl
in_turn_count (suc m) f n coins = ap suc (in_turn_count m f (n + 1) coins)

in_turn_at : (m : ℕ) (f : Prover ℕ) (n : ℕ) (coins : List ℕ) (i : ℕ) → i < m →
    get_or (answers_in_turn m f n coins) i [] ≡ f (take (n + i) coins)
unfolding answers_in_turn
in_turn_at zero f n coins i l = absurd (omega arith)
in_turn_at (suc m) f n coins zero l = ap (λ (j : ℕ). f (take j coins)) (sym (add-zero n))
in_turn_at (suc m) f n coins (suc i) l =
    let shifted : n + 1 + i ≡ n + suc i = omega arith in
    in_turn_at m f (n + 1) coins i (omega arith) ∙ ap (λ (j : ℕ). f (take j coins)) shifted

-- written down, they are what the prover says
written_in_turn : (f : Prover ℕ) (k : ℕ) (coins : List ℕ) (n : ℕ) → k ≤ n → n < length coins →
    written k (answers_in_turn (length coins - k) f k coins) (take n coins) ≡ f (take n coins)
written_in_turn f k coins n low high =
    let answers : List (List ℕ) = answers_in_turn (length coins - k) f k coins in
    let there : k + (n - k) ≡ n = omega arith in
    ap (λ (j : ℕ). get_or answers (j - k) []) (length-take-le n coins (omega arith)) ∙
    in_turn_at (length coins - k) f k coins (n - k) (omega arith) ∙ ap (λ (j : ℕ). f (take j coins)) there

-- ---- a whole run
pub right_outputs_are_believed : RightOutputsAreBelieved
right_outputs_are_believed c law vs given coins sized =
    let k : ℕ = first_coins c in
    let n : ℕ = layer_coins c.copies c.layers c.inputs in
    let f : Prover ℕ = honest N c vs in
    let claimed : List ℕ = outputs N c vs in
    let answers : List (List ℕ) = honest_answers c vs coins in
    let count : length coins ≡ k + n = sized.0 in
    let below : all_reduced N coins ≡ true = path_of_T (all_reduced N coins) sized.1 in
    let later-count : length (drop k coins) ≡ n = omega (arith, length-drop k coins) in
    let answer-count : length answers ≡ length (drop k coins) =
    omega (arith, in_turn_count (length coins - k) f k coins)
    in
    let accepted : accepts N c vs claimed (written k answers) coins ≡ true =
    main.1.1 modulus c vs claimed (written k answers) f coins (λ m low high. written_in_turn f k coins m low high) ∙
    path_of_T (accepts N c vs claimed f coins) (main.0 modulus whole31 (lit< tt) c law vs given coins sized)
    in
    let sure : machine.verdict N c vs claimed answers coins ≡ Believed =
    believed_of_is_believed (machine.verdict N c vs claimed answers coins)
    (machine_believes modulus c vs claimed answers coins count ∙ accepted)
    in
    let stand : Stand ℕ = start N c claimed (take k coins) in
    let left : CoinsLeft stand (length (drop k coins)) = rw later-count (start_left N c claimed (take k coins)) in
    let go : List ℕ → List (Option ℕ) → List Said = λ z rest. talk vs (start N c claimed z) rest (map line_of answers) in
    let end : List Said = verdict Believed ∷ [] in
    opening_draws k [] coins go (omega arith) below ∙
    ap (λ (said : List Said). map coin (take k coins) ++ said)
    (talk_believes vs (drop k coins) answers stand left answer-count (reduced_drop k coins below) sure) ∙
    sym (append_assoc (map coin (take k coins)) (map coin (drop k coins)) end) ∙
    ap (λ (said : List Said). said ++ end) (sym (map-append coin (take k coins) (drop k coins))) ∙
    ap (λ (w : List ℕ). map coin w ++ end) (take-append-drop k coins)
