-- The answers along coins, one more with each coin, and what the prover still has to say.
-- Where the coins end, so do the words of the room.
use Rattle.std.proofs.Common.{◌≡◌, ℕ, zero, suc, ◌+◌, ◌<◌, Bool, cond, T, List, [], ◌∷◌, ◌++◌, length, get_or, take, sym, refl, ap, ◌∙◌, subst, ap₂, append_assoc, append-nil, add-zero, zero-add, arith}
use Rattle.std.proofs.lemmas.List.{take_more, take_all, get_or_append_left}
use Rattle.std.proofs.lemmas.Bool.{le-ltb}
use Rattle.arithmetic.specs.Numbers.{modulo, all_reduced}
use Rattle.argument.specs.Sumcheck.{Prover}
use Rattle.argument.specs.Argument.{layer_coins}
use Rattle.argument.specs.Transcript.{answers_along, layer_words}
use Rattle.circuits.specs.Circuit.{Layer}
use Rattle.circuits.specs.Views.{layers_seen, inputs_below}
use Rattle.circuits.specs.Words.{modulus}
use Rattle.tables.proofs.ReducedLists.{reduced_append}
use Rattle.prover.specs.Provers.{Heard, speaks, coins_left, words_left, answer_length, copies_of, variables_of, history}
use Rattle.prover.specs.declared.prover.HonestProver.{HonestProver}

along_more : (m : ℕ) (f : Prover ℕ) (n : ℕ) (coins : List ℕ) → answers_along (m + 1) f n coins ≡ answers_along m f n coins ++ f (take (n + m) coins)
unfolding answers_along
along_more zero f n coins =
    append-nil (f (take n coins)) ∙ ap (λ (k : ℕ). f (take k coins)) (sym (add-zero n))
along_more (suc m) f n coins =
    let here : suc m + 1 ≡ suc (m + 1) = omega arith in
    let place : n + 1 + m ≡ n + suc m = omega arith in
    ap (λ (k : ℕ). answers_along k f n coins) here
    ∙ ap (λ (l : List ℕ). f (take n coins) ++ l) (along_more m f (n + 1) coins ∙ ap (λ (k : ℕ). answers_along m f (n + 1) coins ++ f (take k coins)) place)
    ∙ sym (append_assoc (f (take n coins)) (answers_along m f (n + 1) coins) (f (take (n + suc m) coins)))

-- after i coins: the prover goes on from there, and the first `at` words of the room are the answers so far
pub record Spoken (first : HonestProver) (coins : List ℕ) (i : ℕ) (t : HonestProver) (room : List ℕ) (at : ℕ) : Type 0 where
  pub says : (later : List ℕ) → speaks t later ≡ speaks first (take i coins ++ later)
  pub coins_to_come : coins_left t + i ≡ length coins
  pub words_to_come : at + words_left t ≡ length room
  pub words : take at room ≡ answers_along i (speaks first) 0 coins
  pub reduced : T (all_reduced (modulo modulus) (take at room))

pub spoken_none : (t : HonestProver) (coins room : List ℕ) → length coins ≡ coins_left t → length room ≡ words_left t → Spoken t coins 0 t room 0
unfolding answers_along all_reduced
spoken_none t coins room ec ew =
    record { says = λ later. refl; coins_to_come = omega arith; words_to_come = omega arith; words = refl; reduced = tt }

-- one answer more
module _ (first : HonestProver) (coins : List ℕ) (i : ℕ) (t : HonestProver) (room room' : List ℕ) (at at' : ℕ) (answer : List ℕ)
    (s : Spoken first coins i t room at) (is : answer ≡ speaks t []) (r : T (all_reduced (modulo modulus) answer))
    (place : at' ≡ at + length answer) (words : take at' room' ≡ take at room ++ answer) where
  pub more_words : take at' room' ≡ answers_along (i + 1) (speaks first) 0 coins
  more_words =
      words
      ∙ ap₂ {C = List ℕ} (λ (a b : List ℕ). a ++ b) s.words
      (is ∙ s.says [] ∙ ap (speaks first) (append-nil (take i coins)) ∙ ap (λ (k : ℕ). speaks first (take k coins)) (sym (zero-add i)))
      ∙ sym (along_more i (speaks first) 0 coins)

  pub more_reduced : T (all_reduced (modulo modulus) (take at' room'))
  more_reduced = subst (λ (l : List ℕ). T (all_reduced (modulo modulus) l)) (sym words) (reduced_append modulus (take at room) answer s.reduced r)

  pub spoken_more : (u : HonestProver) → Heard (get_or coins i 0) t u → length answer ≡ answer_length t → length room' ≡ length room → i < length coins →
      Spoken first coins (i + 1) u room' at'
  spoken_more u heard size same inside =
      record {
        says = λ later.
            heard.says later ∙ s.says (get_or coins i 0 ∷ later)
            ∙ ap (speaks first) (sym (ap (λ (d : List ℕ). d ++ later) (take_more coins i 0 inside) ∙ append_assoc (take i coins) (get_or coins i 0 ∷ []) later));
        coins_to_come = omega (arith, heard.coins, s.coins_to_come);
        words_to_come = omega (arith, heard.words, s.words_to_come);
        words = more_words;
        reduced = more_reduced;
      }

  -- the last answer, before the last coin
  pub spoken_all : i + 1 ≡ length coins → at' ≡ length room' →
      (room' ≡ answers_along (length coins) (speaks first) 0 coins) × T (all_reduced (modulo modulus) room')
  spoken_all last full =
      let whole : take at' room' ≡ room' = take_all at' room' (omega arith) in
      (sym whole ∙ more_words ∙ ap (λ (n : ℕ). answers_along n (speaks first) 0 coins) last, subst (λ (l : List ℕ). T (all_reduced (modulo modulus) l)) whole more_reduced)

-- the coins before the last one are the first coins
pub before_last : (coins before : List ℕ) (last i : ℕ) → coins ≡ before ++ (last ∷ []) → i < length before → get_or coins i 0 ≡ get_or before i 0
before_last coins before last i split inside = ap (λ (xs : List ℕ). get_or xs i 0) split ∙ get_or_append_left before (last ∷ []) 0 i inside

no_words : (copies inputs : ℕ) (ls : List Layer) → layer_coins copies ls inputs ≡ 0 → layer_words copies ls inputs ≡ 0
unfolding layer_coins layer_words
no_words copies inputs [] e = refl
no_words copies inputs (l ∷ ls) e = absurd (omega arith)

-- where one coin is left, so is one answer
pub last_words : (t : HonestProver) → coins_left t ≡ 1 → words_left t ≡ answer_length t
last_words t one =
    let done : length (history t) ≡ variables_of t = omega (arith, t.within) in
    let none : layer_coins (copies_of t) (layers_seen t.rest) (inputs_below t.rest) ≡ 0 = omega arith in
    let words = no_words (copies_of t) (inputs_below t.rest) (layers_seen t.rest) none in
    let two : answer_length t ≡ 2 = ap (λ (b : Bool). cond b 4 2) (le-ltb (length (history t)) (variables_of t) (omega arith)) in
    omega arith
