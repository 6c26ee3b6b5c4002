-- What the honest prover says along coins, written down and taken apart again, is what it says.
-- Layer by layer: answers of four numbers for the variables, one of two, and then those of the layers below.
use Rattle.std.proofs.Common.{◌≡◌, ℕ, zero, suc, ◌+◌, ◌-◌, ◌*◌, ◌^◌, ◌<◌, List, [], ◌∷◌, ◌++◌, length, get_or, take, drop, sym, refl, ap, ◌∙◌, append_assoc, append-nil, arith, length-drop, take-add}
use native.Mathlib.Decide.{dec_lt}
use Rattle.std.proofs.lemmas.List.{length-take-le, take_at, drop_at, drop-drop, take_more, get_or_append_left, get_or-append_right}
use Rattle.arithmetic.specs.Numbers.{Numbers}
use Rattle.tables.specs.Multilinear.{mle}
use Rattle.circuits.specs.Circuit.{Layer, size_below, all_values}
use Rattle.argument.specs.Claims.{Claim}
use Rattle.argument.specs.Sumcheck.{Prover, respond}
use Rattle.argument.specs.Argument.{claim_below, layer_coins}
use Rattle.argument.specs.Honest.{honest_from}
use Rattle.argument.specs.Transcript.{fours, answers_of, answers_along}
use Rattle.verdicts.proofs.Spoken.{along_append, fours-length}
use Rattle.proving.proofs.Splitting.{along_shift, fours_rest, fours_at}
use Rattle.prover.proofs.Telling.{history_copies, history_left, history_right, history_values, history_next}

module _ (N : Numbers ℕ) where
  respond_four : (n : ℕ) (G : List ℕ → ℕ) (next : List ℕ → Prover ℕ) → 0 < n → length (respond N n G next []) ≡ 4
  unfolding respond
  respond_four zero G next h = absurd (omega arith)
  respond_four (suc n) G next h = refl

  module _ (copies : ℕ) (l : Layer) (ls : List Layer) (inputs : ℕ) (vs : List ℕ) (k : Claim ℕ) (coins : List ℕ) (rest : ℕ)
      (many : length coins ≡ copies + 2 * size_below ls inputs + 1 + rest) where
    abbrev m : ℕ
    m = size_below ls inputs

    abbrev says : Prover ℕ
    says = honest_from N copies (l ∷ ls) inputs vs k

    abbrev c : List ℕ
    c = take copies coins

    abbrev x : List ℕ
    x = take m (drop copies coins)

    long_c : length c ≡ copies
    long_c = length-take-le copies coins (omega arith)

    long_x : length x ≡ m
    long_x = length-take-le m (drop copies coins) (omega (arith, length-drop copies coins))

    -- some coins into each part
    in_copies : (i : ℕ) → i < copies → length (says (take i coins)) ≡ 4
    in_copies i h =
        let long : length (take i coins) ≡ i = length-take-le i coins (omega arith) in
        let all : length (take i coins) + (copies - i) ≡ copies = omega arith in
        ap (λ (d : List ℕ). length (says d)) (sym (append-nil (take i coins)))
        ∙ ap length (history_copies N copies l ls inputs vs k (take i coins) (copies - i) [] all) ∙ respond_four (copies - i) _ _ (omega arith)

    in_left : (i : ℕ) → i < m → length (says (c ++ take i (drop copies coins))) ≡ 4
    in_left i h =
        let w : List ℕ = take i (drop copies coins) in
        let long : length w ≡ i = length-take-le i (drop copies coins) (omega (arith, length-drop copies coins)) in
        let all : length w + (m - i) ≡ m = omega arith in
        ap (λ (d : List ℕ). length (says (c ++ d))) (sym (append-nil w))
        ∙ ap length (history_left N copies l ls inputs vs k c w (m - i) [] long_c all) ∙ respond_four (m - i) _ _ (omega arith)

    in_right : (i : ℕ) → i < m → length (says (c ++ (x ++ take i (drop m (drop copies coins))))) ≡ 4
    in_right i h =
        let w : List ℕ = take i (drop m (drop copies coins)) in
        let long : length w ≡ i = length-take-le i (drop m (drop copies coins)) (omega (arith, length-drop copies coins, length-drop m (drop copies coins))) in
        let all : length w + (m - i) ≡ m = omega arith in
        ap (λ (d : List ℕ). length (says (c ++ (x ++ d)))) (sym (append-nil w))
        ∙ ap length (history_right N copies l ls inputs vs k c x w (m - i) [] long_c long_x all) ∙ respond_four (m - i) _ _ (omega arith)

    cut_two : (i : ℕ) → take (copies + i) coins ≡ c ++ take i (drop copies coins)
    cut_two i = take-add copies i coins

    cut_three : (i : ℕ) → take (copies + (m + i)) coins ≡ c ++ (x ++ take i (drop m (drop copies coins)))
    cut_three i = take-add copies (m + i) coins ∙ ap (λ (d : List ℕ). c ++ d) (take-add m i (drop copies coins))

    four : (i : ℕ) → i < copies + 2 * m → length (says (take i coins)) ≡ 4
    four i h = go (dec_lt i copies) (dec_lt i (copies + m))
      where
        go : Dec (i < copies) → Dec (i < copies + m) → length (says (take i coins)) ≡ 4
        go (yes a) b = in_copies i a
        go (no a) (yes b) =
            let place : i ≡ copies + (i - copies) = omega arith in
            ap (λ (n : ℕ). length (says (take n coins))) place ∙ ap (λ (d : List ℕ). length (says d)) (cut_two (i - copies)) ∙ in_left (i - copies) (omega arith)
        go (no a) (no b) =
            let place : i ≡ copies + (m + (i - copies - m)) = omega arith in
            ap (λ (n : ℕ). length (says (take n coins))) place ∙ ap (λ (d : List ℕ). length (says d)) (cut_three (i - copies - m))
            ∙ in_right (i - copies - m) (omega arith)

    abbrev y : List ℕ
    y = take m (drop m (drop copies coins))

    long_y : length y ≡ m
    long_y = length-take-le m (drop m (drop copies coins)) (omega (arith, length-drop copies coins, length-drop m (drop copies coins)))

    pub two : length (says (take (copies + 2 * m) coins)) ≡ 2
    two =
        let place : copies + 2 * m ≡ copies + (m + m) = omega arith in
        ap (λ (n : ℕ). length (says (take n coins))) place ∙ ap (λ (d : List ℕ). length (says d)) (cut_three m)
        ∙ ap (λ (d : List ℕ). length (says (c ++ (x ++ d)))) (sym (append-nil y))
        ∙ ap length (history_values N copies l ls inputs vs k c x y long_c long_x long_y)

    abbrev V : List ℕ → ℕ
    V = mle N (all_values N ls (2 ^ inputs) (2 ^ copies) vs)

    abbrev s : ℕ
    s = get_or (drop m (drop m (drop copies coins))) 0 0

    -- from the last of this layer's coins on, the layer below goes on
    pub onward : (later : List ℕ) →
        honest_from N copies ls inputs vs (claim_below N c x y (V (c ++ x)) (V (c ++ y)) s) later ≡ says (take (copies + 2 * m + 1) coins ++ later)
    onward later =
        let place : copies + 2 * m + 1 ≡ copies + (m + (m + 1)) = omega arith in
        let end : List ℕ = drop m (drop m (drop copies coins)) in
        let inside : 0 < length end = omega (arith, length-drop copies coins, length-drop m (drop copies coins), length-drop m (drop m (drop copies coins))) in
        let last : take 1 end ≡ s ∷ [] = take_more end 0 0 inside in
        let whole : take (copies + 2 * m + 1) coins ≡ c ++ (x ++ (y ++ (s ∷ []))) =
        ap (λ (n : ℕ). take n coins) place ∙ cut_three (m + 1) ∙ ap (λ (d : List ℕ). c ++ (x ++ d)) (take-add m 1 (drop m (drop copies coins)) ∙ ap (λ (d : List ℕ). y ++ d) last) in
        let joined : (c ++ (x ++ (y ++ (s ∷ [])))) ++ later ≡ c ++ (x ++ (y ++ (s ∷ later))) =
        append_assoc c (x ++ (y ++ (s ∷ []))) later
        ∙ ap (λ (d : List ℕ). c ++ d) (append_assoc x (y ++ (s ∷ [])) later ∙ ap (λ (d : List ℕ). x ++ d) (append_assoc y (s ∷ []) later)) in
        sym
        (ap says (ap (λ (d : List ℕ). d ++ later) whole ∙ joined)
        ∙ history_next N copies l ls inputs vs k c x y s later long_c long_x long_y)

  -- the words of a layer and of those below it, in three parts
  parts : (copies : ℕ) (ls : List Layer) (inputs : ℕ) (vs : List ℕ) (k : Claim ℕ) (coins : List ℕ) (v rest : ℕ) (below : Prover ℕ) →
      ((later : List ℕ) → below later ≡ honest_from N copies ls inputs vs k (take (v + 1) coins ++ later)) → (room : List ℕ) →
      room ≡ answers_along (v + 1 + rest) (honest_from N copies ls inputs vs k) 0 coins →
      room ≡ answers_along v (honest_from N copies ls inputs vs k) 0 coins ++
      (honest_from N copies ls inputs vs k (take v coins) ++ answers_along rest below 0 (drop (v + 1) coins))
  unfolding answers_along
  parts copies ls inputs vs k coins v rest below e room is =
      let says : Prover ℕ = honest_from N copies ls inputs vs k in
      let split : v + 1 + rest ≡ v + suc rest = omega arith in
      let start : 0 + v ≡ v = omega arith in
      let next : v + 1 ≡ v + 1 + 0 = omega arith in
      is ∙ ap (λ (n : ℕ). answers_along n says 0 coins) split ∙ along_append says coins v (suc rest) 0
      ∙ ap (λ (n : ℕ). answers_along v says 0 coins ++ answers_along (suc rest) says n coins) start
      ∙ ap (λ (d : List ℕ). answers_along v says 0 coins ++ (says (take v coins) ++ d))
      (ap (λ (n : ℕ). answers_along rest says n coins) next ∙ along_shift says below coins (v + 1) e rest 0)

  -- an answer by its place: one of four, that of two, or one of the layers below
  by_place : (copies : ℕ) (ls : List Layer) (inputs v rest : ℕ) (says : Prover ℕ) (coins room : List ℕ) (i : ℕ) → i < v + 1 + rest → (A B C : List ℕ) →
      ((q : ℕ) → q < v → length (says (take q coins)) ≡ 4) → length B ≡ 2 → room ≡ answers_along v says 0 coins ++ (B ++ C) → B ≡ says (take v coins) →
      ((q : ℕ) → q < rest → get_or (answers_of copies ls inputs C) q [] ≡ says (take (v + 1 + q) coins)) →
      get_or (fours v room ++ (take 2 (drop (4 * v) room) ∷ answers_of copies ls inputs (drop (4 * v + 2) room))) i [] ≡ says (take i coins)
  by_place copies ls inputs v rest says coins room i h A B C four two is mid below = go (dec_lt i v) (dec_lt v i)
    where
      four-from : (q : ℕ) → q < v → length (says (take (0 + q) coins)) ≡ 4
      four-from q hq = let place : 0 + q ≡ q = omega arith in ap (λ (n : ℕ). length (says (take n coins))) place ∙ four q hq

      after : drop (4 * v) room ≡ B ++ C
      after = ap (drop (4 * v)) is ∙ fours_rest says coins v 0 (B ++ C) four-from

      second : take 2 (drop (4 * v) room) ≡ B
      second = ap (take 2) after ∙ take_at B C 2 two

      third : drop (4 * v + 2) room ≡ C
      third = sym (drop-drop 2 (4 * v) room) ∙ ap (drop 2) after ∙ drop_at B C 2 two

      go : Dec (i < v) → Dec (v < i) →
          get_or (fours v room ++ (take 2 (drop (4 * v) room) ∷ answers_of copies ls inputs (drop (4 * v + 2) room))) i [] ≡ says (take i coins)
      go (yes low) high =
          let place : 0 + i ≡ i = omega arith in
          get_or_append_left (fours v room) (take 2 (drop (4 * v) room) ∷ answers_of copies ls inputs (drop (4 * v + 2) room)) [] i (omega (arith, fours-length v room))
          ∙ ap (λ (ws : List ℕ). get_or (fours v ws) i []) is ∙ fours_at says coins v 0 (B ++ C) four-from i low ∙ ap (λ (n : ℕ). says (take n coins)) place
      go (no low) (no high) =
          let place : i ≡ v = omega arith in
          let first : i - v ≡ 0 = omega arith in
          get_or-append_right (fours v room) (take 2 (drop (4 * v) room) ∷ answers_of copies ls inputs (drop (4 * v + 2) room)) v i [] (fours-length v room) (omega arith)
          ∙ ap (λ (n : ℕ). get_or (take 2 (drop (4 * v) room) ∷ answers_of copies ls inputs (drop (4 * v + 2) room)) n []) first
          ∙ second ∙ mid ∙ ap (λ (n : ℕ). says (take n coins)) (sym place)
      go (no low) (yes high) =
          let past : i - v ≡ suc (i - v - 1) = omega arith in
          let place : v + 1 + (i - v - 1) ≡ i = omega arith in
          get_or-append_right (fours v room) (take 2 (drop (4 * v) room) ∷ answers_of copies ls inputs (drop (4 * v + 2) room)) v i [] (fours-length v room) (omega arith)
          ∙ ap (λ (n : ℕ). get_or (take 2 (drop (4 * v) room) ∷ answers_of copies ls inputs (drop (4 * v + 2) room)) n []) past
          ∙ ap (λ (ws : List ℕ). get_or (answers_of copies ls inputs ws) (i - v - 1) []) third
          ∙ below (i - v - 1) (omega arith) ∙ ap (λ (n : ℕ). says (take n coins)) place

  -- the i-th answer that was written is the one that is said after i coins
  pub written_honest : (copies : ℕ) (ls : List Layer) (inputs : ℕ) (vs : List ℕ) (k : Claim ℕ) (coins room : List ℕ) →
      length coins ≡ layer_coins copies ls inputs → room ≡ answers_along (layer_coins copies ls inputs) (honest_from N copies ls inputs vs k) 0 coins →
      (i : ℕ) → i < layer_coins copies ls inputs → get_or (answers_of copies ls inputs room) i [] ≡ honest_from N copies ls inputs vs k (take i coins)
  unfolding answers_of layer_coins
  written_honest copies [] inputs vs k coins room many is i h = absurd (omega arith)
  written_honest copies (l ∷ ls) inputs vs k coins room many is i h =
      let v : ℕ = copies + 2 * size_below ls inputs in
      let rest : ℕ = layer_coins copies ls inputs in
      let says : Prover ℕ = honest_from N copies (l ∷ ls) inputs vs k in
      let c : List ℕ = take copies coins in
      let x : List ℕ = take (size_below ls inputs) (drop copies coins) in
      let y : List ℕ = take (size_below ls inputs) (drop (size_below ls inputs) (drop copies coins)) in
      let V : List ℕ → ℕ = mle N (all_values N ls (2 ^ inputs) (2 ^ copies) vs) in
      let below : Claim ℕ = claim_below N c x y (V (c ++ x)) (V (c ++ y)) (s copies l ls inputs vs k coins rest many) in
      let A : List ℕ = answers_along v says 0 coins in
      let B : List ℕ = says (take v coins) in
      let C : List ℕ = answers_along rest (honest_from N copies ls inputs vs below) 0 (drop (v + 1) coins) in
      by_place copies ls inputs v rest says coins room i h A B C (four copies l ls inputs vs k coins rest many) (two copies l ls inputs vs k coins rest many)
      (parts copies (l ∷ ls) inputs vs k coins v rest (honest_from N copies ls inputs vs below) (onward copies l ls inputs vs k coins rest many) room is) refl
      (λ j hj.
      written_honest copies ls inputs vs below (drop (v + 1) coins) C (omega (arith, length-drop (v + 1) coins)) refl j hj
      ∙ onward copies l ls inputs vs k coins rest many (take j (drop (v + 1) coins)) ∙ ap says (sym (take-add (v + 1) j coins)))
