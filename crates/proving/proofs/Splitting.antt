-- Answers that lie side by side, taken apart again: those of four numbers each.
-- And the answers along coins, from some of these coins on.
use Rattle.std.proofs.Common.{◌≡◌, ℕ, zero, suc, ◌+◌, ◌*◌, ◌<◌, List, [], ◌++◌, length, get_or, take, drop, sym, refl, ap, ◌∙◌, ap₂, append_assoc, le_of_suc-le-suc, not-suc-le-zero, add-zero, add_assoc, arith, length-append, take-add}
use Rattle.std.proofs.lemmas.List.{take_at, drop_at}
use Rattle.argument.specs.Sumcheck.{Prover}
use Rattle.argument.specs.Transcript.{fours, answers_along}

pub along_shift : (f g : Prover ℕ) (coins : List ℕ) (first : ℕ) → ((later : List ℕ) → g later ≡ f (take first coins ++ later)) → (m k : ℕ) →
    answers_along m f (first + k) coins ≡ answers_along m g k (drop first coins)
unfolding answers_along
along_shift f g coins first e zero k = refl
along_shift f g coins first e (suc m) k =
    ap₂ {C = List ℕ} (λ (a b : List ℕ). a ++ b) (ap f (take-add first k coins) ∙ sym (e (take k (drop first coins))))
    (ap (λ (n : ℕ). answers_along m f n coins) (add_assoc first k 1) ∙ along_shift f g coins first e m (k + 1))

module _ (g : Prover ℕ) (coins : List ℕ) where
  abbrev Four : ℕ → ℕ → Type 0
  Four v n = (i : ℕ) → i < v → length (g (take (n + i) coins)) ≡ 4

  first_four : (v n : ℕ) → Four (suc v) n → length (g (take n coins)) ≡ 4
  first_four v n four = ap (λ (k : ℕ). length (g (take k coins))) (sym (add-zero n)) ∙ four 0 (omega arith)

  later_four : (v n : ℕ) → Four (suc v) n → Four v (n + 1)
  later_four v n four i h =
      let place : n + 1 + i ≡ n + suc i = omega arith in
      ap (λ (k : ℕ). length (g (take k coins))) place ∙ four (suc i) (omega arith)

  along_length : (v n : ℕ) → Four v n → length (answers_along v g n coins) ≡ 4 * v
  unfolding answers_along
  along_length zero n four = refl
  along_length (suc v) n four =
      omega (arith, length-append (g (take n coins)) (answers_along v g (n + 1) coins), first_four v n four, along_length v (n + 1) (later_four v n four))

  pub fours_rest : (v n : ℕ) (rest : List ℕ) → Four v n → drop (4 * v) (answers_along v g n coins ++ rest) ≡ rest
  fours_rest v n rest four = drop_at (answers_along v g n coins) rest (4 * v) (along_length v n four)

  pub fours_at : (v n : ℕ) (rest : List ℕ) → Four v n → (i : ℕ) → i < v → get_or (fours v (answers_along v g n coins ++ rest)) i [] ≡ g (take (n + i) coins)
  unfolding fours answers_along
  fours_at zero n rest four i h = absurd (not-suc-le-zero h)
  fours_at (suc v) n rest four zero h =
      let A : List ℕ = g (take n coins) in
      let B : List ℕ = answers_along v g (n + 1) coins in
      ap (take 4) (append_assoc A B rest) ∙ take_at A (B ++ rest) 4 (first_four v n four) ∙ ap (λ (k : ℕ). g (take k coins)) (sym (add-zero n))
  fours_at (suc v) n rest four (suc i) h =
      let A : List ℕ = g (take n coins) in
      let B : List ℕ = answers_along v g (n + 1) coins in
      let place : n + 1 + i ≡ n + suc i = omega arith in
      ap (λ (ws : List ℕ). get_or (fours v ws) i []) (ap (drop 4) (append_assoc A B rest) ∙ drop_at A (B ++ rest) 4 (first_four v n four))
      ∙ fours_at v (n + 1) rest (later_four v n four) i (le_of_suc-le-suc h)
      ∙ ap (λ (k : ℕ). g (take k coins)) place
