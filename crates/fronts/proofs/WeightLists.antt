-- The weights of a layer's gates as a list, from what stands at each of its places.
-- And facts about a front, carried from what a call left to the whole.
use Rattle.std.proofs.Common.{◌≡◌, ℕ, zero, suc, ◌+◌, ◌<◌, T, ltb, List, ◌++◌, length, get_or, take, replicate, sym, refl, ap, ◌∙◌, subst, le_of_suc-le-suc, not-suc-le-zero, add-zero, zero-add, arith, lt→ltb}
use Rattle.std.proofs.lemmas.List.{ext_get_or, take_at}
use Rattle.arithmetic.specs.Numbers.{Numbers, modulo, all_reduced}
use Rattle.arithmetic.proofs.Truth.{and_both}
use Rattle.argument.specs.Claims.{Share}
use Rattle.claims.specs.Sums.{share_weight}
use Rattle.fronts.specs.Gathers.{weights}

module _ {K : Type 0} (N : Numbers K) where
  weights-length : (size : ℕ) (ss : List (Share K)) (i n : ℕ) → length (weights N size ss i n) ≡ n
  unfolding weights
  weights-length size ss i zero = refl
  weights-length size ss i (suc n) = ap suc (weights-length size ss (i + 1) n)

  weights_at : (size : ℕ) (ss : List (Share K)) (i n k : ℕ) (d : K) → k < n → get_or (weights N size ss i n) k d ≡ share_weight N size ss (i + k)
  unfolding weights
  weights_at size ss i zero k d h = absurd (not-suc-le-zero h)
  weights_at size ss i (suc n) zero d h = ap (share_weight N size ss) (sym (add-zero i))
  weights_at size ss i (suc n) (suc k) d h =
      let place : i + 1 + k ≡ i + suc k = omega arith in
      weights_at size ss (i + 1) n k d (le_of_suc-le-suc h) ∙ ap (share_weight N size ss) place

pub weights_from : (p size n : ℕ) (ss : List (Share ℕ)) (ws : List ℕ) → length ws ≡ n →
    ((i : ℕ) → i < n → get_or ws i 0 ≡ share_weight (modulo p) size ss i) → ws ≡ weights (modulo p) size ss 0 n
weights_from p size n ss ws e at =
    let N = modulo p in
    ext_get_or 0 ws (weights N size ss 0 n) (e ∙ sym (weights-length N size ss 0 n))
    (λ i h. at i (omega arith) ∙ ap (share_weight N size ss) (sym (zero-add i)) ∙ sym (weights_at N size ss 0 n i 0 (omega arith)))

-- a front that a call left is reduced in the whole
pub front_reduced : (p count : ℕ) (new rest : List ℕ) → length new ≡ count → T (all_reduced (modulo p) new) → T (all_reduced (modulo p) (take count (new ++ rest)))
front_reduced p count new rest e t = subst (λ (l : List ℕ). T (all_reduced (modulo p) l)) (sym (take_at new rest count e)) t

-- a front of zeros
pub zeros_reduced : (p : ℕ) → 0 < p → (n : ℕ) → T (all_reduced (modulo p) (replicate n 0))
unfolding all_reduced
zeros_reduced p h zero = tt
zeros_reduced p h (suc n) = and_both (ltb 0 p) (all_reduced (modulo p) (replicate n 0)) (lt→ltb 0 p h) (zeros_reduced p h n)
