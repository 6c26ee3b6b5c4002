-- Layer by layer: a claim with a wrong total is believed on few rows of coins, down to the inputs.
-- Three sumchecks lead from a claim to two values below; one more coin joins these in a claim about the layer below.
use Rattle.std.proofs.Common.{◌≡◌, ℕ, suc, ◌+◌, ◌*◌, ◌^◌, ◌≤◌, Bool, true, T, eqb, List, [], ◌∷◌, ◌++◌, length, sym, refl, ap, ◌∙◌, ap₂, le_of_eq, arith}
use Rattle.std.proofs.lemmas.Bool.{and_left}
use Rattle.arithmetic.specs.Numbers.{Numbers, all_reduced}
use Rattle.arithmetic.specs.Counting.{count_rows}
use Rattle.arithmetic.proofs.Ring.{Ring}
use Rattle.arithmetic.proofs.Solver.{var, con, ◌:+◌, ◌:*◌, solve}
use Rattle.arithmetic.proofs.Field.{Field, equal_false, equal_no}
use Rattle.arithmetic.proofs.Truth.{T_of_path}
use Rattle.arithmetic.proofs.Counting.{row_length}
use Rattle.arithmetic.proofs.Agreement.{line}
use Rattle.tables.specs.Multilinear.{mle, sum_corners}
use Rattle.tables.proofs.Extension.{reduce-mle}
use Rattle.tables.proofs.Points.{get_or_reduced}
use Rattle.circuits.specs.Circuit.{Layer, size_below, layers_fit, all_values}
use Rattle.argument.specs.Claims.{Claim, share_sum, expected}
use Rattle.argument.specs.Sumcheck.{Prover, after, well_formed, nth, rounds}
use Rattle.argument.specs.Argument.{claim_below, values, believes, layer_coins, layer_chances}
use Rattle.argument.proofs.Copies.{fits, all_values_inputs}
use Rattle.argument.proofs.Gates.{Long}
use Rattle.argument.proofs.Layer.{summand, layer_identity}
use Rattle.argument.proofs.Smooth.{smooth}
use Rattle.argument.proofs.Degree.{degs_c, degs_x, degs_y}
use Rattle.argument.proofs.Sumcheck.{none, coin_falls, well, sumcheck}

module _ {K : Type 0} {N : Numbers K} (F : Field N) where
  open N use {reduce, add, mul, nat, equal, order}

  -- what the claim about the layer below has to say
  pub claim_below-sum : (X c x y : List K) (a b s : K) →
      share_sum N X c (claim_below N c x y a b s).shares ≡ add (mle N X (c ++ x)) (mul s (mle N X (c ++ y)))
  unfolding share_sum
  claim_below-sum X c x y a b s =
      solve F.ring (s ∷ mle N X (c ++ x) ∷ mle N X (c ++ y) ∷ []) (con 1 :* var 1 :+ (var 0 :* var 2 :+ con 0)) (var 1 :+ var 0 :* var 2) refl

  -- two wrong values make a right claim about the layer below for one number at most
  values_few : (l : Layer) (m : ℕ) (k : Claim K) (X c x y : List K) (next : Claim K → Prover K → List K → Bool) (n B : ℕ) →
      ((a b s : K) (g : Prover K) → (add a (mul s b) ≡ share_sum N X c (claim_below N c x y a b s).shares → ⊥) →
      count_rows N n (next (claim_below N c x y a b s) g) * order ≤ B * order ^ n) →
      (f : Prover K) (total : K) → (total ≡ summand F.ring l m k X c x y → ⊥) →
      count_rows N (suc n) (values N l m k c x y next f total) * order ≤ (1 + B) * order ^ suc n
  unfolding values
  values_few l m k X c x y next n B h f total wrong =
      let answer : List K = f [] in
      let a : K = nth N answer 0 in
      let b : K = nth N answer 1 in
      let a' : K = mle N X (c ++ x) in
      let b' : K = mle N X (c ++ y) in
      coin_falls F n 1 B (well_formed N 2 answer) (equal (expected N l m k c x y a b) total)
      (λ s. equal (add a (mul s b)) (add a' (mul s b'))) (values N l m k c x y next f total)
      (λ s. next (claim_below N c x y a b s) (after s f)) (λ s rest. refl)
      (λ w e.
      let all : T (all_reduced N answer) = T_of_path (all_reduced N answer) (well F 2 answer w).1 in
      let two : length answer ≡ 2 = (well F 2 answer w).0 in
      line F a b a' b' (get_or_reduced F answer 0 (nat 0) all (omega arith)) (get_or_reduced F answer 1 (nat 0) all (omega arith))
      (reduce-mle F.ring (c ++ x) X) (reduce-mle F.ring (c ++ y) X)
      (λ p q. wrong (sym (F.equal_true (expected N l m k c x y a b) total e) ∙ ap₂ (λ u v. expected N l m k c x y u v) p q)))
      (λ w e s coin good. h a b s (after s f)
      (λ d. equal_false F (add a (mul s b)) (add a' (mul s b')) good (d ∙ claim_below-sum X c x y a b s)))

  module _ (copies inputs : ℕ) (vs : List K) (full : length vs ≡ 2 ^ copies * 2 ^ inputs) where
    pub layers_few : (ls : List Layer) (k : Claim K) (f : Prover K) → layers_fit ls inputs ≡ true →
        length k.copy ≡ copies → Long (size_below ls inputs) k.shares →
        (k.total ≡ share_sum N (all_values N ls (2 ^ inputs) (2 ^ copies) vs) k.copy k.shares → ⊥) →
        count_rows N (layer_coins copies ls inputs) (believes N copies ls inputs vs k f) * order ≤
        layer_chances copies ls inputs * order ^ layer_coins copies ls inputs
    unfolding believes layer_coins layer_chances
    layers_few [] k f fit long points wrong =
        none F 0 (0 * order ^ 0) (believes N copies [] inputs vs k f)
        (λ x r. and_left (equal (share_sum N vs k.copy k.shares) k.total) (eqb (length x) 0)
        (equal_no F (share_sum N vs k.copy k.shares) k.total
        (λ e. wrong (sym e
        ∙ ap (λ (X : List K). share_sum N X k.copy k.shares) (sym (all_values_inputs N (2 ^ inputs) (2 ^ copies) vs full))))))
    layers_few (l ∷ ls) k f fit long points wrong =
        let m : ℕ = size_below ls inputs in
        let X : List K = all_values N ls (2 ^ inputs) (2 ^ copies) vs in
        let rest : ℕ = layer_coins copies ls inputs in
        let B : ℕ = layer_chances copies ls inputs in
        let R : Ring N = F.ring in
        let S : List K → List K → List K → K = summand R l m k X in
        let next : Claim K → Prover K → List K → Bool = believes N copies ls inputs vs in
        let coins : (copies + 2 * m + 1) + rest ≡ copies + (m + (m + suc rest)) = omega arith in
        let chances : (3 * (copies + 2 * m) + 1) + B ≡ 3 * copies + (3 * m + (3 * m + (1 + B))) = omega arith in
        rw (coins, chances)
        (sumcheck F copies (m + (m + suc rest)) (3 * m + (3 * m + (1 + B))) (λ c. sum_corners N m (λ x. sum_corners N m (λ y. S c x y)))
        (λ c. rounds N m (λ x. rounds N m (λ y. values N l m k c x y next))) f k.total
        (smooth R copies (λ c. sum_corners N m (λ x. sum_corners N m (λ y. S c x y))) (degs_c R l m k X copies long))
        (λ e. wrong (e ∙ layer_identity R l ls inputs copies vs fit (le_of_eq (sym full)) k long points))
        (λ c rc g v w.
        sumcheck F m (m + suc rest) (3 * m + (1 + B)) (λ x. sum_corners N m (λ y. S c x y))
        (λ x. rounds N m (λ y. values N l m k c x y next)) g v
        (smooth R m (λ x. sum_corners N m (λ y. S c x y)) (degs_x R l m k X c)) w
        (λ x rx g v w.
        sumcheck F m (suc rest) (1 + B) (λ y. S c x y) (λ y. values N l m k c x y next) g v
        (smooth R m (λ y. S c x y) (degs_y R l m k X c x)) w
        (λ y ry g v w.
        values_few l m k X c x y next rest B
        (λ a b s g. layers_few ls (claim_below N c x y a b s) g (fits l ls inputs fit).below (row_length N copies c rc)
        (row_length N m x rx, (row_length N m y ry, tt)))
        g v w))))
