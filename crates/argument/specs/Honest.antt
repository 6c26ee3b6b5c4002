-- The honest prover: what it answers, as a function of the coins drawn so far.
-- Its answers are sums over the corners that are left of the expression that the layer's claim is about.
use Rattle.std.specs.Prelude.{ℕ, ◌^◌, List, [], ◌∷◌, ◌++◌, take, drop}
use Rattle.arithmetic.specs.Numbers.{Numbers}
use Rattle.tables.specs.Multilinear.{mle, sum_corners}
use Rattle.circuits.specs.Circuit.{Layer, Circuit, size_below, all_values, outputs}
use Rattle.argument.specs.Claims.{Claim, expected}
use Rattle.argument.specs.Sumcheck.{Prover, respond}
use Rattle.argument.specs.Argument.{claim_below, first_claim, first_coins}

module _ {K : Type 0} (N : Numbers K) where
  -- the two values below, and then, after the coin s, `next`
  unfoldable pub two_values : K → K → (K → Prover K) → Prover K
  two_values a b next [] = a ∷ b ∷ []
  two_values a b next (s ∷ coins) = next s coins

  -- from a claim about the top one of these layers down to the inputs vs
  unfoldable pub honest_from : ℕ → List Layer → ℕ → List K → Claim K → Prover K
  honest_from copies [] inputs vs k coins = []
  honest_from copies (l ∷ ls) inputs vs k coins =
      let below = size_below ls inputs in
      let V : List K → K = mle N (all_values N ls (2 ^ inputs) (2 ^ copies) vs) in
      let S : List K → List K → List K → K = λ c x y. expected N l below k c x y (V (c ++ x)) (V (c ++ y)) in
      respond N copies (λ c. sum_corners N below (λ x. sum_corners N below (λ y. S c x y)))
      (λ c. respond N below (λ x. sum_corners N below (λ y. S c x y))
      (λ x. respond N below (λ y. S c x y)
      (λ y. two_values (V (c ++ x)) (V (c ++ y))
      (λ s. honest_from copies ls inputs vs (claim_below N c x y (V (c ++ x)) (V (c ++ y)) s)))))
      coins

  -- the first coins choose the outputs' point; nothing is answered before the last of them
  abbrev pub honest : Circuit → List K → Prover K
  honest c vs coins =
      honest_from c.copies c.layers c.inputs vs (first_claim N c (outputs N c vs) (take (first_coins c) coins))
      (drop (first_coins c) coins)
