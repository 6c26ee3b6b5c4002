-- The wiring as the code adds it up: over the gates once, with a weight for each gate and a factor for each place below.
-- The weight of a gate is what all shares of a claim together have at the gate's corner.
use Rattle.std.specs.Prelude.{ℕ, ◌+◌, cond, List, [], ◌∷◌}
use Rattle.arithmetic.specs.Numbers.{Numbers}
use Rattle.tables.specs.Multilinear.{eq_poly, bits_of}
use Rattle.circuits.specs.Circuit.{Kind, Gate}
use Rattle.argument.specs.Claims.{Share, same_kind}

module _ {K : Type 0} (N : Numbers K) where
  open N use {add, mul, nat}

  -- the gates of one kind, from place i on, each with its weight and the factors of its two places
  unfoldable pub weighted_wiring : Kind → (ℕ → K) → (ℕ → K) → (ℕ → K) → ℕ → List Gate → K
  weighted_wiring kind weight at_x at_y i [] = nat 0
  weighted_wiring kind weight at_x at_y i (g ∷ gs) =
      add (cond (same_kind kind g.kind) (mul (weight i) (mul (at_x g.left) (at_y g.right))) (nat 0))
      (weighted_wiring kind weight at_x at_y (i + 1) gs)

  -- the sum, over shares, of the factor times what is 1 at the corner of place i, extended to the share's point
  unfoldable pub share_weight : ℕ → List (Share K) → ℕ → K
  share_weight size [] i = nat 0
  share_weight size (s ∷ ss) i = add (mul s.factor (eq_poly N (bits_of N size i) s.point)) (share_weight size ss i)
