-- What is claimed of a layer, and the expression whose sum over all corners the claim says the same of.
-- A claim has one point among the copies and, for each share, a factor and a point among the layer's gates.
use Rattle.std.specs.Prelude.{ℕ, ◌+◌, Bool, true, false, cond, List, [], ◌∷◌, ◌++◌}
use Rattle.arithmetic.specs.Numbers.{Numbers}
use Rattle.tables.specs.Multilinear.{mle, eq_poly, bits_of}
use Rattle.circuits.specs.Circuit.{Kind, sum, product, Gate, Layer}

pub record Share (K : Type 0) : Type 0 where
  pub factor : K
  pub point : List K

pub record Claim (K : Type 0) : Type 0 where
  pub copy : List K
  pub shares : List (Share K)
  pub total : K

abbrev pub same_kind : Kind → Kind → Bool
same_kind sum sum = true
same_kind sum product = false
same_kind product sum = false
same_kind product product = true

module _ {K : Type 0} (N : Numbers K) where
  open N use {add, mul, nat}

  -- what a claim's total has to be, where the table holds the layer's values: the sum of factor times value
  unfoldable pub share_sum : List K → List K → List (Share K) → K
  share_sum table copy [] = nat 0
  share_sum table copy (s ∷ ss) = add (mul s.factor (mle N table (copy ++ s.point))) (share_sum table copy ss)

  -- the wiring of the gates of one kind, from place i on: 1 at a gate's corner z and its two places' corners x and y,
  -- extended to all points; the layer has 2^size gates, the layer below 2^below values
  unfoldable pub wiring : Kind → ℕ → ℕ → ℕ → List Gate → List K → List K → List K → K
  wiring kind size below i [] z x y = nat 0
  wiring kind size below i (g ∷ gs) z x y =
      add
      (cond (same_kind kind g.kind)
      (mul (eq_poly N (bits_of N size i) z)
      (mul (eq_poly N (bits_of N below g.left) x) (eq_poly N (bits_of N below g.right) y)))
      (nat 0))
      (wiring kind size below (i + 1) gs z x y)

  -- the same over all shares of a claim: A(x, y) for sums, M(x, y) for products
  unfoldable pub shared_wiring : Kind → Layer → ℕ → List (Share K) → List K → List K → K
  shared_wiring kind l below [] x y = nat 0
  shared_wiring kind l below (s ∷ ss) x y =
      add (mul s.factor (wiring kind l.size below 0 l.gates s.point x y)) (shared_wiring kind l below ss x y)

  -- E(c) (A(x, y) (a + b) + M(x, y) a b), where a and b stand for the values below at (c, x) and (c, y)
  abbrev pub expected : Layer → ℕ → Claim K → List K → List K → List K → K → K → K
  expected l below k c x y a b =
      mul (eq_poly N k.copy c)
      (add (mul (shared_wiring sum l below k.shares x y) (add a b))
      (mul (shared_wiring product l below k.shares x y) (mul a b)))
