-- A polynomial given by its values at 0, 1, 2, .. and looked at anywhere, by Newton's differences.
-- With inverses of 1, 2 and 3 at hand it takes up to four values: a cubic.
use Rattle.std.specs.Prelude.{ℕ, zero, suc, ◌+◌, List, [], ◌∷◌, length}
use Rattle.arithmetic.specs.Numbers.{Numbers}

module _ {K : Type 0} (N : Numbers K) where
  open N use {add, sub, mul, nat, inverse}

  -- b - a for each two neighbours a, b
  unfoldable pub differences : List K → List K
  differences [] = []
  differences (a ∷ []) = []
  differences (a ∷ b ∷ ys) = sub b a ∷ differences (b ∷ ys)

  -- ys are the i-th differences of the values: the first, plus (x - i) / (i + 1) times the same of their own differences
  unfoldable pub newton : ℕ → ℕ → List K → K → K
  newton zero i ys x = nat 0
  newton (suc fuel) i [] x = nat 0
  newton (suc fuel) i (y ∷ ys) x =
      add y (mul (mul (sub x (nat i)) (inverse (i + 1))) (newton fuel (i + 1) (differences (y ∷ ys)) x))

  -- the value at x of the polynomial of degree below length ys that has the values ys at 0, 1, 2, ..
  abbrev pub interpolate : List K → K → K
  interpolate ys x = newton (length ys) 0 ys x
